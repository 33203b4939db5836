-- An empty table over an emptied cache.
use Rattle.std.proofs.Common.{◌≡◌, ℕ, ◌+◌, ◌-◌, ◌^◌, min, None, sym, subst, ap₂, arith}
use Rattle.stack.specs.Overruns.{none_yet}
use Rattle.collectors.specs.Filing.{on_top}
use Rattle.collectors.specs.Carrying.{waits_none}
use Rattle.collectors.specs.Holding.{held_none, none_of}
use Rattle.collectors.proofs.bucket_collector.SegmentBucketCollectorSegmentAggregationCollector.reset.Goals as goal

pub returns : goal.returns
returns g c =
    let rows = g.K.RowTable in
    let cache = g.C.SubAggCache in
    let t = rows.table c.reset.new.self in
    let is = c.reset-2.new.self in
    let slots = c.reset-2.new.slots in
    let empties = c.reset.ensures.empties in
    let below = c.reset-2.ensures.empties in
    let next : c.saturating_add.result ≡ min (c.args.level + 1) (2 ^ 32 - 1) = c.saturating_add.ensures in
    record {
      plans = λ e. let both = none_of _ _ e in ap₂ on_top (c.reset.ensures.plans both.0) (c.reset-2.ensures.plans (subst (λ (k : ℕ). cache.refused c.args.request.now.below c.args.ranges.now (g.S.Segment.means c.args.seg.now).column_type k ≡ None) (sym next) both.1));
      empties = (
        (λ few seg nb. held_none t (g.met.K.RowTable.sound c.reset.new.self) seg c.args.level nb (cache.stored is slots seg) (cache.waiting is) empties.0 empties.1
            (waits_none (g.met.C.SubAggCache.waits is) below.2) (subst (λ (k : ℕ). cache.stored is slots seg k t.rows none_yet) (omega (arith, next, few)) (below.0 (omega (arith, next, few)) seg t.rows))),
        omega (arith, empties.0, below.1),
      );
    }
