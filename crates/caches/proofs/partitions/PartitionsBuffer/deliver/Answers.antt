-- Each turn delivers one partition; a refused one refuses the whole.
use Rattle.std.proofs.Common.{◌≡◌, ℕ, ◌+◌, List, length, slice_get, Some, get_or, take, drop, sym, ap, subst, arith}
use Rattle.std.proofs.Math.Path.{fun_ext}
use Rattle.std.proofs.lemmas.Option.{slice_get-get_or}
use Rattle.std.proofs.lemmas.Result.{err_from_is_err_and}
use Rattle.records.specs.declared.fault.Fault.{Fault}
use Rattle.segments.specs.Segments.{Seg}
use Rattle.stack.specs.Levels.{Plan}
use Rattle.stack.specs.Overruns.{Deliveries, all_added}
use Rattle.stack.specs.Calls.{docs_for, Inside, State, Holds, Accepted, Refused}
use Rattle.caches.specs.declared.pairs.Pairs.{Pairs}
use Rattle.caches.specs.Grouping.{part_waits, group_waits}
use Rattle.caches.specs.Groups.{none_first, first_more, first_rest, part_inside}
use Rattle.caches.specs.Parts.{went_first, went-part, overran-there}
use Rattle.caches.proofs.partitions.PartitionsBuffer.deliver.Goals as goal

-- the call of a turn, which delivers partition n, lent as two slices, after those before it
module _ (ps : List Pairs) (n : ℕ) (p : Pairs) (there : slice_get ps n ≡ Some p) (bs ds : List ℕ) (lent : (bs ≡ take p.len p.bucket_ids) × (ds ≡ take p.len p.docs))
    {C T : Type 0} (holds : Holds C T) (plan : C → Plan) (made : C → ℕ) (g : Seg) (was is after : State C T)
    (so_far : Accepted holds plan made g was is (Inside (group_waits ps)) (λ D. all_added D (group_waits (take n ps)))) where
  abbrev part : Deliveries
  part b = docs_for b bs ds

  is-part : part ≡ part_waits p
  is-part = fun_ext (λ b i. docs_for b (lent.0 i) (lent.1 i))

  within : (buckets : ℕ) → Inside (group_waits ps) buckets → Inside part buckets
  within buckets i = subst (λ (W : Deliveries). Inside W buckets) (sym is-part) (part_inside ps n p there buckets i)

  went_on : Accepted holds plan made g is after (Inside part) (λ D. all_added D part) → Accepted holds plan made g was after (Inside (group_waits ps)) (λ D. all_added D (group_waits (take (n + 1) ps)))
  went_on = went-part holds plan made g was is (group_waits ps) (group_waits (take n ps)) (part_waits p) (group_waits (take (n + 1) ps)) (group_waits (drop (n + 1) ps))
      (λ b. sym (first_more ps n p there b)) (λ b. sym (first_rest (n + 1) ps b)) so_far (Inside part) (λ D. all_added D part) within (λ D. ap (all_added D) is-part) after

  refused : length is.1 ≡ length was.1 → (f : Fault) → Refused holds plan made g is after (Inside part) (λ D. all_added D part) f → Refused holds plan made g was after (Inside (group_waits ps)) (λ D. all_added D (group_waits ps)) f
  refused = overran-there holds plan made g was is (group_waits ps) (group_waits (take n ps)) (part_waits p) (group_waits (take (n + 1) ps)) (group_waits (drop (n + 1) ps))
      (λ b. sym (first_more ps n p there b)) (λ b. sym (first_rest (n + 1) ps b)) so_far (Inside part) (λ D. all_added D part) within (λ D. ap (all_added D) is-part) after

pub loop-partition-init : goal.loop-partition-init
loop-partition-init g c =
    let level = g.L.SegmentAggregationCollector in
    let ps = c.args.self.now.partitions in
    went_first level.holds level.plan level.made (g.S.Segment.means c.args.seg.now) (c.args.below.now, c.args.slots.now, c.args.limits.now) (group_waits ps) (group_waits (take 0 ps)) (none_first ps)

pub loop-partition-preserved : goal.loop-partition-preserved
loop-partition-preserved g c =
    let level = g.L.SegmentAggregationCollector in
    let there = slice_get-get_or c.args.self.now.partitions c.loop-partition.partition-index c.partition-item.result (omega (arith, c.args.self.now.sixteen, c.loop-partition-test.true)) in
    went_on c.args.self.now.partitions c.loop-partition.partition-index _ there c.as_slices.result.0.now c.as_slices.result.1.now c.as_slices.ensures
    level.holds level.plan level.made (g.S.Segment.means c.args.seg.now)
    (c.args.below.now, c.args.slots.now, c.args.limits.now) (c.loop-partition.below, c.loop-partition.slots, c.loop-partition.limits)
    (c.collect_multiple.new.self, c.collect_multiple.new.slots, c.collect_multiple.new.limits) c.loop-partition.invariant
    c.in_ok-collect_multiple.ensures

pub returns-in_err-collect_multiple : goal.returns-in_err-collect_multiple
returns-in_err-collect_multiple g c =
    let r = err_from_is_err_and c.from_residual.result c.from_residual.ensures.1 in
    let level = g.L.SegmentAggregationCollector in
    let there = slice_get-get_or c.args.self.now.partitions c.loop-partition.partition-index c.partition-item.result (omega (arith, c.args.self.now.sixteen, c.loop-partition-test.true)) in
    rw (r.1, r.2) (refused c.args.self.now.partitions c.loop-partition.partition-index _ there c.as_slices.result.0.now c.as_slices.result.1.now c.as_slices.ensures
    level.holds level.plan level.made (g.S.Segment.means c.args.seg.now)
    (c.args.below.now, c.args.slots.now, c.args.limits.now) (c.loop-partition.below, c.loop-partition.slots, c.loop-partition.limits)
    (c.collect_multiple.new.self, c.collect_multiple.new.slots, c.collect_multiple.new.limits) c.loop-partition.invariant
    c.loop-partition.auto.slots c.in_err-collect_multiple.field-0.0 c.in_err-collect_multiple.ensures)
