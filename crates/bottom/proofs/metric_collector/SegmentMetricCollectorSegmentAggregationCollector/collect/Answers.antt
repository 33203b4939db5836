-- The bucket's slot takes the documents, or there is none.
use Rattle.std.proofs.Common.{◌+◌, length, refl, arith}
use Rattle.std.proofs.lemmas.Result.{err_from_is_err_and}
use Rattle.stack.specs.Overruns.{added}
use Rattle.stack.proofs.Chaining.{charged_none}
use Rattle.bottom.specs.Bottoms.{bottom_plan}
use Rattle.bottom.proofs.Filling.{slots_fed, refused_past}
use Rattle.bottom.proofs.metric_collector.SegmentMetricCollectorSegmentAggregationCollector.collect.Goals as goal

pub returns-in_err-check_slots : goal.returns-in_err-check_slots
returns-in_err-check_slots g c =
    let q = err_from_is_err_and c.from_residual.result c.from_residual.ensures.1 in
    let s = c.args.self.now in
    let past = c.in_err-check_slots.ensures in
    rw (q.1, q.2) (refused_past s.column s.field_type (length c.args.slots.now) (c.args.bucket + 1) s.number (g.S.Segment.means c.args.seg.now) _ _ (λ D. added D c.args.bucket c.args.docs.now) c.args._limits.now c.in_err-check_slots.field-0.0
    (omega (arith, past.1)) (λ b i. omega (arith, i)) (λ n b D h. h.0) past.0)

pub returns : goal.returns
returns g c =
    let t = g.T.Tally in
    let s = c.args.self.now in
    record {
      keeps = λ n buckets i D h.
          (h.0, slots_fed t.worth t.nothing t.fed (bottom_plan s.column s.field_type) (g.S.Segment.means c.args.seg.now) c.args.slots.now c.feed_slot.new.slots c.args.bucket c.args.docs.now c.feed_slot.ensures D h.1);
      same_plan = refl;
      charged = charged_none c.args._limits.now 0 0 refl;
    }
