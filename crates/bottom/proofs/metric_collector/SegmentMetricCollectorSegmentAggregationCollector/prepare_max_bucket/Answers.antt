-- The slots are enough for the buckets, or the buckets are too many.
use Rattle.std.proofs.Common.{length, refl, arith}
use Rattle.std.proofs.lemmas.Result.{MatchResult-weaker}
use Rattle.stack.proofs.Chaining.{went_none}
use Rattle.bottom.proofs.Filling.{refused_past}
use Rattle.bottom.proofs.metric_collector.SegmentMetricCollectorSegmentAggregationCollector.prepare_max_bucket.Goals as goal

pub returns : goal.returns
returns g c =
    let s = c.args.self.now in
    MatchResult-weaker c.check_slots.result c.check_slots.ensures
    (λ _ few. ((λ seg. went_none (λ D. refl)), ((λ settled. settled), few)))
    (λ f past seg. refused_past s.column s.field_type (length c.args.slots.now) c.args.buckets s.number seg _ _ (λ D. D) c.args._limits.now f
    (omega (arith, past.1)) (λ b i. i) (λ n b D h. h.0) past.0)
