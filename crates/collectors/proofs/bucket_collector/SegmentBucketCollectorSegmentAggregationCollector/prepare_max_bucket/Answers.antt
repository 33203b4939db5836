-- The rows here are made, and then those below every row.
use Rattle.std.proofs.Common.{ℕ, length, refl, ◌∙◌, subst, arith}
use Rattle.std.proofs.lemmas.Result.{err_from_is_err_and, MatchResult-weaker}
use Rattle.segments.specs.Segments.{Seg}
use Rattle.stack.proofs.Delivering.{more_refl}
use Rattle.collectors.specs.Holding.{prepared_went, unprepared_overran, below_went, below_overran, carried_by, overran_by}
use Rattle.stack.proofs.Chaining.{went_then, went_overran}
use Rattle.collectors.proofs.bucket_collector.SegmentBucketCollectorSegmentAggregationCollector.prepare_max_bucket.Goals as goal

pub returns-in_err-prepare : goal.returns-in_err-prepare
returns-in_err-prepare g c =
    let q = err_from_is_err_and c.from_residual.result c.from_residual.ensures.1 in
    rw (q.1, q.2) (λ (seg : Seg). unprepared_overran (g.met.K.RowTable.sound c.prepare.new.self) (g.met.C.SubAggCache.rows c.args.self.now.below c.args.slots.now seg) c.in_err-prepare.ensures)

pub returns : goal.returns
returns g c =
    let cache = g.C.SubAggCache in
    let was = c.args.self.now.below in
    let is = c.prepare_max_bucket.new.self in
    let slots = c.args.slots.now in
    let sound = g.met.K.RowTable.sound c.prepare.new.self in
    let made = c.in_ok-prepare.ensures in
    let wider = λ (seg : Seg). g.met.C.SubAggCache.wider was slots seg in
    MatchResult-weaker c.prepare_max_bucket.result c.prepare_max_bucket.ensures
    (λ x done. (
      (λ seg. went_then (prepared_went sound seg (cache.made was) (wider seg) made) (carried_by seg (λ n E r. omega (arith, c.num_rows-rows.ensures)) (below_went done.1.0 (done.0 seg))) (λ _ h. h) (λ D. refl)),
      (
        (λ s. (done.1.1 ∙ s.0, done.1.2 s.1)),
        (made.complete, subst (λ (k : ℕ). cache.prepared is (length slots) k) c.num_rows-rows.ensures done.1.3),
      ),
    ))
    (λ f over seg. went_overran refl (prepared_went sound seg (cache.made was) (wider seg) made) (overran_by sound (λ n E r. omega (arith, c.num_rows-rows.ensures)) (below_overran (over seg))) (λ _ h. h) more_refl)
