-- Each turn delivers one run; a refused run refuses the whole.
use Rattle.std.proofs.Common.{◌≤◌, ◌⊎◌, length, sym, subst, inl, inr, arith}
use Rattle.std.proofs.lemmas.Result.{err_from_is_err_and}
use Rattle.std.proofs.lemmas.Bool.{cases_lt}
use Rattle.stack.specs.Overruns.{Deliveries, all_added, More}
use Rattle.stack.specs.Calls.{paired}
use Rattle.stack.proofs.Chaining.{went_none, went_then, went_overran}
use Rattle.stack.proofs.Pairing.{before-run, run_inside, before_more, before_none, before_all}
use Rattle.stack.proofs.level.SegmentAggregationCollector.collect_multiple.Goals as goal

pub loop-start-init : goal.loop-start-init
loop-start-init g c = (went_none (before_none c.args.bucket_ids.now c.args.docs.now), omega arith)

pub loop-start-preserved : goal.loop-start-preserved
loop-start-preserved g c =
    let bs = c.args.bucket_ids.now in
    let ds = c.args.docs.now in
    let start = c.loop-start.start in
    let end = c.run_end-end.result in
    let pairs = c.min-pairs.result in
    let run = c.run_end-end.ensures in
    let lb : pairs ≤ length bs = omega (arith, c.min-pairs.ensures) in
    let ld : pairs ≤ length ds = omega (arith, c.min-pairs.ensures) in
    (went_then c.loop-start.invariant.0 c.in_ok-collect.ensures (run_inside bs ds start end pairs run lb ld) (before-run bs ds start end pairs run lb ld), run.within)

pub returns-in_err-collect : goal.returns-in_err-collect
returns-in_err-collect g c =
    let q = err_from_is_err_and c.from_residual.result c.from_residual.ensures.1 in
    let bs = c.args.bucket_ids.now in
    let ds = c.args.docs.now in
    let start = c.loop-start.start in
    let end = c.run_end-end.result in
    let pairs = c.min-pairs.result in
    let run = c.run_end-end.ensures in
    let lb : pairs ≤ length bs = omega (arith, c.min-pairs.ensures) in
    let ld : pairs ≤ length ds = omega (arith, c.min-pairs.ensures) in
    rw (q.1, q.2) (went_overran c.loop-start.auto.slots c.loop-start.invariant.0 c.in_err-collect.ensures (run_inside bs ds start end pairs run lb ld)
    (λ D. subst (λ (E : Deliveries). More E (all_added D (paired bs ds))) (sym (before-run bs ds start end pairs run lb ld D)) (before_more bs ds end D)))

pub returns : goal.returns
returns g c =
    let level = g.Self.SegmentAggregationCollector in
    let bs = c.args.bucket_ids.now in
    let ds = c.args.docs.now in
    let seg = g.S.Segment.means c.args.seg.now in
    let start = c.loop-start.start in
    let inv = c.loop-start.invariant in
    let short : (length bs ≤ start) ⊎ (length ds ≤ start) = elim (cases_lt (length bs) (length ds)) [
      | inl l ↦ inl (omega (arith, c.min-pairs.ensures, c.loop-start-test.false))
      | inr l ↦ inr (omega (arith, c.min-pairs.ensures, c.loop-start-test.false))
    ] in
    record {
      keeps = λ n b i D h. subst (level.holds c.loop-start.self c.loop-start.slots seg n b) (before_all bs ds start D short) (inv.0.keeps n b i D h);
      same_plan = inv.0.same_plan;
      charged = inv.0.charged;
    }
