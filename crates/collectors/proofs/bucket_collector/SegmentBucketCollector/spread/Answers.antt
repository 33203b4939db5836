-- Each turn places one value more; every index has one.
use Rattle.std.proofs.Common.{◌≡◌, ℕ, ◌+◌, take, sym, refl, ap, ◌∙◌, subst, arith}
use Rattle.std.proofs.lemmas.List.{take_all}
use Rattle.std.proofs.lemmas.Result.{err_from_is_err_and}
use Rattle.segments.specs.Segments.{values}
use Rattle.segments.proofs.Values.{past}
use Rattle.stack.specs.Levels.{step_of, steps_of_values, steps}
use Rattle.collectors.specs.Filing.{Sorted, Within, placed_all}
use Rattle.collectors.specs.Spreading.{sent_none, sent_then, sent_missed, value_next, within-part}
use Rattle.collectors.proofs.bucket_collector.SegmentBucketCollector.spread.Goals.{in-Some+in_ok-place, in_default}
use Rattle.collectors.proofs.bucket_collector.SegmentBucketCollector.spread.Goals as goal

pub loop-i-init : goal.loop-i-init
loop-i-init g c = (refl, sent_none (λ F. refl))

pub loop-i-preserved : goal.loop-i-preserved
loop-i-preserved g c =
    let seg = g.S.Segment.means c.args.seg.now in
    let t = g.K.RowTable.table c.args.self.now.inner in
    let u = g.K.RowTable.table c.loop-i.self.inner in
    let vs = values seg c.column-column.result c.args.doc in
    let i = c.loop-i.i in
    let inv = c.loop-i.invariant in
    elim c.match-value_at.branch [
      | in-Some+in_ok-place w ↦
          let done = w.in_ok-place.ensures in
          rw (w.self-is, w.limits-is, w.slots-is) (done.0 ∙ inv.0, sent_then inv.1 done.1 (λ F. value_next F c.args.bucket c.args.doc t.level u.level vs i w.in-Some.val inv.0 (sym w.in-Some.ensures)))
      | in_default w ↦ absurd (omega (arith, past vs i (sym w.in_default.ensures), c.loop-i-test.true, c.num_values-i-end.ensures))
    ]

pub returns-in_err-place : goal.returns-in_err-place
returns-in_err-place g c =
    let q = err_from_is_err_and c.from_residual.result c.from_residual.ensures.1 in
    let seg = g.S.Segment.means c.args.seg.now in
    let t = g.K.RowTable.table c.args.self.now.inner in
    let u = g.K.RowTable.table c.loop-i.self.inner in
    let b = c.args.bucket in
    let d = c.args.doc in
    let vs = values seg c.column-column.result d in
    let i = c.loop-i.i in
    let inv = c.loop-i.invariant in
    rw (q.1, q.2) (sent_missed c.loop-i.auto.slots inv.0 inv.1 c.in_err-place.ensures
    (λ F. subst (λ (G : Sorted). Within G (placed_all F b d (steps t.level seg d))) (sym (value_next F b d t.level u.level vs i c.in-Some.val inv.0 (sym c.in-Some.ensures)))
    (subst (λ (k : ℕ). Within (placed_all F b d (steps_of_values (step_of t.level) (take (i + 1) vs))) (placed_all F b d (steps_of_values (step_of t.level) (values seg k d)))) c.column-column.ensures (within-part F b d (step_of t.level) vs (i + 1)))))

pub returns : goal.returns
returns g c =
    let seg = g.S.Segment.means c.args.seg.now in
    let t = g.K.RowTable.table c.args.self.now.inner in
    let d = c.args.doc in
    let vs = values seg c.column-column.result d in
    let i = c.loop-i.i in
    let inv = c.loop-i.invariant in
    let whole : steps_of_values (step_of t.level) (take i vs) ≡ steps t.level seg d =
    ap (steps_of_values (step_of t.level)) (take_all i vs (omega (arith, c.loop-i-test.false, c.num_values-i-end.ensures)) ∙ ap (λ (k : ℕ). values seg k d) c.column-column.ensures) in
    (inv.0, simp whole at inv.1)
