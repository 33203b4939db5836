-- Each turn collects one document more; a full cache is eased at the end.
use Rattle.std.proofs.Common.{◌≡◌, ℕ, ◌+◌, ◌<◌, List, [], ◌∷◌, length, get_or, take, sym, ap, ◌∙◌, subst}
use Rattle.std.proofs.lemmas.List.{take_more, take_all}
use Rattle.std.proofs.lemmas.Result.{err_from_is_err_and, MatchResult-weaker}
use Rattle.stack.specs.Overruns.{Deliveries, added, More}
use Rattle.stack.proofs.Chaining.{went_none, went_then, went_overran}
use Rattle.stack.proofs.Delivering.{added_nil, added_twice, more_added_take}
use Rattle.collectors.specs.Holding.{sent_went, missed_overran, carried_went, carried_overran}
use Rattle.collectors.proofs.bucket_collector.SegmentBucketCollectorSegmentAggregationCollector.collect.Goals as goal

added_next : (b : ℕ) (docs : List ℕ) (i : ℕ) → i < length docs → (D : Deliveries) → added (added D b (take i docs)) b (get_or docs i 0 ∷ []) ≡ added D b (take (i + 1) docs)
added_next b docs i h D = added_twice D b (take i docs) (get_or docs i 0 ∷ []) ∙ ap (added D b) (sym (take_more docs i 0 h))

pub loop-doc-init : goal.loop-doc-init
loop-doc-init g c = went_none (λ D. added_nil D c.args.bucket)

pub loop-doc-preserved : goal.loop-doc-preserved
loop-doc-preserved g c =
    let u = g.K.RowTable.table c.loop-doc.self.inner in
    let w = g.K.RowTable.table c.spread.new.self.inner in
    let i = c.loop-doc.doc-index in
    let docs = c.args.docs.now in
    let done = c.in_ok-spread.ensures in
    went_then c.loop-doc.invariant (sent_went u w (g.S.Segment.means c.args.seg.now) (get_or docs i 0) done.0 done.1) (λ _ h. h) (added_next c.args.bucket docs i c.loop-doc-test.true)

pub returns-in_err-spread : goal.returns-in_err-spread
returns-in_err-spread g c =
    let q = err_from_is_err_and c.from_residual.result c.from_residual.ensures.1 in
    let b = c.args.bucket in
    let i = c.loop-doc.doc-index in
    let docs = c.args.docs.now in
    rw (q.1, q.2) (went_overran c.loop-doc.auto.slots c.loop-doc.invariant (missed_overran (get_or docs i 0) c.in_err-spread.ensures) (λ _ h. h)
    (λ D. subst (λ (E : Deliveries). More E (added D b docs)) (sym (added_next b docs i c.loop-doc-test.true D)) (more_added_take D b (i + 1) docs)))

pub returns : goal.returns
returns g c =
    let b = c.args.bucket in
    let i = c.loop-doc.doc-index in
    let docs = c.args.docs.now in
    MatchResult-weaker c.ease.result c.ease.ensures
    (λ x went. went_then c.loop-doc.invariant (carried_went (g.S.Segment.means c.args.seg.now) went) (λ _ h. h) (λ D. ap (added D b) (take_all i docs c.loop-doc-test.false)))
    (λ f over. went_overran c.loop-doc.auto.slots c.loop-doc.invariant (carried_overran (g.met.K.RowTable.sound c.loop-doc.self.inner) over) (λ _ h. h) (λ D. more_added_take D b i docs))
