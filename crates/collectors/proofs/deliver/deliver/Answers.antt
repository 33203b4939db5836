-- A pair that finds room waits; otherwise all is handed over, and the emptied cache has room.
use Rattle.std.proofs.Common.{◌≡◌, true, not, [], ◌∷◌, sym, refl, ap, ◌∙◌, subst}
use Rattle.std.proofs.lemmas.Result.{err_from_is_err_and}
use Rattle.stack.specs.Overruns.{Deliveries, added}
use Rattle.stack.specs.Calls.{Inside}
use Rattle.stack.proofs.Chaining.{went_then, went_overran}
use Rattle.stack.proofs.Delivering.{more_added, more_refl}
use Rattle.collectors.specs.Carrying.{waits_none, still_went, push_went, hand_went, hand_overran}
use Rattle.collectors.proofs.deliver.deliver.Goals as goal

pub returns-then-push : goal.returns-then-push
returns-then-push g c =
    let kept = c.push.ensures.kept in
    push_went c.args.row c.args.doc (c.push.ensures.after.waits c.if-push.true) (kept.0 c.args.slots.now (g.S.Segment.means c.args.seg.now)) kept.1 kept.2

pub returns-in_err-hand_over : goal.returns-in_err-hand_over
returns-in_err-hand_over g c =
    let q = err_from_is_err_and c.from_residual.result c.from_residual.ensures.1 in
    let back = c.push.ensures.after.unaltered c.if-push.false in
    let kept = c.push.ensures.kept in
    let one = c.args.doc ∷ [] in
    rw (q.1, q.2) (went_overran refl (still_went back.0 (kept.0 c.args.slots.now (g.S.Segment.means c.args.seg.now)) kept.1 kept.2)
    (hand_overran (λ E. more_added E c.args.row one) c.in_err-hand_over.ensures) (λ n i. subst (λ (w : Deliveries). Inside w n) (sym back.0) i)
    (λ E. more_refl (added E c.args.row one)))

pub returns : goal.returns
returns g c =
    let seg = g.S.Segment.means c.args.seg.now in
    let handed = c.hand_over.new.self in
    let back = c.push.ensures.after.unaltered c.if-push.false in
    let kept = c.push.ensures.kept in
    let kept2 = c.push-2.ensures.kept in
    let hand = c.in_ok-hand_over.ensures in
    let room : c.push-2.result ≡ true = c.push-2.ensures.answer.0 c.requires ∙ ap not (g.met.C.SubAggCache.roomy handed hand.1) in
    went_then
    (went_then (still_went back.0 (kept.0 c.args.slots.now seg) kept.1 kept.2) (hand_went (waits_none (g.met.C.SubAggCache.waits handed) hand.1) hand.0)
    (λ n i. subst (λ (w : Deliveries). Inside w n) (sym back.0) i) (λ E. refl))
    (push_went c.args.row c.args.doc (c.push-2.ensures.after.waits room) (kept2.0 c.hand_over.new.slots seg) kept2.1 kept2.2) (λ _ h. h) (λ E. refl)
