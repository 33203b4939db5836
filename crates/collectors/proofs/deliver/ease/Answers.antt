use Rattle.std.proofs.lemmas.Result.{err_from_is_err_and}
use Rattle.stack.proofs.Delivering.{more_refl}
use Rattle.collectors.specs.Carrying.{waits_none, hand_went, hand_overran}
use Rattle.collectors.proofs.deliver.ease.Goals as goal

pub returns-in_err-hand_over : goal.returns-in_err-hand_over
returns-in_err-hand_over g c =
    let q = err_from_is_err_and c.from_residual.result c.from_residual.ensures.1 in
    rw (q.1, q.2) (hand_overran more_refl c.in_err-hand_over.ensures)

pub returns-in_ok-hand_over : goal.returns-in_ok-hand_over
returns-in_ok-hand_over g c =
    let h = c.in_ok-hand_over.ensures in
    hand_went (waits_none (g.met.C.SubAggCache.waits c.hand_over.new.self) h.1) h.0
