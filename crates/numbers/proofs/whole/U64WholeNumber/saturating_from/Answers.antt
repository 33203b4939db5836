use Rattle.std.proofs.Common.{pos, ap, ◌∙◌}
use Rattle.numbers.proofs.Wholes.{unsigned_is}
use Rattle.numbers.proofs.whole.U64WholeNumber.saturating_from.Goals as goal

pub returns : goal.returns
returns c = ap pos c.saturating_f64_to_u64.ensures ∙ unsigned_is c.args.x
