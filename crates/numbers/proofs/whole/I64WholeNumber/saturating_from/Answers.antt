use Rattle.std.proofs.Common.{◌≡◌, ◌-◌, ◌^◌, ◌∙◌, rules}
use Rattle.numbers.specs.Whole.{cut}
use Rattle.numbers.proofs.Wholes.{signed_is}
use Rattle.numbers.proofs.whole.I64WholeNumber.saturating_from.Goals as goal

pub returns : goal.returns
returns c =
    let e : c.saturating_f64_to_i64.result ≡ cut (2 ^ 63) (2 ^ 63 - 1) c.args.x = c.saturating_f64_to_i64.ensures ∙ signed_is c.args.x in
    search rules
