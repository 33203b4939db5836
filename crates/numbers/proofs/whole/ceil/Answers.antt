use Rattle.std.proofs.Common.{◌≡◌, ◌∙◌, true, ℤ, pos, neg_ℤ, sym, ap, subst, rules}
use Rattle.std.proofs.lemmas.Float.{T_from_true}
use lib.Ieee.{binary64, fits}
use Rattle.numbers.specs.Whole.{cut, ceil, Ceiling}
use Rattle.numbers.proofs.Wholes.{ceil_is, ceil_order}
use Rattle.numbers.proofs.whole.ceil.Goals as goal

pub returns : goal.returns
returns g c =
    let x = c.args.x in
    let low = g.T.WholeNumber.low in
    let high = g.T.WholeNumber.high in
    let held : fits binary64 x ≡ true = search rules in
    let v : g.T.WholeNumber.number c.saturating_from.result ≡ ceil low high x = c.saturating_from.ensures ∙ ap (cut low high) c.ceil.ensures ∙ ceil_is low high x (T_from_true _ held) in
    record { value = v; order = subst (λ (r : ℤ). Ceiling (neg_ℤ (pos low)) (pos high) x r) (sym v) (ceil_order low high x) }
