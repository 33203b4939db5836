use Rattle.std.proofs.Common.{◌≡◌, ◌-◌, ◌^◌, true, false, ℤ, pos, neg_ℤ, sym, subst, w64, to_z, of_z, rules}
use Rattle.std.proofs.lemmas.Float.{T_from_true}
use lib.Ieee.{binary64, fits, lt, of_int, to_signed}
use Rattle.numbers.specs.Whole.{floor_i64, Floor}
use Rattle.numbers.proofs.Wholes.{floor_order}
use Rattle.numbers.proofs.Cuts.{floor_by_cut}
use Rattle.numbers.proofs.whole.floor_i64.Goals as goal

pub returns-then-nearest_i64_to_f64-x : goal.returns-then-nearest_i64_to_f64-x
returns-then-nearest_i64_to_f64-x c =
    let x = c.args.x in
    let held : fits binary64 x ≡ true = search rules in
    let t : lt x (of_int binary64 (to_signed 63 x)) ≡ true = search rules in
    let f = floor_by_cut x true (T_from_true _ held) t in
    let v : to_z w64 (of_z w64 c.saturating_sub.result) ≡ floor_i64 x = search rules in
    record { value = v; order = subst (λ (r : ℤ). Floor (neg_ℤ (pos (2 ^ 63))) (pos (2 ^ 63 - 1)) x r) (sym v) (floor_order x) }

pub returns-else-nearest_i64_to_f64-x : goal.returns-else-nearest_i64_to_f64-x
returns-else-nearest_i64_to_f64-x c =
    let x = c.args.x in
    let held : fits binary64 x ≡ true = search rules in
    let t : lt x (of_int binary64 (to_signed 63 x)) ≡ false = search rules in
    let f = floor_by_cut x false (T_from_true _ held) t in
    let v : to_z w64 (of_z w64 c.saturating_f64_to_i64-cut.result) ≡ floor_i64 x = search rules in
    record { value = v; order = subst (λ (r : ℤ). Floor (neg_ℤ (pos (2 ^ 63))) (pos (2 ^ 63 - 1)) x r) (sym v) (floor_order x) }
