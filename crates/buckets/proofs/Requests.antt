-- Why the grid of a request that is not refused is sound, and why no grid counts a NaN.
use Rattle.std.proofs.Common.{◌≡◌, Bool, true, false, cond, not, ◌&&◌, ◌||◌, T, pos, Some, None, Option, unwrap_or, sym, refl, ap, ◌∙◌, subst, arith}
use lib.Ieee.{Float, nan, inf, fin, lt, le}
use Rattle.std.proofs.lemmas.Bool.{or_parts}
use Rattle.std.proofs.lemmas.Bool.Decides.{nat_tests}
use Rattle.std.proofs.lemmas.Float.{T_from_true}
use Rattle.std.specs.Float as Floats
use Rattle.records.specs.declared.fault.Refusal.{Refusal}
use Rattle.buckets.specs.declared.histogram.HistogramBounds.{HistogramBounds}
use Rattle.buckets.specs.Grids.{zero, counted, slot_of, in_unit, bad_grid, bad_offset, bad_bounds, SoundIfAccepted, NanUncounted}
use Rattle.buckets.proofs.Slots.{zero_is}

not_first : (a : Bool) (r : Refusal) (o : Option Refusal) → cond a (Some r) o ≡ None → a ≡ false
not_first true r o h = cc
not_first false r o h = refl

-- what is finite and not at most 0 is above 0
above_zero : (i : Float) → Floats.float_is_finite i ≡ true → le i (fin false 0 (pos 0)) ≡ false → lt (fin false 0 (pos 0)) i ≡ true
unfolding Floats.float_is_finite le lt
above_zero nan f h = f
above_zero (inf s) f h = cc
above_zero (fin true m e) f h = grind (arith, nat_tests)
above_zero (fin false m e) f h = grind (arith, nat_tests)

finite_or_zero : (o : Option Float) → bad_offset o ≡ false → T (Floats.float_is_finite (unwrap_or o zero))
finite_or_zero None h = subst (λ (x : Float). T (Floats.float_is_finite x)) (sym zero_is) (unfold Floats.float_is_finite in tt)
finite_or_zero (Some x) h = T_from_true _ (grind (arith, nat_tests))

no_reason : (a b c d e : Bool) → (not a || b || c || d || e) ≡ false → (a ≡ true) × (b ≡ false) × (c ≡ false) × (d ≡ false) × (e ≡ false)
no_reason a b c d e h = (grind (arith, nat_tests), grind (arith, nat_tests), grind (arith, nat_tests), grind (arith, nat_tests), grind (arith, nat_tests))

pub sound : SoundIfAccepted
sound t q h =
    let u = in_unit t q in
    let good = (or_parts (bad_grid q) (bad_grid u) (not_first _ _ _ h)).1 in
    let n = no_reason (Floats.float_is_finite u.interval) (le u.interval zero) (bad_offset u.offset) (bad_bounds u.hard_bounds) (bad_bounds u.extended_bounds) good in
    let a = above_zero u.interval n.0 (ap (le u.interval) (sym zero_is) ∙ n.1) in
    record {
      interval_finite = T_from_true _ n.0;
      interval_above = T_from_true _ (ap (λ (z : Float). lt z u.interval) zero_is ∙ a);
      offset_finite = finite_or_zero u.offset n.2;
      hard_numbers = n.3;
      extended_numbers = n.4;
    }

le_nan : (x : Float) → le x nan ≡ false
unfolding le
le_nan nan = refl
le_nan (inf s) = refl
le_nan (fin s m e) = refl

nan_out : (o : Option HistogramBounds) → counted o nan ≡ false
unfolding Floats.float_is_finite
nan_out None = refl
nan_out (Some b) = ap (λ (z : Bool). z && le nan b.max) (le_nan b.min)

pub nan_uncounted : NanUncounted
nan_uncounted g = ap (λ (z : Bool). cond z (Some (slot_of g.interval g.offset nan)) None) (nan_out g.hard_bounds)
