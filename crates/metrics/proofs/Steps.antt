-- The laws of a step: what `least`, `most` and the test for a finite sum answer.
use Rattle.std.proofs.Common.{◌≡◌, Bool, true, false, cond, refl, ap, ◌∙◌}
use lib.Ieee.{Float, nan, inf, fin, binary64, add, sub, le, lt, eq, is_nan, of_bits}
use Rattle.std.specs.Float.{float_min, float_max}
use Rattle.metrics.specs.StatsLaws.{StatsLaws, zero}

nan_least : (x : Float) → float_min x nan ≡ x
unfolding le lt eq is_nan
nan_least nan = refl
nan_least (inf s) = refl
nan_least (fin s m e) = refl

nan_most : (x : Float) → float_max x nan ≡ x
unfolding le lt eq is_nan
nan_most nan = refl
nan_most (inf s) = refl
nan_most (fin s m e) = refl

zero_least : (a b : Bool) → float_min (zero a) (zero b) ≡ zero a
unfolding le lt eq is_nan
zero_least false false = refl
zero_least false true = refl
zero_least true false = refl
zero_least true true = refl

zero_most : (a b : Bool) → float_max (zero a) (zero b) ≡ zero a
unfolding le lt eq is_nan
zero_most false false = refl
zero_most false true = refl
zero_most true false = refl
zero_most true true = refl

pub stats_laws : StatsLaws
stats_laws = record {
  nan_least = λ s n y h. nan_least s.low;
  nan_greatest = λ s n y l. nan_most s.high;
  zero_least = λ s n y h a b e. ap (λ x. float_min x (zero b)) e ∙ zero_least a b;
  zero_greatest = λ s n y l a b e. ap (λ x. float_max x (zero b)) e ∙ zero_most a b;
  not_finite = λ s n y l h e.
      let t = add binary64 s.sum y in
      ap (λ b. cond b (sub binary64 (sub binary64 t s.sum) y) (of_bits binary64 0)) e;
}
