-- The law of compensated summation: what an addition rounds off is carried in the compensation.
use Rattle.std.specs.Prelude.{◌≡◌, ℕ, ◌*◌, ◌/◌, ◌^◌, ◌≤◌, Bool, true, false, T, ℤ, pos, ◌+ℤ◌, neg_ℤ, unsigned_abs, Float}
use Rattle.std.specs.Float.Ieee.{low, up, down, fits}
use Rattle.std.specs.Float.{float_is_finite, nan, inf, fin, binary64}
use Rattle.metrics.specs.Sums.{Sums, advanced, stats_worth}
use Rattle.metrics.specs.declared.stats.IntermediateStats.{IntermediateStats}

abbrev pub signed : Bool → ℕ → ℤ
signed false n = pos n
signed true n = neg_ℤ (pos n)

-- a finite number in units of 2 ^ -1074, the smallest f64 above 0: every finite f64 is a whole number of them
abbrev pub in_units : Float → ℤ
in_units nan = pos 0
in_units (inf s) = pos 0
in_units (fin s m e) = signed s (m * up e * 2 ^ low binary64 / down e)

-- Where y was added to the sum of s, with r as the outcome, the new sum is the exact one and the compensation: nothing is lost.
-- That holds where the new sum is finite and y is no larger than the old sum.
abbrev pub Carried : Sums → Float → Sums → Type 0
Carried s y r =
    float_is_finite r.sum ≡ true → unsigned_abs (in_units y) ≤ unsigned_abs (in_units s.sum) → in_units r.sum ≡ in_units s.sum +ℤ in_units y +ℤ in_units r.delta

-- so in every step, of a value and of a merged sum
abbrev pub Carries : Type 0
Carries = (s : IntermediateStats) (n : ℕ) (y l h : Float) → T (fits binary64 y) → Carried (stats_worth s) y (advanced (stats_worth s) n y l h)
