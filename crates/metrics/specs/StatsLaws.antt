-- Laws of the stats beside the compensation's, and worked cases.
use Rattle.std.specs.Prelude.{◌≡◌, ℕ, ◌+◌, ◌^◌, Bool, false, pos, from_bits, Float}
use Rattle.std.specs.Float.Ieee.{of_int}
use Rattle.std.specs.Float.{float_is_finite, nan, inf, fin, binary64}
use Rattle.metrics.specs.Sums.{Sums, no_sums, advanced, collected}

-- -0 and +0
abbrev pub zero : Bool → Float
zero s = fin s 0 (pos 0)

-- what holds of every step, of a value and of a merged result
pub record StatsLaws : Type 0 where
  pub nan_least : (s : Sums) (n : ℕ) (y h : Float) → (advanced s n y nan h).low ≡ s.low
  pub nan_greatest : (s : Sums) (n : ℕ) (y l : Float) → (advanced s n y l nan).high ≡ s.high
  pub zero_least : (s : Sums) (n : ℕ) (y h : Float) (a b : Bool) → s.low ≡ zero a → (advanced s n y (zero b) h).low ≡ zero a
  pub zero_greatest : (s : Sums) (n : ℕ) (y l : Float) (a b : Bool) → s.high ≡ zero a → (advanced s n y l (zero b)).high ≡ zero a
  pub not_finite : (s : Sums) (n : ℕ) (y l h : Float) → float_is_finite (advanced s n y l h).sum ≡ false → (advanced s n y l h).delta ≡ from_bits binary64 0

-- a whole number as a float
abbrev pub whole : ℕ → Float
whole n = of_int binary64 (pos n)

-- after +∞ and 1
abbrev pub past : Sums
past = collected (collected no_sums (inf false)) (whole 1)

pub record Worked : Type 0 where
  -- 2^53, 1 and 1 sum to 2^53 + 2, which is (2^52 + 1) * 2
  pub kahan : (collected (collected (collected no_sums (whole (2 ^ 53))) (whole 1)) (whole 1)).sum ≡ fin false (2 ^ 52 + 1) (pos 1)
  pub infinite : past.sum ≡ inf false
  pub least : past.low ≡ fin false 1 (pos 0)
