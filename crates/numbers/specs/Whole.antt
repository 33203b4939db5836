-- Whole numbers next to a float. `fin s m e` is the number m * 2 ^ e, negative where s is true; 2 ^ e is the fraction up e / down e.
use Rattle.std.specs.Prelude.{◌≡◌, ℕ, ◌+◌, ◌-◌, ◌*◌, ◌/◌, ◌^◌, min, Bool, true, false, not, T, ◌⊎◌, ℤ, pos, ◌*ℤ◌, neg_ℤ, ◌≤ℤ◌, is_nan, Float}
use Rattle.std.specs.Float.{nan, inf, fin}
use Rattle.std.specs.Float.Ieee.{up, down}

-- the greatest whole number not above n / d, and the least not below it
abbrev pub part : ℕ → ℕ → ℕ
part n d = n / d

abbrev pub over : ℕ → ℕ → ℕ
over n d = (n + d - 1) / d

-- the greatest whole number not above x, brought into -2 ^ 63 .. 2 ^ 63 - 1; 0 for a NaN
unfoldable pub floor_i64 : Float → ℤ
floor_i64 nan = pos 0
floor_i64 (inf true) = neg_ℤ (pos (2 ^ 63))
floor_i64 (inf false) = pos (2 ^ 63 - 1)
floor_i64 (fin true m e) = neg_ℤ (pos (min (over (m * up e) (down e)) (2 ^ 63)))
floor_i64 (fin false m e) = pos (min (part (m * up e) (down e)) (2 ^ 63 - 1))

-- x without its fraction, brought into -low .. high; 0 for a NaN
abbrev pub cut : (low high : ℕ) → Float → ℤ
cut low high nan = pos 0
cut low high (inf true) = neg_ℤ (pos low)
cut low high (inf false) = pos high
cut low high (fin true m e) = neg_ℤ (pos (min (part (m * up e) (down e)) low))
cut low high (fin false m e) = pos (min (part (m * up e) (down e)) high)

-- the least whole number not below x, brought into -low .. high; 0 for a NaN
unfoldable pub ceil : (low high : ℕ) → Float → ℤ
ceil low high nan = pos 0
ceil low high (inf true) = neg_ℤ (pos low)
ceil low high (inf false) = pos high
ceil low high (fin true m e) = neg_ℤ (pos (min (part (m * up e) (down e)) low))
ceil low high (fin false m e) = pos (min (over (m * up e) (down e)) high)

-- ---- the same as laws of order

abbrev pub signed : Bool → ℕ → ℤ
signed true n = neg_ℤ (pos n)
signed false n = pos n

-- k ≤ x
abbrev pub NotAbove : ℤ → Float → Type 0
NotAbove k nan = ⊥
NotAbove k (inf true) = ⊥
NotAbove k (inf false) = Unit {0}
NotAbove k (fin s m e) = (k *ℤ pos (down e)) ≤ℤ signed s (m * up e)

-- x ≤ k
abbrev pub NotBelow : ℤ → Float → Type 0
NotBelow k nan = ⊥
NotBelow k (inf true) = Unit {0}
NotBelow k (inf false) = ⊥
NotBelow k (fin s m e) = signed s (m * up e) ≤ℤ (k *ℤ pos (down e))

-- r is the greatest whole number up to `high` that is not above x, and `low` where that is lower; 0 for a NaN
pub record Floor (low high : ℤ) (x : Float) (r : ℤ) : Type 0 where
  pub from : low ≤ℤ r
  pub to : r ≤ℤ high
  pub not_above : T (not (is_nan x)) → NotAbove r x ⊎ (r ≡ low)
  pub greatest : (k : ℤ) → k ≤ℤ high → NotAbove k x → k ≤ℤ r
  pub of_nan : x ≡ nan → r ≡ pos 0

-- r is the least whole number from `low` on that is not below x, and `high` where that is higher; 0 for a NaN
pub record Ceiling (low high : ℤ) (x : Float) (r : ℤ) : Type 0 where
  pub from : low ≤ℤ r
  pub to : r ≤ℤ high
  pub not_below : T (not (is_nan x)) → NotBelow r x ⊎ (r ≡ high)
  pub least : (k : ℤ) → low ≤ℤ k → NotBelow k x → r ≤ℤ k
  pub of_nan : x ≡ nan → r ≡ pos 0
