-- How the values of a column stand to the numbers that they stand for.
use Rattle.std.specs.Prelude.{◌≡◌, ℕ, ◌-◌, ◌^◌, ◌<◌, ◌≤◌, not, T, is_nan, Float}
use Rattle.std.specs.Float.{binary64}
use Rattle.std.specs.Float.Ieee.{le, fits}
use Rattle.records.specs.ColumnTypes.{whole, rule}
use Rattle.records.specs.declared.column_type.ColumnType.{ColumnType}
use Rattle.records.specs.declared.column_type.ColumnType.TheVariants.{F64}
use Rattle.numbers.specs.Columns.{number_of, value_of, less_shift}
use Rattle.numbers.specs.Whole.{NotBelow}

-- the lower of two values stands for no larger number
abbrev pub Ordered : Type 0
Ordered = (t : ColumnType) (a b : ℕ) → a ≤ b → b < 2 ^ 64 → T (not (is_nan (number_of t a))) → T (not (is_nan (number_of t b))) → T (le (number_of t a) (number_of t b))

-- On a float column a value is back after it was read as a number, and a number is back after it was turned into a value.
pub record Undone : Type 0 where
  pub values : (v : ℕ) → v < 2 ^ 64 → T (not (is_nan (number_of F64 v))) → value_of F64 (number_of F64 v) ≡ v
  pub numbers : (x : Float) → T (fits binary64 x) → T (not (is_nan x)) → number_of F64 (value_of F64 x) ≡ x

-- Range ends on a column of whole numbers: the value that an end x is turned into is at most v exactly if x is not above
-- the whole number of v, unrounded. (The last value, 2 ^ 64 - 1, stands for every end above its number too.)
pub record Ends (t : ColumnType) (shift : ℕ) : Type 0 where
  pub within : (x : Float) → value_of t x < 2 ^ 64
  pub reached : (x : Float) (v : ℕ) → v < 2 ^ 64 - 1 → T (not (is_nan x)) → value_of t x ≤ v → NotBelow (less_shift shift v) x
  pub admitted : (x : Float) (v : ℕ) → v < 2 ^ 64 → NotBelow (less_shift shift v) x → value_of t x ≤ v

abbrev pub ExactEnds : Type 0
ExactEnds = (t : ColumnType) (shift : ℕ) → (rule t).form ≡ whole shift → Ends t shift
