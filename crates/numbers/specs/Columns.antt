-- The number that a value of a column stands for, and the value that stands for a number.
use Rattle.std.specs.Prelude.{ℕ, ◌+◌, ◌-◌, ◌*◌, ◌^◌, min, true, false, cond, ℤ, pos, ◌-ℤ◌, from_bits, nat_le, nat_lt, to_bits, Float}
use Rattle.std.specs.Float.{nan, inf, fin, binary64}
use Rattle.std.specs.Float.Ieee.{up, down, of_int}
use Rattle.records.specs.ColumnTypes.{Form, whole, float, rule}
use Rattle.records.specs.declared.column_type.ColumnType.{ColumnType}
use Rattle.numbers.specs.Whole.{part, over}

-- the bits of the float that a value stands for: from 2 ^ 63 on that many fewer, below it all 64 bits inverted
abbrev pub bits_of : ℕ → ℕ
bits_of v = cond (nat_le (2 ^ 63) v) (v - 2 ^ 63) (2 ^ 64 - 1 - v)

-- the value that stands for the float of these bits
abbrev pub value_of_bits : ℕ → ℕ
value_of_bits b = cond (nat_lt b (2 ^ 63)) (b + 2 ^ 63) (2 ^ 64 - 1 - b)

-- the whole number that a value stands for
abbrev pub less_shift : ℕ → ℕ → ℤ
less_shift shift v = pos v -ℤ pos shift

-- the least value whose whole number is not below x, and the last value where there is none; a NaN counts as 0
abbrev pub first_from : ℕ → Float → ℕ
first_from shift nan = shift
first_from shift (inf true) = 0
first_from shift (inf false) = 2 ^ 64 - 1
first_from shift (fin true m e) = shift - part (m * up e) (down e)
first_from shift (fin false m e) = min (shift + over (m * up e) (down e)) (2 ^ 64 - 1)

-- rounded to the nearest f64, ties to even; bits that are no number's give NaN
abbrev pub number : Form → ℕ → Float
number (whole shift) v = of_int binary64 (less_shift shift v)
number float v = from_bits binary64 (bits_of v)

abbrev pub value : Form → Float → ℕ
value (whole shift) x = first_from shift x
value float x = value_of_bits (to_bits binary64 x)

unfoldable pub number_of : ColumnType → ℕ → Float
number_of t v = number (rule t).form v

unfoldable pub value_of : ColumnType → Float → ℕ
value_of t x = value (rule t).form x
