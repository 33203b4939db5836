-- Why the conversions of the fast fields are the defined ones, and why a turned range end admits exactly what the end does.
use Rattle.std.proofs.Common.{◌≡◌, ℕ, ◌+◌, ◌-◌, ◌*◌, ◌^◌, ◌<◌, ◌≤◌, true, false, not, T, pos, ◌+ℤ◌, sym, ap, ◌∙◌, subst, arith}
use lib.Ieee.{Float, nan, inf, fin, up, down, binary64, is_nan, of_bits, to_bits}
use lib.Ieee.Bits.{to_bits-of_bits, of_bits-to_bits, to_bits-lt}
use lib.Ieee.Fits.{down_pos}
use Rattle.std.proofs.lemmas.Int.{ints}
use Rattle.std.proofs.lemmas.Bool.Decides.{nat_tests}
use Rattle.records.specs.ColumnTypes.{Form, whole, rule}
use Rattle.records.specs.declared.column_type.ColumnType.{ColumnType}
use Rattle.records.specs.declared.column_type.ColumnType.TheVariants.{U64, I64, F64, DateTime}
use Rattle.numbers.specs.Whole.{ceil, NotBelow}
use Rattle.numbers.specs.Columns.{bits_of, value_of_bits, less_shift, first_from, value, number_of, value_of}
use Rattle.numbers.specs.Orders.{Undone, ExactEnds}
use Rattle.numbers.proofs.Wholes.{raise_from, raise_to}

-- the first value is the ceiling and the shift
pub first_is : (shift high : ℕ) (x : Float) → shift + high ≡ 2 ^ 64 - 1 → pos (first_from shift x) ≡ ceil shift high x +ℤ pos shift
unfolding ceil
first_is shift high nan h = omega (arith, ints)
first_is shift high (inf true) h = omega (arith, ints)
first_is shift high (inf false) h = omega (arith, ints)
first_is shift high (fin true m e) h = omega (arith, ints)
first_is shift high (fin false m e) h = omega (arith, ints)

-- ---- range ends
first_lt : (shift : ℕ) (x : Float) → shift < 2 ^ 64 → first_from shift x < 2 ^ 64
first_lt shift nan h = h
first_lt shift (inf true) h = omega arith
first_lt shift (inf false) h = omega arith
first_lt shift (fin true m e) h = omega arith
first_lt shift (fin false m e) h = omega arith

first_reached : (shift : ℕ) (x : Float) (v : ℕ) → v < 2 ^ 64 - 1 → T (not (is_nan x)) → first_from shift x ≤ v → NotBelow (less_shift shift v) x
unfolding is_nan
first_reached shift nan v h n l = absurd n
first_reached shift (inf true) v h n l = tt
first_reached shift (inf false) v h n l = absurd (omega arith)
first_reached shift (fin true m e) v h n l = raise_to (less_shift shift v) true (m * up e) (down e) (down_pos e) (omega (arith, ints))
first_reached shift (fin false m e) v h n l = raise_to (less_shift shift v) false (m * up e) (down e) (down_pos e) (omega (arith, ints))

first_admitted : (shift : ℕ) (x : Float) (v : ℕ) → v < 2 ^ 64 → NotBelow (less_shift shift v) x → first_from shift x ≤ v
first_admitted shift nan v h b = absurd b
first_admitted shift (inf true) v h b = omega arith
first_admitted shift (inf false) v h b = absurd b
first_admitted shift (fin true m e) v h b = let r = raise_from (less_shift shift v) true (m * up e) (down e) (down_pos e) b in omega (arith, ints)
first_admitted shift (fin false m e) v h b = let r = raise_from (less_shift shift v) false (m * up e) (down e) (down_pos e) b in omega (arith, ints)

shift_lt : (t : ColumnType) (shift : ℕ) → (rule t).form ≡ whole shift → shift < 2 ^ 64
shift_lt U64 s h = let e : s ≡ 0 = cc in omega arith
shift_lt I64 s h = let e : s ≡ 2 ^ 63 = cc in omega arith
shift_lt F64 s h = let e : s ≡ 0 = cc in omega arith
shift_lt ColumnType.Bool s h = let e : s ≡ 0 = cc in omega arith
shift_lt DateTime s h = let e : s ≡ 2 ^ 63 = cc in omega arith

pub exact_ends : ExactEnds
unfolding value_of
exact_ends t shift h =
    let at : (x : Float) → value (rule t).form x ≡ first_from shift x = λ x. ap (λ (f : Form). value f x) h in
    record {
      within = λ x. subst (λ (n : ℕ). n < 2 ^ 64) (sym (at x)) (first_lt shift x (shift_lt t shift h));
      reached = λ x v k n l. first_reached shift x v k n (subst (λ (z : ℕ). z ≤ v) (at x) l);
      admitted = λ x v k b. subst (λ (z : ℕ). z ≤ v) (sym (at x)) (first_admitted shift x v k b);
    }

-- ---- the mapping of floats: the two on bits undo each other
bits_lt : (v : ℕ) → v < 2 ^ 64 → bits_of v < 2 ^ 64
bits_lt v h = grind (arith, nat_tests)

bits_back : (v : ℕ) → v < 2 ^ 64 → value_of_bits (bits_of v) ≡ v
bits_back v h = grind (arith, nat_tests)

value_back : (b : ℕ) → b < 2 ^ 64 → bits_of (value_of_bits b) ≡ b
value_back b h = grind (arith, nat_tests)

pub undone : Undone
unfolding number_of value_of
undone = record {
  values = λ v h n. ap value_of_bits (to_bits-of_bits binary64 (bits_of v) (bits_lt v h) n) ∙ bits_back v h;
  numbers = λ x f n. ap (of_bits binary64) (value_back (to_bits binary64 x) (to_bits-lt binary64 x f)) ∙ of_bits-to_bits binary64 x f;
}
