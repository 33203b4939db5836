-- Why the order of values is that of their numbers: bits of one sign are in the order of their sizes, and rounding keeps the order.
use Rattle.std.proofs.Common.{◌≡◌, ℕ, zero, suc, ◌+◌, ◌-◌, ◌*◌, ◌/◌, ◌%◌, ◌^◌, ◌<◌, ◌≤◌, Bool, true, false, cond, not, ◌||◌, T, eqb, ltb, ℤ, pos, negsuc, ◌≤ℤ◌, sym, refl, ap, ◌∙◌, subst, inl, inr, true≢false, le_trans, mul-le-mul_right, mod-eq_of_lt, zero-lt-suc, mul-le-mul, eq-or-lt_of_le, mul-le-mul_left, pow-suc, arith, leb→le, nltb→le, pow_pos, pow_mono, ne_eqb, le-leb}
use borrow.Author.Tests.{lt-leb}
use Rattle.std.proofs.lemmas.Bool.{cases_lt}
use Rattle.std.proofs.lemmas.Bool.Decides.{nat_tests}
use lib.Ieee.{Float, nan, inf, fin, Format, binary64, prec, emax, low, up, down, odd, units, round, of_int, neg, le, below, level, is_nan, of_fields, of_bits}
use lib.Ieee.Exact.{HasValue, odd_sign}
use lib.Ieee.Order.{le_of_values, round_mono}
use lib.Ieee.Fits.{round_is}
use Rattle.std.proofs.lemmas.Int.{ints}
use Rattle.std.proofs.lemmas.Float.{T_from_true}
use lib.Ieee.Bits.{is_true, nan_bits_is, nan_bits_above}
use Rattle.records.specs.ColumnTypes.{Form, whole, float, rule}
use Rattle.numbers.specs.Columns.{number, number_of, less_shift}
use Rattle.numbers.specs.Orders.{Ordered}

-- ---- the order and the sign
flip_fin : (s t : Bool) (a b : ℕ) → T (below s a t b || level s a t b) → T (below (not t) b (not s) a || level (not t) b (not s) a)
flip_fin true true a b h = let k = is_true _ h in T_from_true _ (grind (arith, nat_tests))
flip_fin true false a b h = let k = is_true _ h in T_from_true _ (grind (arith, nat_tests))
flip_fin false true a b h = let k = is_true _ h in T_from_true _ (grind (arith, nat_tests))
flip_fin false false a b h = let k = is_true _ h in T_from_true _ (grind (arith, nat_tests))

across : (a b : ℕ) → T (below true a false b || level true a false b)
across a b = T_from_true _ (grind (arith, nat_tests))

pub flip : (x y : Float) → T (le x y) → T (le (neg y) (neg x))
unfolding le neg
flip nan y h = absurd h
flip (inf s) nan h = absurd (nothing s h)
  where
    nothing : (s : Bool) → T (false || false) → ⊥
    nothing s t = t
flip (inf true) (inf true) h = tt
flip (inf true) (inf false) h = tt
flip (inf false) (inf true) h = absurd h
flip (inf false) (inf false) h = tt
flip (inf true) (fin t n d) h = tt
flip (inf false) (fin t n d) h = absurd h
flip (fin s m e) nan h = absurd h
flip (fin s m e) (inf true) h = absurd h
flip (fin s m e) (inf false) h = tt
flip (fin s m e) (fin t n d) h = flip_fin s t (m * up e * down d) (n * up d * down e) h

nan_neg : (x : Float) → is_nan (neg x) ≡ is_nan x
unfolding neg is_nan
nan_neg nan = refl
nan_neg (inf s) = refl
nan_neg (fin s m e) = refl

pub up_to_infinity : (x : Float) → T (not (is_nan x)) → T (le x (inf false))
unfolding le is_nan
up_to_infinity nan h = absurd h
up_to_infinity (inf true) h = tt
up_to_infinity (inf false) h = tt
up_to_infinity (fin s m e) h = tt

abbrev pub Plain : Float → Type 0
Plain nan = ⊥
Plain (inf s) = s ≡ false
Plain (fin s m e) = s ≡ false

pub opposite : (x y : Float) → Plain x → Plain y → T (le (neg x) y)
unfolding le neg
opposite nan y p q = absurd p
opposite (inf s) nan p q = absurd q
opposite (fin s m e) nan p q = absurd q
opposite (inf true) (inf t) p q = absurd (true≢false p)
opposite (inf true) (fin t n d) p q = absurd (true≢false p)
opposite (inf false) (inf true) p q = absurd (true≢false q)
opposite (inf false) (inf false) p q = tt
opposite (inf false) (fin t n d) p q = tt
opposite (fin s m e) (inf true) p q = absurd (true≢false q)
opposite (fin s m e) (inf false) p q = tt
opposite (fin true m e) (fin t n d) p q = absurd (true≢false p)
opposite (fin false m e) (fin true n d) p q = absurd (true≢false q)
opposite (fin false m e) (fin false n d) p q = across (m * up e * down d) (n * up d * down e)

-- ---- the fields of bits
odd_neg : (d q k l : ℕ) → odd d true q k l ≡ neg (odd d false q k l)
unfolding odd neg
odd_neg d zero k l = refl
odd_neg d (suc q) k l = refl

fields_neg : (x t : ℕ) → of_fields binary64 true x t ≡ neg (of_fields binary64 false x t)
unfolding of_fields neg
fields_neg zero t = odd_neg 53 t 0 1074
fields_neg (suc x) t = go (eqb (suc x) 2047) (eqb t 0)
  where
    go : (a b : Bool) → cond a (cond b (inf true) nan) (odd 53 true (2 ^ 52 + t) x 1074) ≡ neg (cond a (cond b (inf false) nan) (odd 53 false (2 ^ 52 + t) x 1074))
    go true true = refl
    go true false = refl
    go false b = odd_neg 53 (2 ^ 52 + t) x 1074

odd_plain : (d q k l : ℕ) → Plain (odd d false q k l)
unfolding odd
odd_plain d zero k l = refl
odd_plain d (suc q) k l = refl

fields_plain : (x t : ℕ) → T (not (is_nan (of_fields binary64 false x t))) → Plain (of_fields binary64 false x t)
unfolding of_fields is_nan
fields_plain zero t h = odd_plain 53 t 0 1074
fields_plain (suc x) t h = go (eqb (suc x) 2047) (eqb t 0) h
  where
    go : (a b : Bool) → T (not (is_nan (cond a (cond b (inf false) nan) (odd 53 false (2 ^ 52 + t) x 1074)))) → Plain (cond a (cond b (inf false) nan) (odd 53 false (2 ^ 52 + t) x 1074))
    go true true k = refl
    go true false k = absurd k
    go false b k = odd_plain 53 (2 ^ 52 + t) x 1074

-- the size in units of the smallest value
abbrev size_of : ℕ → ℕ → ℕ
size_of zero t = t * 2 ^ 0
size_of (suc x) t = (2 ^ 52 + t) * 2 ^ x

fields_val : (x t : ℕ) → x < 2047 → HasValue (of_fields binary64 false x t) false (size_of x t) (2 ^ 1074)
unfolding of_fields
fields_val zero t h = odd_sign 53 false t 0 1074
fields_val (suc x) t h =
    subst (λ (b : Bool). HasValue (cond b (cond (eqb t 0) (inf false) nan) (odd 53 false (2 ^ 52 + t) x 1074)) false ((2 ^ 52 + t) * 2 ^ x) (2 ^ 1074))
    (sym (ne_eqb (suc x) 2047 (λ e. omega arith))) (odd_sign 53 false (2 ^ 52 + t) x 1074)

sizes : (x t y w : ℕ) → t < 2 ^ 52 → w < 2 ^ 52 → x * 2 ^ 52 + t ≤ y * 2 ^ 52 + w → size_of x t ≤ size_of y w
sizes zero t zero w a b h = omega arith
sizes zero t (suc y) w a b h = let g : t * 2 ^ 0 ≤ (2 ^ 52 + w) * 1 = omega arith in le_trans g (mul-le-mul_left (2 ^ 52 + w) (pow_pos y))
sizes (suc x) t zero w a b h = absurd (omega arith)
sizes (suc x) t (suc y) w a b h =
    let g : x ≤ y = omega arith in
    elim (eq-or-lt_of_le g) [
      | inl e ↦
          let k : 2 ^ 52 + t ≤ 2 ^ 52 + w = omega arith in
          subst (λ (z : ℕ). (2 ^ 52 + t) * 2 ^ x ≤ (2 ^ 52 + w) * 2 ^ z) e (mul-le-mul_right (2 ^ x) k)
      | inr l ↦
          let k : 2 ^ 52 + t ≤ 2 ^ 52 * 2 = omega arith in
          let p : 2 ^ suc x ≤ 2 ^ y = pow_mono l in
          let q : 2 ^ 52 ≤ 2 ^ 52 + w = omega arith in
          let r : (2 ^ 52 + t) * 2 ^ x ≤ 2 ^ 52 * 2 * 2 ^ x = mul-le-mul_right (2 ^ x) k in
          let u : 2 ^ 52 * 2 ^ suc x ≤ (2 ^ 52 + w) * 2 ^ y = mul-le-mul q p in
          omega (arith, r, u, pow-suc 2 x)
    ]

-- ---- bits of one sign
at_plain : (p : ℕ) → p < 2 ^ 63 → of_bits binary64 p ≡ of_fields binary64 false (p / 2 ^ 52) (p % 2 ^ 52)
unfolding of_bits
at_plain p h = ap (λ (s : Bool). of_fields binary64 s (p % 2 ^ 63 / 2 ^ 52) (p % 2 ^ 52)) (lt-leb (2 ^ 63) p h) ∙ ap (λ (x : ℕ). of_fields binary64 false (x / 2 ^ 52) (p % 2 ^ 52)) (mod-eq_of_lt h)

at_negative : (p : ℕ) → p < 2 ^ 63 → of_bits binary64 (p + 2 ^ 63) ≡ neg (of_bits binary64 p)
unfolding of_bits
at_negative p h =
    let b = p + 2 ^ 63 in
    let high : 2 ^ 63 ≤ b = omega arith in
    let x : b % 2 ^ 63 / 2 ^ 52 ≡ p / 2 ^ 52 = omega arith in
    let t : b % 2 ^ 52 ≡ p % 2 ^ 52 = omega arith in
    ap (λ (s : Bool). of_fields binary64 s (b % 2 ^ 63 / 2 ^ 52) (b % 2 ^ 52)) (le-leb (2 ^ 63) b high)
    ∙ ap (λ (z : ℕ). of_fields binary64 true z (b % 2 ^ 52)) x ∙ ap (λ (z : ℕ). of_fields binary64 true (p / 2 ^ 52) z) t
    ∙ fields_neg (p / 2 ^ 52) (p % 2 ^ 52) ∙ ap neg (sym (at_plain p h))

number_bound : (q : ℕ) → q < 2 ^ 63 → T (not (is_nan (of_bits binary64 q))) → q ≤ 2047 * 2 ^ 52
number_bound q h n = omega (arith, mod-eq_of_lt {n = q} {m = 2 ^ 63} h, nltb→le (2047 * 2 ^ 52) (q % 2 ^ 63) (subst (λ (b : Bool). T (not b)) (sym (nan_bits_is binary64 q) ∙ nan_bits_above binary64 q) n))

top_is : of_fields binary64 false 2047 0 ≡ inf false
unfolding of_fields
top_is = refl

mono : (p q : ℕ) → p ≤ q → q < 2 ^ 63 → T (not (is_nan (of_bits binary64 p))) → T (not (is_nan (of_bits binary64 q))) → T (le (of_bits binary64 p) (of_bits binary64 q))
mono p q h k np nq =
    let p-lt : p < 2 ^ 63 = omega arith in
    elim (eq-or-lt_of_le (number_bound q k nq)) [
      | inl e ↦
          let x : q / 2 ^ 52 ≡ 2047 = omega arith in
          let t : q % 2 ^ 52 ≡ 0 = omega arith in
          let is : of_bits binary64 q ≡ inf false = at_plain q k ∙ ap (λ (z : ℕ). of_fields binary64 false z (q % 2 ^ 52)) x ∙ ap (λ (z : ℕ). of_fields binary64 false 2047 z) t ∙ top_is in
          subst (λ (y : Float). T (le (of_bits binary64 p) y)) (sym is) (up_to_infinity (of_bits binary64 p) np)
      | inr l ↦
          let xp : p / 2 ^ 52 < 2047 = omega arith in
          let xq : q / 2 ^ 52 < 2047 = omega arith in
          subst (λ (y : Float). T (le y (of_bits binary64 q))) (sym (at_plain p p-lt))
          (subst (λ (y : Float). T (le (of_fields binary64 false (p / 2 ^ 52) (p % 2 ^ 52)) y)) (sym (at_plain q k))
          (le_of_values _ _ (size_of (p / 2 ^ 52) (p % 2 ^ 52)) (2 ^ 1074) (size_of (q / 2 ^ 52) (q % 2 ^ 52)) (2 ^ 1074) (pow_pos 1074) (pow_pos 1074)
          (fields_val (p / 2 ^ 52) (p % 2 ^ 52) xp) (fields_val (q / 2 ^ 52) (q % 2 ^ 52) xq)
          (mul-le-mul_right (2 ^ 1074) (sizes (p / 2 ^ 52) (p % 2 ^ 52) (q / 2 ^ 52) (q % 2 ^ 52) (omega arith) (omega arith) (omega arith)))))
    ]

-- ---- the mapping
at_high : (a : ℕ) → 2 ^ 63 ≤ a → number float a ≡ of_bits binary64 (a - 2 ^ 63)
at_high a h = ap (λ (b : Bool). of_bits binary64 (cond b (a - 2 ^ 63) (2 ^ 64 - 1 - a))) (le-leb (2 ^ 63) a h)

at_low : (a : ℕ) → a < 2 ^ 63 → number float a ≡ neg (of_bits binary64 (2 ^ 63 - 1 - a))
at_low a h =
    let p = 2 ^ 63 - 1 - a in
    let e : 2 ^ 64 - 1 - a ≡ p + 2 ^ 63 = omega arith in
    let l : p < 2 ^ 63 = omega arith in
    ap (λ (b : Bool). of_bits binary64 (cond b (a - 2 ^ 63) (2 ^ 64 - 1 - a))) (lt-leb (2 ^ 63) a h) ∙ ap (of_bits binary64) e ∙ at_negative p l

number_at : {x y : Float} → x ≡ y → T (not (is_nan x)) → T (not (is_nan y))
number_at e n = subst (λ (z : Float). T (not (is_nan z))) e n

number_neg : (x : Float) → T (not (is_nan (neg x))) → T (not (is_nan x))
number_neg x n = subst (λ (b : Bool). T (not b)) (nan_neg x) n

ordered_bits : (a b : ℕ) → a ≤ b → b < 2 ^ 64 → T (not (is_nan (number float a))) → T (not (is_nan (number float b))) → T (le (number float a) (number float b))
ordered_bits a b h k na nb =
    let p = 2 ^ 63 - 1 - a in
    let q = 2 ^ 63 - 1 - b in
    elim (cases_lt a (2 ^ 63)) [
      | inr ha ↦
          let hb : 2 ^ 63 ≤ b = omega arith in
          subst (λ (y : Float). T (le y (number float b))) (sym (at_high a ha))
          (subst (λ (y : Float). T (le (of_bits binary64 (a - 2 ^ 63)) y)) (sym (at_high b hb))
          (mono (a - 2 ^ 63) (b - 2 ^ 63) (omega arith) (omega arith) (number_at (at_high a ha) na) (number_at (at_high b hb) nb)))
      | inl la ↦
          let np = number_neg (of_bits binary64 p) (number_at (at_low a la) na) in
          let p-lt : p < 2 ^ 63 = omega arith in
          subst (λ (y : Float). T (le y (number float b))) (sym (at_low a la))
          (elim (cases_lt b (2 ^ 63)) [
            | inl lb ↦
                let nq = number_neg (of_bits binary64 q) (number_at (at_low b lb) nb) in
                subst (λ (y : Float). T (le (neg (of_bits binary64 p)) y)) (sym (at_low b lb))
                (flip (of_bits binary64 q) (of_bits binary64 p) (mono q p (omega arith) p-lt nq np))
            | inr hb ↦
                let r = b - 2 ^ 63 in
                let r-lt : r < 2 ^ 63 = omega arith in
                let nr = number_at (at_high b hb) nb in
                subst (λ (y : Float). T (le (neg (of_bits binary64 p)) y)) (sym (at_high b hb))
                (opposite (of_bits binary64 p) (of_bits binary64 r)
                (subst Plain (sym (at_plain p p-lt)) (fields_plain (p / 2 ^ 52) (p % 2 ^ 52) (number_at (at_plain p p-lt) np)))
                (subst Plain (sym (at_plain r r-lt)) (fields_plain (r / 2 ^ 52) (r % 2 ^ 52) (number_at (at_plain r r-lt) nr))))
          ])
    ]

-- ---- whole numbers
units_neg : (f : Format) (q k : ℕ) → units f true q k ≡ neg (units f false q k)
unfolding units neg
units_neg f q k = go (ltb (q * 2 ^ k) (2 ^ (low f + suc (emax f))))
  where
    go : (b : Bool) → cond b (odd (suc (prec f)) true q k (low f)) (inf true) ≡ neg (cond b (odd (suc (prec f)) false q k (low f)) (inf false))
    go true = odd_neg (suc (prec f)) q k (low f)
    go false = refl

units_plain : (f : Format) (q k : ℕ) → Plain (units f false q k)
unfolding units
units_plain f q k = go (ltb (q * 2 ^ k) (2 ^ (low f + suc (emax f))))
  where
    go : (b : Bool) → Plain (cond b (odd (suc (prec f)) false q k (low f)) (inf false))
    go true = odd_plain (suc (prec f)) q k (low f)
    go false = refl

pub round_neg : (f : Format) (a c : ℕ) → round f true a c ≡ neg (round f false a c)
round_neg f a c = round_is f true a c ∙ units_neg f _ _ ∙ ap neg (sym (round_is f false a c))

pub round_plain : (f : Format) (a c : ℕ) → Plain (round f false a c)
round_plain f a c = subst Plain (sym (round_is f false a c)) (units_plain f _ _)

pub ints_mono : (f : Format) (x y : ℤ) → x ≤ℤ y → T (le (of_int f x) (of_int f y))
unfolding of_int
ints_mono f (pos a) (pos b) h = round_mono f a 1 b 1 (zero-lt-suc 0) (zero-lt-suc 0) (omega (arith, leb→le a b h.le))
ints_mono f (pos a) (negsuc b) h = absurd h.le
ints_mono f (negsuc a) (pos b) h = subst (λ (z : Float). T (le z (round f false b 1))) (sym (round_neg f (suc a) 1)) (opposite _ _ (round_plain f (suc a) 1) (round_plain f b 1))
ints_mono f (negsuc a) (negsuc b) h =
    subst (λ (z : Float). T (le z (round f true (suc b) 1))) (sym (round_neg f (suc a) 1))
    (subst (λ (z : Float). T (le (neg (round f false (suc a) 1)) z)) (sym (round_neg f (suc b) 1))
    (flip _ _ (round_mono f (suc b) 1 (suc a) 1 (zero-lt-suc 0) (zero-lt-suc 0) (omega (arith, leb→le b a h.le)))))

ordered_form : (f : Form) (a b : ℕ) → a ≤ b → b < 2 ^ 64 → T (not (is_nan (number f a))) → T (not (is_nan (number f b))) → T (le (number f a) (number f b))
ordered_form (whole shift) a b h k na nb = ints_mono binary64 (less_shift shift a) (less_shift shift b) (omega (arith, ints))
ordered_form float a b h k na nb = ordered_bits a b h k na nb

pub ordered : Ordered
unfolding number_of
ordered t = ordered_form (rule t).form
