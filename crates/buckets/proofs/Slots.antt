-- Why a larger number is in no lower slot: subtraction, division by a positive number and the floor each keep the order.
use Rattle.std.proofs.Common.{◌≡◌, ℕ, zero, suc, ◌+◌, ◌-◌, ◌*◌, ◌/◌, ◌^◌, ◌<◌, ◌≤◌, Bool, true, false, cond, not, ◌||◌, T, eqb, ltb, ◌⊎◌, ℤ, pos, neg_ℤ, ◌≤ℤ◌, sym, refl, ap, ◌∙◌, subst, inl, inr, mul-le-mul_right, zero-lt-suc, mul-pos, le-mul_of_pos_right, le_of_mul-le-mul_right, arith, ltb→lt, lt→ltb, le-ltb, lt-ltb, ne_eqb}
use native.Mathlib.Nat.{zero-div}
use Rattle.std.proofs.lemmas.Bool.{cases_lt, ltb-true}
use Rattle.std.proofs.lemmas.Bool.Decides.{nat_tests}
use Rattle.std.proofs.lemmas.Int.{ints}
use lib.Ieee.{Float, lt, of_bits, nan, inf, fin, binary64, up, down, round, neg, sum, add, sub, div, le, below, level, unlike}
use lib.Ieee.Bits.{is_true}
use lib.Ieee.Fits.{up_pos, down_pos}
use lib.Ieee.Nearest.{div_mono}
use lib.Ieee.Order.{round_mono}
use lib.Ieee.Positive.{positive}
use lib.Ieee.Scale.{round_same, finite}
use Rattle.std.specs.Float as Floats
use Rattle.numbers.specs.Whole.{part, over, floor_i64}
use Rattle.numbers.proofs.Wholes.{over_reaches, over_least}
use Rattle.numbers.proofs.Orders.{flip, opposite, round_neg, round_plain, Plain}
use Rattle.buckets.specs.Grids as Grids
use Rattle.buckets.specs.Grids.{Rising}

-- ---- ±a as the difference of two naturals, so that orders are of naturals
abbrev plus : Bool → ℕ → ℕ
plus true a = 0
plus false a = a

abbrev less : Bool → ℕ → ℕ
less true a = a
less false a = 0

fin_out : (s t : Bool) (a b : ℕ) → T (below s a t b || level s a t b) → plus s a + less t b ≤ plus t b + less s a
fin_out true true a b h = let k = is_true _ h in grind (arith, nat_tests)
fin_out true false a b h = omega arith
fin_out false true a b h = let k = is_true _ h in grind (arith, nat_tests)
fin_out false false a b h = let k = is_true _ h in grind (arith, nat_tests)

-- ---- r is (p - n) / c, rounded
abbrev Rounded : Float → ℕ → ℕ → ℕ → Type 0
Rounded r p n c = ((n ≤ p) × (r ≡ round binary64 false (p - n) c)) ⊎ ((p ≤ n) × (r ≡ round binary64 true (n - p) c))

zero_level : (c d : ℕ) → 0 < c → 0 < d → T (le (round binary64 false 0 c) (round binary64 true 0 d))
zero_level c d C D =
    subst (λ (x : Float). T (le x (round binary64 true 0 d))) (sym (round_same binary64 false 0 c 0 1 C (zero-lt-suc 0) (omega arith)))
    (subst (λ (x : Float). T (le (round binary64 false 0 1) x)) (sym (round_same binary64 true 0 d 0 1 D (zero-lt-suc 0) (omega arith))) (unfold le round in tt))

nothing_left : (p n c : ℕ) → 0 < c → n ≤ p → p * c ≤ n * c → p - n ≡ 0
nothing_left p n c C h k = omega (arith, le_of_mul-le-mul_right {m = p} {n = n} {k = c} k C)

less-times : (x y z : ℕ) → y ≤ x → (x - y) * z + y * z ≡ x * z
less-times x y z l = sym (native.Mathlib.Nat.add-mul (x - y) y z) ∙ ap (λ (q : ℕ). q * z) (omega arith)

-- rounding keeps the order, across the signs too
rounded_mono : (r r' : Float) (p n c p' n' c' : ℕ) → 0 < c → 0 < c' → Rounded r p n c → Rounded r' p' n' c' → p * c' + n' * c ≤ p' * c + n * c' → T (le r r')
rounded_mono r r' p n c p' n' c' C C' (inl a) (inl b) h =
    let k : (p - n) * c' ≤ (p' - n') * c = omega (arith, less-times p n c' a.0, less-times p' n' c b.0) in
    subst (λ (x : Float). T (le x r')) (sym a.1) (subst (λ (x : Float). T (le (round binary64 false (p - n) c) x)) (sym b.1) (round_mono binary64 (p - n) c (p' - n') c' C C' k))
rounded_mono r r' p n c p' n' c' C C' (inr a) (inl b) h =
    subst (λ (x : Float). T (le x r')) (sym (a.1 ∙ round_neg binary64 (n - p) c))
    (subst (λ (x : Float). T (le (neg (round binary64 false (n - p) c)) x)) (sym b.1) (opposite _ _ (round_plain binary64 (n - p) c) (round_plain binary64 (p' - n') c')))
rounded_mono r r' p n c p' n' c' C C' (inr a) (inr b) h =
    let k : (n' - p') * c ≤ (n - p) * c' = omega (arith, less-times n p c' a.0, less-times n' p' c b.0) in
    subst (λ (x : Float). T (le x r')) (sym (a.1 ∙ round_neg binary64 (n - p) c))
    (subst (λ (x : Float). T (le (neg (round binary64 false (n - p) c)) x)) (sym (b.1 ∙ round_neg binary64 (n' - p') c'))
    (flip _ _ (round_mono binary64 (n' - p') c' (n - p) c C' C k)))
rounded_mono r r' p n c p' n' c' C C' (inl a) (inr b) h =
    let k : p * c' ≤ n * c' = omega (arith, mul-le-mul_right c b.0) in
    let l : n' * c ≤ p' * c = omega (arith, mul-le-mul_right c' a.0) in
    subst (λ (x : Float). T (le x r')) (sym (a.1 ∙ ap (λ (z : ℕ). round binary64 false z c) (nothing_left p n c' C' a.0 k)))
    (subst (λ (x : Float). T (le (round binary64 false 0 c) x)) (sym (b.1 ∙ ap (λ (z : ℕ). round binary64 true z c') (nothing_left n' p' c C b.0 l))) (zero_level c c' C C'))

-- ---- a sum
sum_rounds : (s t : Bool) (a b c : ℕ) → Rounded (sum binary64 s a t b c) (plus s a + plus t b) (less s a + less t b) c
unfolding sum
sum_rounds true true a b c = inr (omega arith, ap (λ (z : ℕ). round binary64 true z c) (omega arith))
sum_rounds false false a b c = inl (omega arith, ap (λ (z : ℕ). round binary64 false z c) (omega arith))
sum_rounds false true a b c = elim (cases_lt a b) [
  | inl l ↦ inr (omega arith, ap (λ (t : Bool). cond t (round binary64 true (b - a) c) (round binary64 false (a - b) c)) (lt-ltb a b l) ∙ ap (λ (z : ℕ). round binary64 true z c) (omega arith))
  | inr g ↦ inl (omega arith, ap (λ (t : Bool). cond t (round binary64 true (b - a) c) (round binary64 false (a - b) c)) (le-ltb a b g) ∙ ap (λ (z : ℕ). round binary64 false z c) (omega arith))
]
sum_rounds true false a b c = elim (cases_lt a b) [
  | inl l ↦ inl (omega arith, ap (λ (t : Bool). cond t (round binary64 false (b - a) c) (round binary64 (ltb b a) (a - b) c)) (lt-ltb a b l) ∙ ap (λ (z : ℕ). round binary64 false z c) (omega arith))
  | inr g ↦ elim (cases_lt b a) [
    | inl m ↦ inr (omega arith, ap (λ (t : Bool). cond t (round binary64 false (b - a) c) (round binary64 (ltb b a) (a - b) c)) (le-ltb a b g) ∙ ap (λ (u : Bool). round binary64 u (a - b) c) (lt-ltb b a m) ∙ ap (λ (z : ℕ). round binary64 true z c) (omega arith))
    | inr k ↦ inl (omega arith, ap (λ (t : Bool). cond t (round binary64 false (b - a) c) (round binary64 (ltb b a) (a - b) c)) (le-ltb a b g) ∙ ap (λ (u : Bool). round binary64 u (a - b) c) (le-ltb b a k) ∙ ap (λ (z : ℕ). round binary64 false z c) (omega arith))
  ]
]

plus_times : (s : Bool) (a d : ℕ) → (plus s (a * d) ≡ plus s a * d) × (less s (a * d) ≡ less s a * d)
plus_times true a d = omega arith
plus_times false a d = omega arith

add_fin_mono : (s : Bool) (m : ℕ) (e : ℤ) (t : Bool) (n : ℕ) (d : ℤ) (u : Bool) (q : ℕ) (g : ℤ) → T (le (fin s m e) (fin t n d)) → T (le (add binary64 (fin s m e) (fin u q g)) (add binary64 (fin t n d) (fin u q g)))
unfolding le add
add_fin_mono s m e t n d u q g h =
    let x = fin_out s t (m * up e * down d) (n * up d * down e) h in
    let X = plus s (m * up e) in
    let X' = less s (m * up e) in
    let Y = plus t (n * up d) in
    let Y' = less t (n * up d) in
    let U = plus u (q * up g) in
    let U' = less u (q * up g) in
    let y : X * down d + Y' * down e ≤ Y * down e + X' * down d = omega (arith, x, plus_times s (m * up e) (down d), plus_times t (n * up d) (down e)) in
    let z : (X * down g + U * down e) * (down d * down g) + (Y' * down g + U' * down d) * (down e * down g) ≤ (Y * down g + U * down d) * (down e * down g) + (X' * down g + U' * down e) * (down d * down g) = omega (arith, mul-le-mul_right (down g * down g) y) in
    let w : (plus s (m * up e * down g) + plus u (q * up g * down e)) * (down d * down g) + (less t (n * up d * down g) + less u (q * up g * down d)) * (down e * down g)
    ≤ (plus t (n * up d * down g) + plus u (q * up g * down d)) * (down e * down g) + (less s (m * up e * down g) + less u (q * up g * down e)) * (down d * down g) =
    rw ((plus_times s (m * up e) (down g)).0, (plus_times s (m * up e) (down g)).1, (plus_times t (n * up d) (down g)).0, (plus_times t (n * up d) (down g)).1, (plus_times u (q * up g) (down e)).0, (plus_times u (q * up g) (down e)).1, (plus_times u (q * up g) (down d)).0, (plus_times u (q * up g) (down d)).1) z in
    rounded_mono _ _ _ _ (down e * down g) _ _ (down d * down g) (mul-pos (down_pos e) (down_pos g)) (mul-pos (down_pos d) (down_pos g))
    (sum_rounds s u (m * up e * down g) (q * up g * down e) (down e * down g)) (sum_rounds t u (n * up d * down g) (q * up g * down d) (down d * down g)) w

abbrev Number : Float → Type 0
Number nan = ⊥
Number (inf s) = Unit {0}
Number (fin s m e) = Unit {0}

low_end : (y : Float) → Number y → T (le (inf true) y)
unfolding le
low_end nan p = absurd p
low_end (inf true) p = tt
low_end (inf false) p = tt
low_end (fin s m e) p = tt

high_end : (x : Float) → Number x → T (le x (inf false))
unfolding le
high_end nan p = absurd p
high_end (inf true) p = tt
high_end (inf false) p = tt
high_end (fin s m e) p = tt

plain_number : (x : Float) → Plain x → (Number x × Number (neg x))
unfolding neg
plain_number nan p = absurd p
plain_number (inf s) p = (tt, tt)
plain_number (fin s m e) p = (tt, tt)

round_number : (s : Bool) (a c : ℕ) → Number (round binary64 s a c)
round_number true a c = subst Number (sym (round_neg binary64 a c)) (plain_number _ (round_plain binary64 a c)).1
round_number false a c = (plain_number _ (round_plain binary64 a c)).0

rounded-number : (r : Float) (p n c : ℕ) → Rounded r p n c → Number r
rounded-number r p n c (inl a) = subst Number (sym a.1) (round_number false (p - n) c)
rounded-number r p n c (inr a) = subst Number (sym a.1) (round_number true (n - p) c)

add_number : (s : Bool) (m : ℕ) (e : ℤ) (u : Bool) (q : ℕ) (g : ℤ) → Number (add binary64 (fin s m e) (fin u q g))
unfolding add
add_number s m e u q g = rounded-number _ _ _ _ (sum_rounds s u (m * up e * down g) (q * up g * down e) (down e * down g))

-- ---- each operation keeps the order: both results are rounded from differences in that order
sub_mono : (x y o : Float) → T (finite o) → T (le x y) → T (le (sub binary64 x o) (sub binary64 y o))
unfolding sub le neg add
sub_mono x y nan f h = absurd f
sub_mono x y (inf s) f h = absurd f
sub_mono nan y (fin u q g) f h = absurd h
sub_mono (inf true) nan (fin u q g) f h = absurd h
sub_mono (inf false) nan (fin u q g) f h = absurd h
sub_mono (inf s) (inf t) (fin u q g) f h = h
sub_mono (inf true) (fin t n d) (fin u q g) f h = low_end _ (add_number t n d (not u) q g)
sub_mono (inf false) (fin t n d) (fin u q g) f h = absurd h
sub_mono (fin s m e) nan (fin u q g) f h = absurd h
sub_mono (fin s m e) (inf true) (fin u q g) f h = absurd h
sub_mono (fin s m e) (inf false) (fin u q g) f h = high_end _ (add_number s m e (not u) q g)
sub_mono (fin s m e) (fin t n d) (fin u q g) f h = add_fin_mono s m e t n d (not u) q g h

quotient : (s : Bool) (m : ℕ) (e : ℤ) (q : ℕ) (g : ℤ) → 0 < q → Rounded (div binary64 (fin s m e) (fin false q g)) (plus s (m * up e * down g)) (less s (m * up e * down g)) (q * up g * down e)
unfolding div
quotient true m e q g h = inr (omega arith, ap (λ (b : Bool). cond b (cond (eqb m 0) nan (inf true)) (round binary64 true (m * up e * down g) (q * up g * down e))) (ne_eqb q 0 (λ z. omega arith)) ∙ ap (λ (z : ℕ). round binary64 true z (q * up g * down e)) (omega arith))
quotient false m e q g h = inl (omega arith, ap (λ (b : Bool). cond b (cond (eqb m 0) nan (inf false)) (round binary64 false (m * up e * down g) (q * up g * down e))) (ne_eqb q 0 (λ z. omega arith)) ∙ ap (λ (z : ℕ). round binary64 false z (q * up g * down e)) (omega arith))

div_fin_mono : (s : Bool) (m : ℕ) (e : ℤ) (t : Bool) (n : ℕ) (d : ℤ) (q : ℕ) (g : ℤ) → 0 < q → T (le (fin s m e) (fin t n d)) → T (le (div binary64 (fin s m e) (fin false q g)) (div binary64 (fin t n d) (fin false q g)))
unfolding le
div_fin_mono s m e t n d q g p h =
    let x = fin_out s t (m * up e * down d) (n * up d * down e) h in
    let X = plus s (m * up e) in
    let X' = less s (m * up e) in
    let Y = plus t (n * up d) in
    let Y' = less t (n * up d) in
    let y : X * down d + Y' * down e ≤ Y * down e + X' * down d = omega (arith, x, plus_times s (m * up e) (down d), plus_times t (n * up d) (down e)) in
    let z : X * down g * (q * up g * down d) + Y' * down g * (q * up g * down e) ≤ Y * down g * (q * up g * down e) + X' * down g * (q * up g * down d) = omega (arith, mul-le-mul_right (down g * (q * up g)) y) in
    let w : plus s (m * up e * down g) * (q * up g * down d) + less t (n * up d * down g) * (q * up g * down e) ≤ plus t (n * up d * down g) * (q * up g * down e) + less s (m * up e * down g) * (q * up g * down d) =
    rw ((plus_times s (m * up e) (down g)).0, (plus_times s (m * up e) (down g)).1, (plus_times t (n * up d) (down g)).0, (plus_times t (n * up d) (down g)).1) z in
    rounded_mono _ _ _ _ (q * up g * down e) _ _ (q * up g * down d) (mul-pos (mul-pos p (up_pos g)) (down_pos e)) (mul-pos (mul-pos p (up_pos g)) (down_pos d))
    (quotient s m e q g p) (quotient t n d q g p) w

plain_sign : (s : Bool) → unlike s false ≡ s
plain_sign true = refl
plain_sign false = refl

div_mono_by : (x y i : Float) → T (positive i) → T (le x y) → T (le (div binary64 x i) (div binary64 y i))
unfolding le div
div_mono_by x y nan p h = absurd p
div_mono_by x y (inf s) p h = absurd p
div_mono_by x y (fin true q g) p h = absurd p
div_mono_by nan y (fin false q g) p h = absurd h
div_mono_by (inf true) nan (fin false q g) p h = absurd h
div_mono_by (inf false) nan (fin false q g) p h = absurd h
div_mono_by (inf true) (inf true) (fin false q g) p h = tt
div_mono_by (inf true) (inf false) (fin false q g) p h = tt
div_mono_by (inf false) (inf true) (fin false q g) p h = absurd h
div_mono_by (inf false) (inf false) (fin false q g) p h = tt
div_mono_by (inf true) (fin t n d) (fin false q g) p h = low_end _ (rounded-number _ _ _ _ (quotient t n d q g (ltb→lt 0 q p)))
div_mono_by (inf false) (fin t n d) (fin false q g) p h = absurd h
div_mono_by (fin s m e) nan (fin false q g) p h = absurd h
div_mono_by (fin s m e) (inf true) (fin false q g) p h = absurd h
div_mono_by (fin s m e) (inf false) (fin false q g) p h = high_end _ (rounded-number _ _ _ _ (quotient s m e q g (ltb→lt 0 q p)))
div_mono_by (fin s m e) (fin t n d) (fin false q g) p h = div_fin_mono s m e t n d q g (ltb→lt 0 q p) h

-- ---- the floor
floor_low : (y : Float) → neg_ℤ (pos (2 ^ 63)) ≤ℤ floor_i64 y
unfolding floor_i64
floor_low nan = record { le = tt }
floor_low (inf true) = record { le = tt }
floor_low (inf false) = record { le = tt }
floor_low (fin true m e) = omega (arith, ints)
floor_low (fin false m e) = omega (arith, ints)

floor_high : (x : Float) → floor_i64 x ≤ℤ pos (2 ^ 63 - 1)
unfolding floor_i64
floor_high nan = record { le = tt }
floor_high (inf true) = record { le = tt }
floor_high (inf false) = record { le = tt }
floor_high (fin true m e) = omega (arith, ints)
floor_high (fin false m e) = omega (arith, ints)

none_of : (a d : ℕ) → 0 < d → a * d ≤ 0 → a ≡ 0
none_of a d D h = omega (arith, le-mul_of_pos_right {m = d} a D)

floor_mono : (x y : Float) → T (le x y) → floor_i64 x ≤ℤ floor_i64 y
unfolding le floor_i64
floor_mono nan y h = absurd h
floor_mono (inf true) nan h = absurd h
floor_mono (inf true) (inf t) h = floor_low (inf t)
floor_mono (inf true) (fin t n d) h = floor_low (fin t n d)
floor_mono (inf false) nan h = absurd h
floor_mono (inf false) (inf true) h = absurd h
floor_mono (inf false) (inf false) h = record { le = tt }
floor_mono (inf false) (fin t n d) h = absurd h
floor_mono (fin s m e) nan h = absurd h
floor_mono (fin s m e) (inf true) h = absurd h
floor_mono (fin s m e) (inf false) h = floor_high (fin s m e)
floor_mono (fin false m e) (fin false n d) h =
    let k : m * up e * down d ≤ n * up d * down e = omega (arith, fin_out false false (m * up e * down d) (n * up d * down e) h) in
    let l = div_mono (m * up e) (down e) (n * up d) (down d) (down_pos e) (down_pos d) k in
    omega (arith, ints)
floor_mono (fin true m e) (fin false n d) h = omega (arith, ints)
floor_mono (fin true m e) (fin true n d) h =
    let k : n * up d * down e ≤ m * up e * down d = omega (arith, fin_out true true (m * up e * down d) (n * up d * down e) h) in
    let c = over (m * up e) (down e) in
    let r : n * up d ≤ c * down d = le_of_mul-le-mul_right {k = down e} (omega (arith, mul-le-mul_right (down d) (over_reaches (m * up e) (down e) (down_pos e)), k)) (down_pos e) in
    let l = over_least (n * up d) (down d) c (down_pos d) r in
    omega (arith, ints)
floor_mono (fin false m e) (fin true n d) h =
    let k = fin_out false true (m * up e * down d) (n * up d * down e) h in
    let a : m * up e ≡ 0 = none_of (m * up e) (down d) (down_pos d) (omega (arith, k)) in
    let b : n * up d ≡ 0 = none_of (n * up d) (down e) (down_pos e) (omega (arith, k)) in
    let p : part (m * up e) (down e) ≡ 0 = ap (λ (z : ℕ). z / down e) a ∙ zero-div (down e) in
    let q = over_least (n * up d) (down d) 0 (down_pos d) (omega arith) in
    omega (arith, ints)

-- ---- the interval
pub zero_is : Grids.zero ≡ fin false 0 (pos 0)
unfolding of_bits
zero_is = refl

positive_above : (i : Float) → T (Floats.float_is_finite i) → T (lt (fin false 0 (pos 0)) i) → T (positive i)
unfolding Floats.float_is_finite lt
positive_above nan f h = absurd f
positive_above (inf s) f h = absurd f
positive_above (fin true m e) f h = absurd h
positive_above (fin false zero e) f h = let k = is_true _ h in absurd (omega (arith, ltb-true _ _ k))
positive_above (fin false (suc m) e) f h = lt→ltb 0 (suc m) (zero-lt-suc m)

finite_offset : (x : Float) → T (Floats.float_is_finite x) → T (finite x)
unfolding Floats.float_is_finite
finite_offset nan f = f
finite_offset (inf s) f = f
finite_offset (fin s m e) f = f

pub rising : Rising
rising g v w s h =
    let i = g.interval in
    let o = g.offset in
    let p = positive_above i s.interval_finite (subst (λ (z : Float). T (lt z i)) zero_is s.interval_above) in
    floor_mono _ _ (div_mono_by (sub binary64 v o) (sub binary64 w o) i p (sub_mono v w o (finite_offset o s.offset_finite) h))
