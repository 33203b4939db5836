-- The compensation is what an addition rounds off: the difference of the rounded sum and the larger summand, and that less
-- the smaller one, have few digits, so neither is rounded (Dekker). All in units of the smallest positive f64.
use Rattle.std.proofs.Common.{◌≡◌, ℕ, zero, suc, ◌+◌, ◌-◌, ◌*◌, ◌/◌, ◌%◌, ◌^◌, ◌<◌, ◌≤◌, Bool, true, false, cond, not, ◌&&◌, T, eqb, ltb, leb, ◌⊎◌, ℤ, pos, negsuc, ◌+ℤ◌, neg_ℤ, nat_abs, sym, refl, ap, ◌∙◌, subst, ap₂, inl, inr, ⊎_elim, le_of_eq, lt_of_le_of_lt, mul-le-mul_right, mul_assoc, mul_comm, add-mul, mul-lt-mul_of_pos_right, mul-pos, mul-one, mul_right_comm, mul-div_cancel, arith, lit<, ltb→lt, leb→le, pow_pos, pow-add}
use mathlib.Core.Bool.{beq, false≢true}
use lib.Pow.{pow-lt}
use lib.Ieee.{Float, nan, inf, fin, binary64, prec, emax, low, up, down, size, odd, units, round, sum, add, sub, neg, fits, of_bits}
use lib.Ieee.Fits.{down_pos, and_l, and_r, core, round_is}
use lib.Ieee.Exact.{HasValue, round_exact, units_val}
use lib.Ieee.Nearest.{closest, closest_same}
use lib.Ieee.Bits.{of_bits-fits}
use lib.Ieee.Scale.{round_same}
use Rattle.std.specs.Float.{float_is_finite}
use Rattle.std.proofs.lemmas.Bool.{cases_lt}
use Rattle.std.proofs.lemmas.Bool.Decides.{leb_tells}
use Rattle.std.proofs.lemmas.Int.{ints}
use Rattle.metrics.specs.Carry.{signed, in_units, Carries}
use Rattle.metrics.specs.Floats.{float_of}
use Rattle.metrics.proofs.Nearing.{dist, cut, rounded, Few, near, minus_scale}

abbrev unit : ℕ
unit = 2 ^ low binary64

abbrev top : ℕ
top = 2 ^ (low binary64 + suc (emax binary64))

-- ---- a float as a number of units

abbrev Units : Float → Bool → ℕ → Type 0
Units x s n = HasValue x s n unit

units_are : (x : Float) (s : Bool) (n : ℕ) → Units x s n → in_units x ≡ signed s n
units_are nan s n h = absurd h
units_are (inf t) s n h = absurd h
units_are (fin t m e) s n h =
    ap (λ (b : Bool). signed b (m * up e * unit / down e)) h.0 ∙ ap (signed s) (ap (λ (z : ℕ). z / down e) h.1 ∙ mul-div_cancel n (down_pos e))

-- ---- a float that fits is a whole number of units, of few digits
pub record Whole (x : Float) (s : Bool) : Type 0 where
  pub n : ℕ
  pub has : Units x s n
  pub rep : Few n
  pub fine : n < top

-- the number of units, and that it is not too large
size_up : (l t m k : ℕ) → m * 2 ^ k < 2 ^ t * 1 → (m * 2 ^ k * 2 ^ l ≡ m * 2 ^ (k + l) * 1) × (m * 2 ^ (k + l) < 2 ^ (l + t))
size_up l t m k h =
    let e : m * 2 ^ (k + l) ≡ m * 2 ^ k * 2 ^ l = ap (λ (z : ℕ). m * z) (pow-add 2 k l) ∙ sym (mul_assoc m (2 ^ k) (2 ^ l)) in
    let g : m * 2 ^ k * 2 ^ l < 2 ^ t * 2 ^ l = mul-lt-mul_of_pos_right (omega (arith, h)) (pow_pos l) in
    let f : 2 ^ (l + t) ≡ 2 ^ t * 2 ^ l = pow-add 2 l t ∙ mul_comm (2 ^ l) (2 ^ t) in
    (omega arith, omega arith)

size_down : (l t m k : ℕ) → k ≤ l → m * 1 < 2 ^ t * 2 ^ k → (m * 1 * 2 ^ l ≡ m * 2 ^ (l - k) * 2 ^ k) × (m * 2 ^ (l - k) < 2 ^ (l + t))
size_down l t m k le h =
    let e : 2 ^ l ≡ 2 ^ (l - k) * 2 ^ k = ap (λ (z : ℕ). 2 ^ z) (omega arith) ∙ pow-add 2 (l - k) k in
    let g : m * 1 * 2 ^ (l - k) < 2 ^ t * 2 ^ k * 2 ^ (l - k) = mul-lt-mul_of_pos_right h (pow_pos (l - k)) in
    let f : 2 ^ (l + t) ≡ 2 ^ t * 2 ^ k * 2 ^ (l - k) =
    pow-add 2 l t ∙ mul_comm (2 ^ l) (2 ^ t) ∙ ap (λ (z : ℕ). 2 ^ t * z) (e ∙ mul_comm (2 ^ (l - k)) (2 ^ k)) ∙ sym (mul_assoc (2 ^ t) (2 ^ k) (2 ^ (l - k)))
    in
    let c : m * 1 * 2 ^ (l - k) ≡ m * 2 ^ (l - k) = ap (λ (z : ℕ). z * 2 ^ (l - k)) (mul-one m) in (
      ap (λ (z : ℕ). z * 2 ^ l) (mul-one m) ∙ ap (λ (z : ℕ). m * z) e ∙ sym (mul_assoc m (2 ^ (l - k)) (2 ^ k)),
      omega arith,
    )

below_pow : (a b : ℕ) → 2 ^ a ≤ 2 ^ b → a ≤ b
below_pow a b h = ⊎_elim (λ l. let p : 2 ^ b < 2 ^ a = pow-lt l in absurd (omega arith)) (λ l. l) (cases_lt b a)

nil_times : (a b c : ℕ) → 0 * a * b ≡ 0 * c
nil_times a b c = omega arith

whole : (s : Bool) (m : ℕ) (e : ℤ) → T (fits binary64 (fin s m e)) → Whole (fin s m e) s
unfolding fits
whole s zero e h = record { n = 0; has = (refl, nil_times (up e) unit (down e)); rep = record { q = 0; j = 0; small = lit< tt; is = refl }; fine = lit< tt }
whole s (suc m) e h =
    let a = eqb (suc m % 2) 1 in
    let b = ltb (suc m) (2 ^ prec binary64) in
    let c = leb (down e) (2 ^ low binary64) in
    let d = ltb (suc m * up e) (2 ^ suc (emax binary64) * down e) in
    let few : suc m < 2 ^ 53 = ltb→lt (suc m) (2 ^ prec binary64) (and_r a b (and_l (a && b) c (and_l (a && b && c) d h))) in
    let deep : down e ≤ 2 ^ low binary64 = leb→le (down e) (2 ^ low binary64) (and_r (a && b) c (and_l (a && b && c) d h)) in
    let fine : suc m * up e < 2 ^ suc (emax binary64) * down e = ltb→lt (suc m * up e) (2 ^ suc (emax binary64) * down e) (and_r (a && b && c) d h) in
    go e few deep fine
  where
    go : (e : ℤ) → suc m < 2 ^ 53 → down e ≤ 2 ^ low binary64 → suc m * up e < 2 ^ suc (emax binary64) * down e → Whole (fin s (suc m) e) s
    go (pos k) few deep fine =
        let r = size_up (low binary64) (suc (emax binary64)) (suc m) k fine in
        record { n = suc m * 2 ^ (k + low binary64); has = (refl, r.0); rep = record { q = suc m; j = k + low binary64; small = few; is = refl }; fine = r.1 }
    go (negsuc k) few deep fine =
        let r = size_down (low binary64) (suc (emax binary64)) (suc m) (suc k) (below_pow (suc k) (low binary64) deep) fine in
        record { n = suc m * 2 ^ (low binary64 - suc k); has = (refl, r.0); rep = record { q = suc m; j = low binary64 - suc k; small = few; is = refl }; fine = r.1 }

-- ---- a sum by the numbers of units
-- equal fractions compare alike
ltb_same : (a b c A B C : ℕ) → 0 < c → 0 < C → a * C ≡ A * c → b * C ≡ B * c → ltb a b ≡ ltb A B
ltb_same a b c A B C p P e f = go (leb_tells (suc a) b) (leb_tells (suc A) B)
  where
    go : ((leb (suc a) b ≡ true) × (suc a ≤ b)) ⊎ ((leb (suc a) b ≡ false) × (b < suc a)) → ((leb (suc A) B ≡ true) × (suc A ≤ B)) ⊎ ((leb (suc A) B ≡ false) × (B < suc A)) → ltb a b ≡ ltb A B
    go (inl x) (inl y) = x.0 ∙ sym y.0
    go (inl x) (inr y) =
        let l : a * C < b * C = mul-lt-mul_of_pos_right x.1 P in
        let k : B * c ≤ A * c = mul-le-mul_right c (omega (arith, y.1)) in
        absurd (omega arith)
    go (inr x) (inl y) =
        let l : A * c < B * c = mul-lt-mul_of_pos_right y.1 p in
        let k : b * C ≤ a * C = mul-le-mul_right C (omega (arith, x.1)) in
        absurd (omega arith)
    go (inr x) (inr y) = x.0 ∙ sym y.0

cross_minus : (a b c A B C : ℕ) → a * C ≡ A * c → b * C ≡ B * c → (a - b) * C ≡ (A - B) * c
cross_minus a b c A B C e f = minus_scale a b C ∙ ap₂ (λ x y. x - y) e f ∙ sym (minus_scale A B c)

-- so a sum sees only the values
sum_same : (s t : Bool) (a b c A B C : ℕ) → 0 < c → 0 < C → a * C ≡ A * c → b * C ≡ B * c → sum binary64 s a t b c ≡ sum binary64 s A t B C
unfolding sum
sum_same s t a b c A B C p P e f =
    let one : round binary64 s (a + b) c ≡ round binary64 s (A + B) C = round_same binary64 s (a + b) c (A + B) C p P (add-mul a b C ∙ ap₂ (λ x y. x + y) e f ∙ sym (add-mul A B c)) in
    let two : round binary64 t (b - a) c ≡ round binary64 t (B - A) C = round_same binary64 t (b - a) c (B - A) C p P (cross_minus b a c B A C f e) in
    let six : round binary64 (s && ltb b a) (a - b) c ≡ round binary64 (s && ltb B A) (A - B) C =
    ap (λ (z : Bool). round binary64 (s && z) (a - b) c) (ltb_same b a c B A C p P f e)
    ∙ round_same binary64 (s && ltb B A) (a - b) c (A - B) C p P (cross_minus a b c A B C e f)
    in
    ap (λ (z : Float). cond (beq s t) z (cond (ltb a b) (round binary64 t (b - a) c) (round binary64 (s && ltb b a) (a - b) c))) one
    ∙ ap (λ (z : Float). cond (beq s t) (round binary64 s (A + B) C) (cond (ltb a b) z (round binary64 (s && ltb b a) (a - b) c))) two
    ∙ ap (λ (z : Float). cond (beq s t) (round binary64 s (A + B) C) (cond (ltb a b) (round binary64 t (B - A) C) z)) six
    ∙ ap (λ (z : Bool). cond (beq s t) (round binary64 s (A + B) C) (cond z (round binary64 t (B - A) C) (round binary64 (s && ltb B A) (A - B) C))) (ltb_same a b c A B C p P e f)

add_units : (x y : Float) (s t : Bool) (m n : ℕ) → Units x s m → Units y t n → add binary64 x y ≡ sum binary64 s m t n unit
unfolding add
add_units nan y s t m n h k = absurd h
add_units (inf a) y s t m n h k = absurd h
add_units (fin a p e) nan s t m n h k = absurd k
add_units (fin a p e) (inf b) s t m n h k = absurd k
add_units (fin a p e) (fin b q d) s t m n h k =
    ap₂ (λ x y. sum binary64 x (p * up e * down d) y (q * up d * down e) (down e * down d)) h.0 k.0
    ∙ sum_same s t (p * up e * down d) (q * up d * down e) (down e * down d) m n unit (mul-pos (down_pos e) (down_pos d)) (pow_pos (low binary64))
    (mul_right_comm (p * up e) (down d) unit ∙ ap (λ (z : ℕ). z * down d) h.1 ∙ mul_assoc m (down e) (down d))
    (mul_right_comm (q * up d) (down e) unit ∙ ap (λ (z : ℕ). z * down e) k.1 ∙ mul_assoc n (down d) (down e) ∙ ap (λ (z : ℕ). n * z) (mul_comm (down d) (down e)))

-- the sign and the size of a sum
after : (m n : ℕ) → m < n → signed true (n - m) ≡ signed false m +ℤ signed true n
after m n h = omega (arith, ints)

before : (m n : ℕ) → n < suc m → signed false (m - n) ≡ signed false m +ℤ signed true n
before m n h = omega (arith, ints)

over : (m n : ℕ) → m < n → signed false (n - m) ≡ signed true m +ℤ signed false n
over m n h = omega (arith, ints)

under : (m n : ℕ) → n < m → signed true (m - n) ≡ signed true m +ℤ signed false n
under m n h = omega (arith, ints)

level : (m n : ℕ) → n < suc m → m < suc n → signed false (m - n) ≡ signed true m +ℤ signed false n
level m n h k = omega (arith, ints)

pub record Summed (s : Bool) (m : ℕ) (t : Bool) (n : ℕ) : Type 0 where
  pub sign : Bool
  pub size' : ℕ
  pub is : sum binary64 s m t n unit ≡ round binary64 sign size' unit
  pub adds : signed sign size' ≡ signed s m +ℤ signed t n

summed : (s t : Bool) (m n : ℕ) → Summed s m t n
unfolding sum
summed false false m n = record { sign = false; size' = m + n; is = refl; adds = refl }
summed true true m n = record { sign = true; size' = m + n; is = refl; adds = omega (arith, ints) }
summed false true m n = go (leb_tells (suc m) n)
  where
    go : ((leb (suc m) n ≡ true) × (suc m ≤ n)) ⊎ ((leb (suc m) n ≡ false) × (n < suc m)) → Summed false m true n
    go (inl h) = record { sign = true; size' = n - m; is = ap (λ (b : Bool). cond b (round binary64 true (n - m) unit) (round binary64 false (m - n) unit)) h.0; adds = after m n h.1 }
    go (inr h) = record { sign = false; size' = m - n; is = ap (λ (b : Bool). cond b (round binary64 true (n - m) unit) (round binary64 false (m - n) unit)) h.0; adds = before m n h.1 }
summed true false m n = go (leb_tells (suc m) n) (leb_tells (suc n) m)
  where
    go : ((leb (suc m) n ≡ true) × (suc m ≤ n)) ⊎ ((leb (suc m) n ≡ false) × (n < suc m)) → ((leb (suc n) m ≡ true) × (suc n ≤ m)) ⊎ ((leb (suc n) m ≡ false) × (m < suc n)) → Summed true m false n
    go (inl h) k = record { sign = false; size' = n - m; is = ap (λ (b : Bool). cond b (round binary64 false (n - m) unit) (round binary64 (ltb n m) (m - n) unit)) h.0; adds = over m n h.1 }
    go (inr h) (inl k) = record { sign = true; size' = m - n; is = ap₂ (λ b d. cond b (round binary64 false (n - m) unit) (round binary64 d (m - n) unit)) h.0 k.0; adds = under m n k.1 }
    go (inr h) (inr k) = record { sign = false; size' = m - n; is = ap₂ (λ b d. cond b (round binary64 false (n - m) unit) (round binary64 d (m - n) unit)) h.0 k.0; adds = level m n h.1 k.1 }

-- ---- signed numbers
signed_size : (a b : Bool) (m n : ℕ) → signed a m ≡ signed b n → m ≡ n
signed_size false false m n e = omega (arith, ints)
signed_size false true m n e = omega (arith, ints)
signed_size true false m n e = omega (arith, ints)
signed_size true true m n e = omega (arith, ints)

signed_not : (a : Bool) (n : ℕ) → signed (not a) n ≡ neg_ℤ (signed a n)
signed_not false n = refl
signed_not true n = omega (arith, ints)

abs_signed : (a : Bool) (n : ℕ) → nat_abs (signed a n) ≡ n
abs_signed false n = refl
abs_signed true zero = refl
abs_signed true (suc n) = refl

-- the distance of two numbers of one sign, with some sign
gap : (b : Bool) (m n : ℕ) → (a : Bool) × (signed a (dist m n) ≡ signed b m +ℤ neg_ℤ (signed b n))
gap false m n = ⊎_elim (λ h. (true, omega (arith, ints))) (λ h. (false, omega (arith, ints))) (cases_lt m n)
gap true m n = ⊎_elim (λ h. (false, omega (arith, ints))) (λ h. (true, omega (arith, ints))) (cases_lt m n)

-- the larger of two numbers lies the smaller away from their sum
apart : (a b c : Bool) (s y n : ℕ) → y ≤ s → signed c n ≡ signed a s +ℤ signed b y → dist s n ≡ y
apart false false false s y n h e = omega (arith, ints)
apart false false true s y n h e = omega (arith, ints)
apart false true false s y n h e = omega (arith, ints)
apart false true true s y n h e = omega (arith, ints)
apart true false false s y n h e = omega (arith, ints)
apart true false true s y n h e = omega (arith, ints)
apart true true false s y n h e = omega (arith, ints)
apart true true true s y n h e = omega (arith, ints)

-- and the sum has its sign, unless it is 0
alike_sign : (a b c : Bool) (s y n : ℕ) → y ≤ s → signed c n ≡ signed a s +ℤ signed b y → (c ≡ a) ⊎ (n ≡ 0)
alike_sign false b false s y n h e = inl refl
alike_sign true b true s y n h e = inl refl
alike_sign false false true s y n h e = inr (omega (arith, ints))
alike_sign false true true s y n h e = inr (omega (arith, ints))
alike_sign true false false s y n h e = inr (omega (arith, ints))
alike_sign true true false s y n h e = inr (omega (arith, ints))

-- ---- rounding, by the numbers of units
round_units : (s : Bool) (n : ℕ) → round binary64 s n unit ≡ units binary64 s (closest n (2 ^ cut n)) (cut n)
round_units s n =
    let k = cut n in
    round_is binary64 s n unit
    ∙ ap (λ (z : ℕ). core binary64 s (n * unit) unit (size z - 53)) (mul-div_cancel n (pow_pos (low binary64)))
    ∙ ap (λ (z : ℕ). units binary64 s z k) (closest_same (n * unit) (unit * 2 ^ k) n (2 ^ k) (mul-pos (pow_pos (low binary64)) (pow_pos k)) (pow_pos k) (mul_assoc n unit (2 ^ k)))

units_under : (s : Bool) (q k : ℕ) → float_is_finite (units binary64 s q k) ≡ true → q * 2 ^ k < top
unfolding units float_is_finite
units_under s q k = go (ltb (q * 2 ^ k) top) (ltb→lt (q * 2 ^ k) top)
  where
    go : (b : Bool) → (T b → q * 2 ^ k < top) → float_is_finite (cond b (odd (suc (prec binary64)) s q k (low binary64)) (inf s)) ≡ true → q * 2 ^ k < top
    go true h e = h tt
    go false h e = absurd (false≢true e)

rounds : (s : Bool) (n : ℕ) → float_is_finite (round binary64 s n unit) ≡ true → Units (round binary64 s n unit) s (rounded n) × (rounded n < top)
rounds s n e =
    let u = round_units s n in
    let l : rounded n < top = units_under s (closest n (2 ^ cut n)) (cut n) (subst (λ (x : Float). float_is_finite x ≡ true) u e) in
    (subst (λ (x : Float). Units x s (rounded n)) (sym u) (units_val binary64 s (closest n (2 ^ cut n)) (cut n) l), l)

neg_units : (x : Float) (s : Bool) (n : ℕ) → Units x s n → Units (neg x) (not s) n
unfolding neg
neg_units nan s n h = absurd h
neg_units (inf t) s n h = absurd h
neg_units (fin t m e) s n h = (ap not h.0, h.1)

-- a sum of few digits is exact
pub record ExactSum (x y : Float) (s : Bool) (m : ℕ) (t : Bool) (n k : ℕ) : Type 0 where
  pub sign : Bool
  pub has : Units (add binary64 x y) sign k
  pub adds : signed sign k ≡ signed s m +ℤ signed t n

exact_sum : (x y : Float) (s t : Bool) (m n : ℕ) → Units x s m → Units y t n → (a : Bool) (k : ℕ) → signed a k ≡ signed s m +ℤ signed t n → Few k → k < top → ExactSum x y s m t n k
exact_sum x y s t m n h g a k e r fine =
    let z = summed s t m n in
    let same : z.size' ≡ k = signed_size z.sign a z.size' k (z.adds ∙ sym e) in
    let is : add binary64 x y ≡ round binary64 z.sign k unit = add_units x y s t m n h g ∙ z.is ∙ ap (λ (w : ℕ). round binary64 z.sign w unit) same in
    record {
      sign = z.sign;
      has = subst (λ (w : Float). Units w z.sign k) (sym is) (round_exact binary64 z.sign k unit r.q r.j (pow_pos (low binary64)) r.small (subst (λ (w : ℕ). w < top) r.is fine) (ap (λ (w : ℕ). w * unit) r.is));
      adds = ap (signed z.sign) (sym same) ∙ z.adds;
    }

-- where the sum is 0, so is the rounded one, and its sign does not matter
none_rounded : rounded 0 ≡ 0
none_rounded =
    let r : Few 0 = record { q = 0; j = 0; small = lit< tt; is = refl } in
    let h = (near 0 0 0 r r (le_of_eq refl) refl).2 in
    omega (arith, h)

agree : (c a : Bool) (n : ℕ) → (c ≡ a) ⊎ (n ≡ 0) → signed c (rounded n) ≡ signed a (rounded n)
agree c a n (inl e) = ap (λ (b : Bool). signed b (rounded n)) e
agree c a n (inr e) =
    let z : rounded n ≡ 0 = ap rounded e ∙ none_rounded in
    ap (signed c) z ∙ nought c a ∙ ap (signed a) (sym z)
  where
    nought : (c a : Bool) → signed c 0 ≡ signed a 0
    nought false false = refl
    nought false true = refl
    nought true false = refl
    nought true true = refl

between : (m n t : ℕ) → m < t → n < t → dist m n < t
between m n t h k = omega arith

-- ---- the theorem, by the numbers of units
closing : (t s y d z : ℤ) → z ≡ t +ℤ neg_ℤ s → d ≡ z +ℤ neg_ℤ y → t ≡ s +ℤ y +ℤ d
closing t s y d z p q = omega (arith, ints)

turning : (t n s y z e : ℤ) → n ≡ s +ℤ y → z ≡ t +ℤ neg_ℤ s → e ≡ t +ℤ neg_ℤ n → e ≡ z +ℤ neg_ℤ y
turning t n s y z e p q r = omega (arith, ints)

module _ (x y : Float) (a b : Bool) (u : Whole x a) (v : Whole y b) (small : v.n ≤ u.n) (fine : float_is_finite (add binary64 x y) ≡ true) where
  carries-units : in_units (add binary64 x y) ≡ in_units x +ℤ in_units y +ℤ in_units (sub binary64 (sub binary64 (add binary64 x y) x) y)
  unfolding sub
  carries-units =
      let z = summed a b u.n v.n in
      let n = z.size' in
      let is : add binary64 x y ≡ round binary64 z.sign n unit = add_units x y a b u.n v.n u.has v.has ∙ z.is in
      let r = rounds z.sign n (subst (λ (w : Float). float_is_finite w ≡ true) is fine) in
      let t = rounded n in
      let has : Units (add binary64 x y) z.sign t = subst (λ (w : Float). Units w z.sign t) (sym is) r.0 in
      let nr = near u.n v.n n u.rep v.rep small (apart a b z.sign u.n v.n n small z.adds) in
      let same : signed z.sign t ≡ signed a t = agree z.sign a n (alike_sign a b z.sign u.n v.n n small z.adds) in
      let g = gap a t u.n in
      let first =
      exact_sum (add binary64 x y) (neg x) z.sign (not a) t u.n has (neg_units x a u.n u.has) g.0 (dist t u.n)
      (g.1 ∙ ap₂ (λ p q. p +ℤ q) (sym same) (sym (signed_not a u.n)))
      nr.0 (between t u.n top r.1 u.fine)
      in
      let k = gap z.sign t n in
      let second =
      exact_sum (add binary64 (add binary64 x y) (neg x)) (neg y) first.sign (not b) (dist t u.n) v.n first.has (neg_units y b v.n v.has) k.0 (dist t n)
      (turning (signed z.sign t) (signed z.sign n) (signed a u.n) (signed b v.n) (signed first.sign (dist t u.n)) (signed k.0 (dist t n)) z.adds (first.adds ∙ ap (λ q. signed z.sign t +ℤ q) (signed_not a u.n)) k.1 ∙ ap (λ q. signed first.sign (dist t u.n) +ℤ q) (sym (signed_not b v.n)))
      nr.1 (lt_of_le_of_lt nr.2 v.fine)
      in
      units_are (add binary64 x y) z.sign t has
      ∙ closing (signed z.sign t) (signed a u.n) (signed b v.n) (signed second.sign (dist t n)) (signed first.sign (dist t u.n)) (first.adds ∙ ap (λ q. signed z.sign t +ℤ q) (signed_not a u.n)) (second.adds ∙ ap (λ q. signed first.sign (dist t u.n) +ℤ q) (signed_not b v.n))
      ∙ sym (ap₂ (λ p q. p +ℤ q) (ap₂ (λ p q. p +ℤ q) (units_are x a u.n u.has) (units_are y b v.n v.has)) (units_are (add binary64 (add binary64 (add binary64 x y) (neg x)) (neg y)) second.sign (dist t n) second.has))

-- an addition that stays finite has finite summands
finite_carries : (x y : Float) → T (fits binary64 x) → T (fits binary64 y) → float_is_finite (add binary64 x y) ≡ true → nat_abs (in_units y) ≤ nat_abs (in_units x) → in_units (add binary64 x y) ≡ in_units x +ℤ in_units y +ℤ in_units (sub binary64 (sub binary64 (add binary64 x y) x) y)
unfolding add float_is_finite
finite_carries nan y p q f l = absurd (false≢true f)
finite_carries (inf a) nan p q f l = absurd (false≢true f)
finite_carries (inf true) (inf true) p q f l = absurd (false≢true f)
finite_carries (inf true) (inf false) p q f l = absurd (false≢true f)
finite_carries (inf false) (inf true) p q f l = absurd (false≢true f)
finite_carries (inf false) (inf false) p q f l = absurd (false≢true f)
finite_carries (inf a) (fin b n d) p q f l = absurd (false≢true f)
finite_carries (fin a m e) nan p q f l = absurd (false≢true f)
finite_carries (fin a m e) (inf b) p q f l = absurd (false≢true f)
finite_carries (fin a m e) (fin b n d) p q f l =
    let u = whole a m e p in
    let v = whole b n d q in
    let x = fin a m e in
    let y = fin b n d in
    let small : v.n ≤ u.n = subst (λ (i : ℕ). i ≤ u.n) (ap nat_abs (units_are y b v.n v.has) ∙ abs_signed b v.n) (subst (λ (i : ℕ). nat_abs (in_units y) ≤ i) (ap nat_abs (units_are x a u.n u.has) ∙ abs_signed a u.n) l) in
    carries-units x y a b u v small f

pub carries : Carries
carries s n y l h p f le =
    let x = float_of s.sum in
    finite_carries x y (of_bits-fits binary64 s.sum.bits) p f le
    ∙ ap (λ (g : Bool). in_units x +ℤ in_units y +ℤ in_units (cond g (sub binary64 (sub binary64 (add binary64 x y) x) y) (of_bits binary64 0))) (sym f)
