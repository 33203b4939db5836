-- Numbers rounded to 53 digits: a sum of two such numbers, rounded, differs from the larger of them and from the exact sum
-- by such numbers. Nothing here is about floats.
use Rattle.std.proofs.Common.{◌≡◌, ℕ, zero, suc, ◌+◌, ◌-◌, ◌*◌, ◌/◌, ◌%◌, ◌^◌, ◌<◌, ◌≤◌, not, T, eqb, ◌⊎◌, sym, refl, ap, ◌∙◌, subst, ap₂, inl, inr, le_trans, le_of_eq, lt_of_le_of_lt, mul-le-mul_right, mod-lt, mul_assoc, suc-mul, mul_comm, add-mul, mul-le-mul_left, mul-pos, pow-suc, div-add-mod', le_of_mul-le-mul_right, arith, lit<, eqb→eq, leb→le, pow_pos, pow_mono, pow-add}
use Prim.Native.Nat.{compare, Ordering}
use native.Mathlib.Nat.{mul-sub, eq_of_mul-eq-mul_right}
use lib.Arith.{lt_of_le-ne}
use lib.Dec.{is_le, compare_is_eq, nleb→lt, eqb_refl}
use lib.Ieee.{size, nearest}
use lib.Ieee.Digits.{size_reaches}
use lib.Ieee.Nearest.{closest, closest_same}
use Rattle.std.proofs.lemmas.Bool.{cases_lt, cases_order}

-- how far apart two numbers are
abbrev pub dist : ℕ → ℕ → ℕ
dist a b = (a - b) + (b - a)

-- n rounded to 53 digits: how many are cut off, and what is left
abbrev pub cut : ℕ → ℕ
cut n = size n - 53

abbrev pub rounded : ℕ → ℕ
rounded n = closest n (2 ^ cut n) * 2 ^ cut n

-- n has no more than 53 digits, but for zeros at its end
pub record Few (n : ℕ) : Type 0 where
  pub q : ℕ
  pub j : ℕ
  pub small : q < 2 ^ 53
  pub is : n ≡ q * 2 ^ j

-- ---- what `compare` says
abbrev Cmp : Ordering → ℕ → ℕ → Type 0
Cmp Ordering.lt a b = a < b
Cmp Ordering.eq a b = a ≡ b
Cmp Ordering.gt a b = b < a

cmp : (a b : ℕ) → Cmp (compare a b) a b
cmp a b = go (compare a b) (leb→le a b) (nleb→lt a b) (eqb→eq a b) (λ (e : a ≡ b). subst (λ (x : ℕ). T (eqb a x)) e (eqb_refl a))
  where
    go : (o : Ordering) → (T (is_le o) → a ≤ b) → (T (not (is_le o)) → b < a) → (T (compare_is_eq o) → a ≡ b) → (a ≡ b → T (compare_is_eq o)) → Cmp o a b
    go Ordering.lt h k e n = lt_of_le-ne (h tt) n
    go Ordering.eq h k e n = e tt
    go Ordering.gt h k e n = k tt

-- half a divisor at most lies between a number and the nearest multiple
within : (n w q r : ℕ) (o : Ordering) → q * w + r ≡ n → r < w → Cmp o (r * 2) w → (2 * (nearest q o * w) ≤ 2 * n + w) × (2 * n ≤ 2 * (nearest q o * w) + w)
within n w q r Ordering.lt e l c = (omega arith, omega arith)
within n w q r Ordering.eq e l c = tie (q % 2) (mod-lt q (omega arith))
  where
    tie : (x : ℕ) → x < 2 → (2 * ((q + x) * w) ≤ 2 * n + w) × (2 * n ≤ 2 * ((q + x) * w) + w)
    tie zero h = let a : (q + 0) * w ≡ q * w + 0 * w = add-mul q 0 w in (omega arith, omega arith)
    tie (suc zero) h = let a : (q + 1) * w ≡ q * w + 1 * w = add-mul q 1 w in (omega arith, omega arith)
    tie (suc (suc x)) h = absurd (omega arith)
within n w q r Ordering.gt e l c =
    let a : suc q * w ≡ q * w + 1 * w = ap (λ (x : ℕ). x * w) (omega arith) ∙ add-mul q 1 w in
    (omega arith, omega arith)

closest_within : (n w : ℕ) → 0 < w → (2 * (closest n w * w) ≤ 2 * n + w) × (2 * n ≤ 2 * (closest n w * w) + w)
closest_within n w h = within n w (n / w) (n % w) (compare (n % w * 2) w) (div-add-mod' n w) (mod-lt n h) (cmp (n % w * 2) w)

-- so no multiple is nearer
no_nearer : (n w j : ℕ) → 0 < w → dist (closest n w * w) n ≤ dist (j * w) n
no_nearer n w j h = let b = closest_within n w h in go (closest n w) b.0 b.1 (cases_order j (closest n w))
  where
    go : (c : ℕ) → 2 * (c * w) ≤ 2 * n + w → 2 * n ≤ 2 * (c * w) + w → (j ≡ c) ⊎ ((j < c) ⊎ (c < j)) → dist (c * w) n ≤ dist (j * w) n
    go c p q (inr (inl l)) =
        let a : suc j * w ≤ c * w = mul-le-mul_right w l in
        let b = suc-mul j w in
        omega arith
    go c p q (inl e) = le_of_eq (ap (λ (z : ℕ). dist (z * w) n) (sym e))
    go c p q (inr (inr l)) =
        let a : suc c * w ≤ j * w = mul-le-mul_right w l in
        let b = suc-mul c w in
        omega arith

pub minus_scale : (a b g : ℕ) → (a - b) * g ≡ a * g - b * g
minus_scale a b g = mul_comm (a - b) g ∙ mul-sub g a b ∙ ap₂ (λ x y. x - y) (mul_comm g a) (mul_comm g b)

dist_scale : (a b g : ℕ) → dist (a * g) (b * g) ≡ dist a b * g
dist_scale a b g = sym (add-mul (a - b) (b - a) g ∙ ap₂ (λ x y. x + y) (minus_scale a b g) (minus_scale b a g))

-- ---- a number of units of 2 ^ c that is rounded to a coarser unit
-- rounding does not mind the unit
scaled : (m c i : ℕ) → cut (m * 2 ^ c) ≡ c + suc i → rounded (m * 2 ^ c) ≡ closest m (2 ^ suc i) * 2 ^ suc i * 2 ^ c
scaled m c i e =
    let w = 2 ^ suc i in
    let k : 2 ^ (c + suc i) ≡ w * 2 ^ c = pow-add 2 c (suc i) ∙ mul_comm (2 ^ c) w in
    ap (λ (z : ℕ). closest (m * 2 ^ c) (2 ^ z) * 2 ^ z) e
    ∙ ap (λ (z : ℕ). closest (m * 2 ^ c) z * z) k
    ∙ ap (λ (z : ℕ). z * (w * 2 ^ c)) (closest_same (m * 2 ^ c) (w * 2 ^ c) m w (mul-pos (pow_pos (suc i)) (pow_pos c)) (pow_pos (suc i)) (mul_assoc m (2 ^ c) w ∙ ap (λ (z : ℕ). m * z) (mul_comm (2 ^ c) w)))
    ∙ sym (mul_assoc (closest m w) w (2 ^ c))

-- what is cut to 53 digits had them all
reaches : (m c i : ℕ) → cut (m * 2 ^ c) ≡ c + suc i → 2 ^ 52 * 2 ^ suc i ≤ m
reaches m c i e =
    let n = m * 2 ^ c in
    let k : 2 ^ (52 + (c + suc i)) ≤ n = size_reaches n (52 + (c + suc i)) (omega arith) in
    let p : 2 ^ (52 + (c + suc i)) ≡ 2 ^ 52 * 2 ^ suc i * 2 ^ c =
    pow-add 2 52 (c + suc i) ∙ ap (λ (z : ℕ). 2 ^ 52 * z) (pow-add 2 c (suc i) ∙ mul_comm (2 ^ c) (2 ^ suc i)) ∙ sym (mul_assoc (2 ^ 52) (2 ^ suc i) (2 ^ c))
    in
    le_of_mul-le-mul_right (le_trans (le_of_eq (sym p)) k) (pow_pos c)

-- The sum n of q * 2 ^ d and a y no larger, rounded to multiples of 2 ^ suc i. It is off by y at most, since the larger
-- summand or the least number of that size is a multiple too; and by half a multiple at most.
module _ (q d y n i : ℕ) (few : q < 2 ^ 53) (apart : dist (q * 2 ^ d) n ≡ y) (big : 2 ^ 52 * 2 ^ suc i ≤ n) where
  by-y : dist (closest n (2 ^ suc i) * 2 ^ suc i) n ≤ y
  by-y = go (cases_lt i d)
    where
      go : (i < d) ⊎ (d ≤ i) → dist (closest n (2 ^ suc i) * 2 ^ suc i) n ≤ y
      go (inl h) =
          let l : i < d = h in
          let j : q * 2 ^ d ≡ q * 2 ^ (d - suc i) * 2 ^ suc i = ap (λ (z : ℕ). q * 2 ^ z) (omega arith) ∙ ap (λ (z : ℕ). q * z) (pow-add 2 (d - suc i) (suc i)) ∙ sym (mul_assoc q (2 ^ (d - suc i)) (2 ^ suc i)) in
          le_trans (no_nearer n (2 ^ suc i) (q * 2 ^ (d - suc i)) (pow_pos (suc i))) (le_of_eq (ap (λ (z : ℕ). dist z n) (sym j) ∙ apart))
      go (inr h) =
          let l : 2 ^ d ≤ 2 ^ i = pow_mono (omega (arith, h)) in
          let a : q * 2 ^ d ≤ 2 ^ 53 * 2 ^ i = le_trans (mul-le-mul_right (2 ^ d) (omega (arith, few))) (mul-le-mul_left (2 ^ 53) l) in
          let b : 2 ^ suc i ≡ 2 ^ i * 2 = pow-suc 2 i in
          let m = no_nearer n (2 ^ suc i) (2 ^ 52) (pow_pos (suc i)) in
          omega (arith, m)

  by-half : dist (closest n (2 ^ suc i) * 2 ^ suc i) n ≤ 2 ^ i
  by-half =
      let b = closest_within n (2 ^ suc i) (pow_pos (suc i)) in
      let e : 2 ^ suc i ≡ 2 ^ i * 2 = pow-suc 2 i in
      omega (arith, b.0, b.1)

double : (h c : ℕ) → h * 2 * 2 ^ c ≡ h * 2 ^ suc c
double h c = mul_assoc h 2 (2 ^ c) ∙ ap (λ (z : ℕ). h * z) (mul_comm 2 (2 ^ c) ∙ sym (pow-suc 2 c))

-- What it rose by is a number of few digits too: an even number that is 2 * y at most, or y + 1 at most where q * 2 ^ d is
-- odd, since then the multiples are those of 2.
rise : (q d y n i c : ℕ) → q < 2 ^ 53 → y < 2 ^ 53 → y ≤ q * 2 ^ d → dist (q * 2 ^ d) n ≡ y → 2 ^ 52 * 2 ^ suc i ≤ n → Few (dist (closest n (2 ^ suc i) * 2 ^ suc i) (q * 2 ^ d) * 2 ^ c)
rise q zero y n i c few small below apart big =
    let t = closest n (2 ^ suc i) * 2 ^ suc i in
    let a = by-y q zero y n i few apart big in
    let b = by-half q zero y n i few apart big in
    let e : 2 ^ suc i ≡ 2 ^ i * 2 = pow-suc 2 i in
    go (dist t (q * 1)) (omega arith) (cases_lt (dist t (q * 1)) (2 ^ 53))
  where
    go : (x : ℕ) → x ≤ 2 ^ 53 → (x < 2 ^ 53) ⊎ (2 ^ 53 ≤ x) → Few (x * 2 ^ c)
    go x h (inl l) = record { q = x; j = c; small = l; is = refl }
    go x h (inr l) = record { q = 2 ^ 52; j = suc c; small = lit< tt; is = ap (λ (z : ℕ). z * 2 ^ c) (omega (arith, l)) ∙ double (2 ^ 52) c }
rise q (suc d) y n i c few small below apart big =
    let m = closest n (2 ^ suc i) in
    let a = by-y q (suc d) y n i few apart big in
    let e : m * 2 ^ suc i ≡ m * 2 ^ i * 2 = ap (λ (z : ℕ). m * z) (pow-suc 2 i) ∙ sym (mul_assoc m (2 ^ i) 2) in
    let f : q * 2 ^ suc d ≡ q * 2 ^ d * 2 = ap (λ (z : ℕ). q * z) (pow-suc 2 d) ∙ sym (mul_assoc q (2 ^ d) 2) in
    let h = dist (m * 2 ^ i) (q * 2 ^ d) in
    let g : dist (m * 2 ^ suc i) (q * 2 ^ suc d) ≡ h * 2 = ap₂ dist e f ∙ dist_scale (m * 2 ^ i) (q * 2 ^ d) 2 in
    record { q = h; j = suc c; small = omega arith; is = ap (λ (z : ℕ). z * 2 ^ c) g ∙ double h c }

abbrev pub Nearing : (n s y : ℕ) → ℕ → Type 0
Nearing n s y t = Few (dist t s) × Few (dist t n) × (dist t n ≤ y)

-- either the sum is rounded to a coarser unit, or it is exact
near_scaled : (c q d y n : ℕ) → q < 2 ^ 53 → y < 2 ^ 53 → y ≤ q * 2 ^ d → dist (q * 2 ^ d) n ≡ y → Nearing (n * 2 ^ c) (q * 2 ^ d * 2 ^ c) (y * 2 ^ c) (rounded (n * 2 ^ c))
near_scaled c q d y n few small below apart = go (cases_lt c (cut (n * 2 ^ c)))
  where
    go : (c < cut (n * 2 ^ c)) ⊎ (cut (n * 2 ^ c) ≤ c) → Nearing (n * 2 ^ c) (q * 2 ^ d * 2 ^ c) (y * 2 ^ c) (rounded (n * 2 ^ c))
    go (inl l) =
        let i = cut (n * 2 ^ c) - suc c in
        let e : cut (n * 2 ^ c) ≡ c + suc i = omega (arith, l) in
        let big = reaches n c i e in
        let t = closest n (2 ^ suc i) * 2 ^ suc i in
        let a : dist t n ≤ y = by-y q d y n i few apart big in
        subst (Nearing (n * 2 ^ c) (q * 2 ^ d * 2 ^ c) (y * 2 ^ c)) (sym (scaled n c i e)) (
          subst Few (sym (dist_scale t (q * 2 ^ d) (2 ^ c))) (rise q d y n i c few small below apart big),
          record { q = dist t n; j = c; small = lt_of_le_of_lt a small; is = dist_scale t n (2 ^ c) },
          le_trans (le_of_eq (dist_scale t n (2 ^ c))) (mul-le-mul_right (2 ^ c) a),
        )
    go (inr l) =
        let k = cut (n * 2 ^ c) in
        let m : n * 2 ^ (c - k) * 2 ^ k ≡ n * 2 ^ c = mul_assoc n (2 ^ (c - k)) (2 ^ k) ∙ ap (λ (z : ℕ). n * z) (sym (pow-add 2 (c - k) k)) ∙ ap (λ (z : ℕ). n * 2 ^ z) (omega (arith, l)) in
        let z : dist (rounded (n * 2 ^ c)) (n * 2 ^ c) ≤ dist (n * 2 ^ (c - k) * 2 ^ k) (n * 2 ^ c) = no_nearer (n * 2 ^ c) (2 ^ k) (n * 2 ^ (c - k)) (pow_pos k) in
        let e : rounded (n * 2 ^ c) ≡ n * 2 ^ c = omega arith in
        subst (Nearing (n * 2 ^ c) (q * 2 ^ d * 2 ^ c) (y * 2 ^ c)) (sym e) (
          record { q = y; j = c; small = small; is = dist_scale n (q * 2 ^ d) (2 ^ c) ∙ ap (λ (z : ℕ). z * 2 ^ c) (omega arith) },
          record { q = 0; j = 0; small = lit< tt; is = omega arith },
          omega arith,
        )

-- the summands in a common unit
near_at : (s y n c q d z : ℕ) → q < 2 ^ 53 → z < 2 ^ 53 → s ≡ q * 2 ^ d * 2 ^ c → y ≡ z * 2 ^ c → y ≤ s → dist s n ≡ y → Nearing n s y (rounded n)
near_at s y n c q d z few small es ey below apart = go (cases_lt n s)
  where
    with-units : (m : ℕ) → n ≡ m * 2 ^ c → Nearing n s y (rounded n)
    with-units m e =
        let le : z ≤ q * 2 ^ d = le_of_mul-le-mul_right (le_trans (le_of_eq (sym ey)) (le_trans below (le_of_eq es))) (pow_pos c) in
        let off : dist (q * 2 ^ d) m ≡ z = eq_of_mul-eq-mul_right (2 ^ c) (pow_pos c) (dist (q * 2 ^ d) m) z (sym (dist_scale (q * 2 ^ d) m (2 ^ c)) ∙ ap₂ dist (sym es) (sym e) ∙ apart ∙ ey) in
        let at : Nearing (m * 2 ^ c) (q * 2 ^ d * 2 ^ c) (z * 2 ^ c) (rounded (m * 2 ^ c)) = near_scaled c q d z m few small le off in
        subst (λ (x : ℕ). Nearing x s y (rounded x)) (sym e)
        (subst (λ (x : ℕ). Nearing (m * 2 ^ c) x y (rounded (m * 2 ^ c))) (sym es)
        (subst (λ (x : ℕ). Nearing (m * 2 ^ c) (q * 2 ^ d * 2 ^ c) x (rounded (m * 2 ^ c))) (sym ey) at))

    go : (n < s) ⊎ (s ≤ n) → Nearing n s y (rounded n)
    go (inr l) = with-units (q * 2 ^ d + z) (let e : n ≡ s + y = omega (arith, l) in e ∙ ap₂ (λ a b. a + b) es ey ∙ sym (add-mul (q * 2 ^ d) z (2 ^ c)))
    go (inl l) = with-units (q * 2 ^ d - z) (let e : n ≡ s - y = omega (arith, l) in e ∙ ap₂ (λ a b. a - b) es ey ∙ sym (minus_scale (q * 2 ^ d) z (2 ^ c)))

shift : (q a c : ℕ) → c ≤ a → q * 2 ^ a ≡ q * 2 ^ (a - c) * 2 ^ c
shift q a c h = ap (λ (z : ℕ). q * 2 ^ z) (omega arith) ∙ ap (λ (z : ℕ). q * z) (pow-add 2 (a - c) c) ∙ sym (mul_assoc q (2 ^ (a - c)) (2 ^ c))

pub near : (s y n : ℕ) → Few s → Few y → y ≤ s → dist s n ≡ y → Nearing n s y (rounded n)
near s y n rs ry below apart = go (cases_lt ry.j rs.j)
  where
    go : (ry.j < rs.j) ⊎ (rs.j ≤ ry.j) → Nearing n s y (rounded n)
    go (inr l) =
        let z = ry.q * 2 ^ (ry.j - rs.j) in
        let ey : y ≡ z * 2 ^ rs.j = ry.is ∙ shift ry.q ry.j rs.j l in
        let es : s ≡ rs.q * 2 ^ 0 * 2 ^ rs.j = rs.is ∙ ap (λ (x : ℕ). x * 2 ^ rs.j) (omega arith) in
        let le : z ≤ rs.q = le_of_mul-le-mul_right (le_trans (le_of_eq (sym ey)) (le_trans below (le_of_eq rs.is))) (pow_pos rs.j) in
        near_at s y n rs.j rs.q 0 z rs.small (lt_of_le_of_lt le rs.small) es ey below apart
    go (inl l) =
        near_at s y n ry.j rs.q (rs.j - ry.j) ry.q rs.small ry.small (rs.is ∙ shift rs.q rs.j ry.j (omega (arith, l))) ry.is below apart
