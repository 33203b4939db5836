-- Why the conversions give the whole numbers next to a float, and where those stand to all others.
use Rattle.std.proofs.Common.{◌≡◌, ℕ, zero, suc, ◌+◌, ◌-◌, ◌*◌, ◌/◌, ◌%◌, ◌^◌, ◌<◌, ◌≤◌, min, Bool, true, false, ◌&&◌, T, eqb, ltb, leb, ℤ, pos, negsuc, ◌*ℤ◌, neg_ℤ, ◌≤ℤ◌, sym, refl, ap, ◌∙◌, subst, inl, inr, true≢false, zero-lt-suc, mul_assoc, suc-mul, mul_comm, div-lt_iff_lt-mul, mul-lt-mul_of_pos_right, mul-pos, le-div_iff_mul-le, mul-one, mul-add, div-le_self, le-mul_of_pos_right, div-one, mul-div_cancel, arith, ltb→lt, pow_pos, pow-add}
use mathlib.Core.Bool.{false≢true}
use native.Mathlib.Nat.{lt-mul-div-succ}
use lib.Ieee.{Float, nan, inf, fin, Format, binary64, prec, emax, low, up, down, round, fits, is_nan, to_unsigned, to_signed}
use lib.Ieee.Fits.{down_pos, and_l, and_r}
use lib.Ieee.Exact.{HasValue, round_exact}
use lib.Ieee.Back.{round_whole}
use Rattle.std.specs.Float as Floats
use Rattle.std.proofs.lemmas.Int.{ints}
use Rattle.std.proofs.lemmas.Bool.{cases_lt}
use Rattle.numbers.specs.Whole.{part, over, cut, floor_i64, ceil, signed, Floor, Ceiling}

-- ---- the whole numbers next to n / d, among all whole numbers

-- n ≤ j * d exactly if over n d ≤ j: the quotient is rounded up
pub over_reaches : (n d : ℕ) → 0 < d → n ≤ over n d * d
over_reaches n d h = omega (arith, lt-mul-div-succ (n + d - 1) h, mul-add d (over n d) 1, mul_comm d (over n d))

pub over_least : (n d j : ℕ) → 0 < d → n ≤ j * d → over n d ≤ j
over_least n d j h k = omega (arith, (div-lt_iff_lt-mul {k = d} {x = n + d - 1} {y = suc j} h).1 (omega (arith, suc-mul j d)))

over_lifts : (n d j : ℕ) → 0 < d → over n d ≤ j → n ≤ j * d
over_lifts n d j h k = omega (arith, over_reaches n d h, native.Mathlib.Nat.mul-le-mul_right d k)

-- ±n / d rounded down, and rounded up
abbrev pub floored : Bool → ℕ → ℕ → ℤ
floored true n d = neg_ℤ (pos (over n d))
floored false n d = pos (part n d)

abbrev pub raised : Bool → ℕ → ℕ → ℤ
raised true n d = neg_ℤ (pos (part n d))
raised false n d = pos (over n d)

no_product : (j d n : ℕ) → 0 < d → pos (j * d) ≤ℤ neg_ℤ (pos n) → (j ≡ 0) × (n ≡ 0)
no_product j d n h l = let z : (j * d ≡ 0) × (n ≡ 0) = omega (arith, ints) in (omega (arith, le-mul_of_pos_right {m = d} j h), z.1)

pub floor_from : (k : ℤ) (s : Bool) (n d : ℕ) → 0 < d → (k *ℤ pos d) ≤ℤ signed s n → k ≤ℤ floored s n d
floor_from (pos j) false n d h l = let q = (le-div_iff_mul-le {x = j} {y = n} h).1 (omega (arith, ints)) in omega (arith, ints)
floor_from (negsuc j) false n d h l = omega (arith, ints)
floor_from (pos j) true n d h l =
    let z = no_product j d n h l in
    let o = over_least n d 0 h (omega arith) in
    omega (arith, ints)
floor_from (negsuc j) true n d h l = let o = over_least n d (suc j) h (omega (arith, ints)) in omega (arith, ints)

pub floor_to : (k : ℤ) (s : Bool) (n d : ℕ) → 0 < d → k ≤ℤ floored s n d → (k *ℤ pos d) ≤ℤ signed s n
floor_to (pos j) false n d h l = let q = (le-div_iff_mul-le {x = j} {y = n} h).0 (omega (arith, ints)) in omega (arith, ints)
floor_to (negsuc j) false n d h l = omega (arith, ints)
floor_to (pos j) true n d h l =
    let z : (j ≡ 0) × (over n d ≡ 0) = omega (arith, ints) in
    let o = over_lifts n d 0 h (omega arith) in
    let p : j * d ≡ 0 = ap (λ (x : ℕ). x * d) z.0 ∙ native.Mathlib.Nat.zero-mul d in
    omega (arith, ints)
floor_to (negsuc j) true n d h l = let o = over_lifts n d (suc j) h (omega (arith, ints)) in omega (arith, ints)

pub raise_from : (k : ℤ) (s : Bool) (n d : ℕ) → 0 < d → signed s n ≤ℤ (k *ℤ pos d) → raised s n d ≤ℤ k
raise_from (pos j) true n d h l = omega (arith, ints)
raise_from (negsuc j) true n d h l = let q = (le-div_iff_mul-le {x = suc j} {y = n} h).1 (omega (arith, ints)) in omega (arith, ints)
raise_from (pos j) false n d h l = let o = over_least n d j h (omega (arith, ints)) in omega (arith, ints)
raise_from (negsuc j) false n d h l = absurd (omega (arith, ints, mul-pos (zero-lt-suc j) h))

pub raise_to : (k : ℤ) (s : Bool) (n d : ℕ) → 0 < d → raised s n d ≤ℤ k → signed s n ≤ℤ (k *ℤ pos d)
raise_to (pos j) true n d h l = omega (arith, ints)
raise_to (negsuc j) true n d h l = let q = (le-div_iff_mul-le {x = suc j} {y = n} h).0 (omega (arith, ints)) in omega (arith, ints)
raise_to (pos j) false n d h l = let o = over_lifts n d j h (omega (arith, ints)) in omega (arith, ints)
raise_to (negsuc j) false n d h l = absurd (omega (arith, ints))

-- ---- the two definitions and the laws of order

pub floor_order : (x : Float) → Floor (neg_ℤ (pos (2 ^ 63))) (pos (2 ^ 63 - 1)) x (floor_i64 x)
unfolding floor_i64 is_nan
floor_order nan = record { from = omega (arith, ints); to = omega (arith, ints); not_above = λ n. absurd n; greatest = λ k l h. absurd h; of_nan = λ e. refl }
floor_order (inf true) = record { from = omega (arith, ints); to = omega (arith, ints); not_above = λ n. inr refl; greatest = λ k l h. absurd h; of_nan = λ e. cc }
floor_order (inf false) = record { from = omega (arith, ints); to = omega (arith, ints); not_above = λ n. inl tt; greatest = λ k l h. l; of_nan = λ e. cc }
floor_order (fin true m e) = record {
  from = omega (arith, ints);
  to = omega (arith, ints);
  not_above = λ n. elim (cases_lt (2 ^ 63) (over (m * up e) (down e))) [
    | inl l ↦ inr (omega (arith, ints))
    | inr l ↦ inl (floor_to (neg_ℤ (pos (min (over (m * up e) (down e)) (2 ^ 63)))) true (m * up e) (down e) (down_pos e) (omega (arith, ints)))
  ];
  greatest = λ k l h. let g = floor_from k true (m * up e) (down e) (down_pos e) h in omega (arith, ints);
  of_nan = λ e. cc;
}
floor_order (fin false m e) = record {
  from = omega (arith, ints);
  to = omega (arith, ints);
  not_above = λ n. inl (floor_to (pos (min (part (m * up e) (down e)) (2 ^ 63 - 1))) false (m * up e) (down e) (down_pos e) (omega (arith, ints)));
  greatest = λ k l h. let g = floor_from k false (m * up e) (down e) (down_pos e) h in omega (arith, ints);
  of_nan = λ e. cc;
}

pub ceil_order : (low high : ℕ) (x : Float) → Ceiling (neg_ℤ (pos low)) (pos high) x (ceil low high x)
unfolding ceil is_nan
ceil_order low high nan = record { from = omega (arith, ints); to = omega (arith, ints); not_below = λ n. absurd n; least = λ k l h. absurd h; of_nan = λ e. refl }
ceil_order low high (inf true) = record { from = omega (arith, ints); to = omega (arith, ints); not_below = λ n. inl tt; least = λ k l h. l; of_nan = λ e. cc }
ceil_order low high (inf false) = record { from = omega (arith, ints); to = omega (arith, ints); not_below = λ n. inr refl; least = λ k l h. absurd h; of_nan = λ e. cc }
ceil_order low high (fin true m e) = record {
  from = omega (arith, ints);
  to = omega (arith, ints);
  not_below = λ n. inl (raise_to (neg_ℤ (pos (min (part (m * up e) (down e)) low))) true (m * up e) (down e) (down_pos e) (omega (arith, ints)));
  least = λ k l h. let g = raise_from k true (m * up e) (down e) (down_pos e) h in omega (arith, ints);
  of_nan = λ e. cc;
}
ceil_order low high (fin false m e) = record {
  from = omega (arith, ints);
  to = omega (arith, ints);
  not_below = λ n. elim (cases_lt high (over (m * up e) (down e))) [
    | inl l ↦ inr (omega (arith, ints))
    | inr l ↦ inl (raise_to (pos (min (over (m * up e) (down e)) high)) false (m * up e) (down e) (down_pos e) (omega (arith, ints)))
  ];
  least = λ k l h. let g = raise_from k false (m * up e) (down e) (down_pos e) h in omega (arith, ints);
  of_nan = λ e. cc;
}

-- ---- the whole numbers next to a float are floats, so `ceil` rounds nothing

-- what `fits` says of the digits and the size
small : (f : Format) (s : Bool) (m : ℕ) (e : ℤ) → T (fits f (fin s m e)) → (m < 2 ^ prec f) × (m * up e < 2 ^ suc (emax f) * down e)
unfolding fits
small f s zero e h = (pow_pos (prec f), omega (arith, mul-pos (pow_pos (suc (emax f))) (down_pos e)))
small f s (suc m) e h =
    let a = eqb (suc m % 2) 1 in
    let b = ltb (suc m) (2 ^ prec f) in
    let c = leb (down e) (2 ^ low f) in
    let d = ltb (suc m * up e) (2 ^ suc (emax f) * down e) in
    (ltb→lt (suc m) (2 ^ prec f) (and_r a b (and_l (a && b) c (and_l (a && b && c) d h))), ltb→lt (suc m * up e) (2 ^ suc (emax f) * down e) (and_r (a && b && c) d h))

-- m * 2 ^ k is held exactly
pub shifted : (f : Format) (s : Bool) (m k : ℕ) → m < 2 ^ prec f → m * 2 ^ k < 2 ^ suc (emax f) * 1 → HasValue (round f s (m * 2 ^ k) 1) s (m * 2 ^ k) 1
shifted f s m k a b =
    let b' : m * 2 ^ k < 2 ^ suc (emax f) = omega (arith, b) in
    round_exact f s (m * 2 ^ k) 1 m (k + low f) (zero-lt-suc 0) a
    (subst (λ (x : ℕ). m * x < 2 ^ (low f + suc (emax f))) (sym (pow-add 2 k (low f)))
    (subst (λ (x : ℕ). m * (2 ^ k * 2 ^ low f) < x) (sym (pow-add 2 (low f) (suc (emax f))))
    (omega (arith, mul-lt-mul_of_pos_right b' (pow_pos (low f)), mul_assoc m (2 ^ k) (2 ^ low f), mul_comm (2 ^ low f) (2 ^ suc (emax f))))))
    (omega (arith, mul_assoc m (2 ^ k) (2 ^ low f), ap (λ (x : ℕ). m * x) (pow-add 2 k (low f))))

-- below the point both are at most m, and above it x is whole itself
pub part_held : (f : Format) (s : Bool) (m : ℕ) (e : ℤ) → T (fits f (fin s m e)) → HasValue (round f s (part (m * up e) (down e)) 1) s (part (m * up e) (down e)) 1
part_held f s m (pos k) h = let q = small f s m (pos k) h in subst (λ (n : ℕ). HasValue (round f s n 1) s n 1) (sym (div-one (m * 2 ^ k))) (shifted f s m k q.0 q.1)
part_held f s m (negsuc k) h = round_whole f s (part (m * 1) (2 ^ suc k)) (omega (arith, div-le_self (m * 1) (2 ^ suc k), (small f s m (negsuc k) h).0))

pub over_held : (f : Format) (s : Bool) (m : ℕ) (e : ℤ) → T (fits f (fin s m e)) → HasValue (round f s (over (m * up e) (down e)) 1) s (over (m * up e) (down e)) 1
over_held f s m (pos k) h = let q = small f s m (pos k) h in subst (λ (n : ℕ). HasValue (round f s n 1) s n 1) (omega arith) (shifted f s m k q.0 q.1)
over_held f s m (negsuc k) h =
    let l = over_least (m * 1) (2 ^ suc k) m (pow_pos (suc k)) (omega (arith, le-mul_of_pos_right {m = 2 ^ suc k} m (pow_pos (suc k)))) in
    round_whole f s (over (m * 1) (2 ^ suc k)) (omega (arith, (small f s m (negsuc k) h).0))

-- ---- a float that is a whole number, as an integer
cut_is : (m : ℕ) (e : ℤ) (n : ℕ) → m * up e * 1 ≡ n * down e → m * up e / down e ≡ n
cut_is m e n h = ap (λ (x : ℕ). x / down e) (sym (mul-one (m * up e)) ∙ h) ∙ mul-div_cancel n (down_pos e)

as_positive : (low high : ℕ) (y : Float) (n : ℕ) → HasValue y false n 1 → cut low high y ≡ pos (min n high)
as_positive low high nan n v = absurd v
as_positive low high (inf s) n v = absurd v
as_positive low high (fin true m e) n v = absurd (true≢false v.0)
as_positive low high (fin false m e) n v = ap (λ (x : ℕ). pos (min x high)) (cut_is m e n v.1)

as_negative : (low high : ℕ) (y : Float) (n : ℕ) → HasValue y true n 1 → cut low high y ≡ neg_ℤ (pos (min n low))
as_negative low high nan n v = absurd v
as_negative low high (inf s) n v = absurd v
as_negative low high (fin true m e) n v = ap (λ (x : ℕ). neg_ℤ (pos (min x low))) (cut_is m e n v.1)
as_negative low high (fin false m e) n v = absurd (false≢true v.0)

pub ceil_is : (low high : ℕ) (x : Float) → T (fits binary64 x) → cut low high (Floats.ceil binary64 x) ≡ ceil low high x
unfolding ceil Floats.round_with
ceil_is low high nan h = refl
ceil_is low high (inf true) h = refl
ceil_is low high (inf false) h = refl
ceil_is low high (fin true m e) h = as_negative low high _ _ (part_held binary64 true m e h)
ceil_is low high (fin false m e) h = as_positive low high _ _ (over_held binary64 false m e h)

-- ---- the conversions to i64 and u64 are such cuts
pub signed_is : (x : Float) → to_signed 63 x ≡ cut (2 ^ 63) (2 ^ 63 - 1) x
unfolding to_signed
signed_is nan = refl
signed_is (inf true) = refl
signed_is (inf false) = refl
signed_is (fin true m e) = refl
signed_is (fin false m e) = refl

pub unsigned_is : (x : Float) → pos (to_unsigned 64 x) ≡ cut 0 (2 ^ 64 - 1) x
unfolding to_unsigned
unsigned_is nan = refl
unsigned_is (inf true) = refl
unsigned_is (inf false) = refl
unsigned_is (fin true m e) = omega (arith, ints)
unsigned_is (fin false m e) = refl
