-- Why a float cut toward zero, and one less where that lies above it, is its floor: the cut is itself a float, or lies
-- past the range, so the comparison is exact.
use Rattle.std.proofs.Common.{◌≡◌, ℕ, zero, suc, ◌+◌, ◌-◌, ◌*◌, ◌^◌, ◌<◌, ◌≤◌, min, Bool, true, false, cond, T, ltb, ℤ, pos, ◌-ℤ◌, neg_ℤ, sym, refl, ap, ◌∙◌, subst, inl, inr, true≢false, mul-le-mul_right, mul_comm, mul-lt-mul_of_pos_right, le-div_iff_mul-le, div-mul-le_self, le_of_mul-le-mul_right, arith, lit<, le-ltb, lt-ltb}
use mathlib.Core.Bool.{false≢true}
use native.Mathlib.Nat.{lt-mul-div-succ}
use lib.Ieee.{Float, nan, inf, fin, binary64, up, down, round, lt, of_int, fits, to_signed}
use lib.Ieee.Fits.{down_pos}
use lib.Ieee.Exact.{HasValue}
use Rattle.std.proofs.lemmas.Bool.{cases_lt, ltb-true, ltb-false}
use Rattle.std.proofs.lemmas.Int.{ints}
use Rattle.std.specs.Int.{saturate_to_bits}
use Rattle.numbers.specs.Whole.{part, over, floor_i64}
use Rattle.numbers.proofs.Wholes.{part_held, shifted, over_least, over_reaches}

-- ---- comparison with a whole number of the same sign that is held exactly
above_neg : (m : ℕ) (e : ℤ) (y : Float) (a : ℕ) → HasValue y true a 1 → lt (fin true m e) y ≡ ltb (a * down e) (m * up e)
unfolding lt
above_neg m e nan a v = absurd v
above_neg m e (inf t) a v = absurd v
above_neg m e (fin false q g) a v = absurd (false≢true v.0)
above_neg m e (fin true q g) a v =
    let w = ap (λ (z : ℕ). z * down e) v.1 in
    elim (cases_lt (a * down e) (m * up e)) [
      | inl l ↦ lt-ltb _ _ (omega (arith, mul-lt-mul_of_pos_right l (down_pos g))) ∙ sym (lt-ltb _ _ l)
      | inr l ↦ le-ltb _ _ (omega (arith, mul-le-mul_right (down g) l)) ∙ sym (le-ltb _ _ l)
    ]

not_above_pos : (m : ℕ) (e : ℤ) (y : Float) (a : ℕ) → HasValue y false a 1 → a * down e ≤ m * up e → lt (fin false m e) y ≡ false
unfolding lt
not_above_pos m e nan a v l = absurd v
not_above_pos m e (inf t) a v l = absurd v
not_above_pos m e (fin true q g) a v l = absurd (true≢false v.0)
not_above_pos m e (fin false q g) a v l = let w = ap (λ (z : ℕ). z * down e) v.1 in le-ltb _ _ (omega (arith, mul-le-mul_right (down g) l))

-- ---- the cut
held : (m : ℕ) (e : ℤ) → T (fits binary64 (fin true m e)) → HasValue (round binary64 true (min (part (m * up e) (down e)) (2 ^ 63)) 1) true (min (part (m * up e) (down e)) (2 ^ 63)) 1
held m e h =
    let H : ℕ → Type 0 = λ a. HasValue (round binary64 true a 1) true a 1 in
    let p = part (m * up e) (down e) in
    elim (cases_lt p (2 ^ 63)) [
      | inl l ↦ let q : p ≡ min p (2 ^ 63) = omega arith in subst H q (part_held binary64 true m e h)
      | inr l ↦ let q : 2 ^ 63 ≡ min p (2 ^ 63) = omega arith in subst H q (shifted binary64 true 1 63 (lit< tt) (lit< tt))
    ]

zero_above : (m : ℕ) (e : ℤ) → lt (fin true m e) (round binary64 false 0 1) ≡ ltb (0 * down e) (m * up e)
unfolding lt round
zero_above m e = ap (λ (z : ℕ). ltb 0 z) (omega arith) ∙ ap (λ (z : ℕ). ltb z (m * up e)) (omega arith)

cut_above : (m : ℕ) (e : ℤ) (a : ℕ) → HasValue (round binary64 true a 1) true a 1 → lt (fin true m e) (of_int binary64 (neg_ℤ (pos a))) ≡ ltb (a * down e) (m * up e)
unfolding of_int
cut_above m e zero h = zero_above m e
cut_above m e (suc a) h = above_neg m e (round binary64 true (suc a) 1) (suc a) h

top_rounds : round binary64 false (2 ^ 63 - 1) 1 ≡ fin false 1 (pos 63)
unfolding round
top_rounds = refl

cut_below : (m : ℕ) (e : ℤ) → T (fits binary64 (fin false m e)) → lt (fin false m e) (of_int binary64 (pos (min (part (m * up e) (down e)) (2 ^ 63 - 1)))) ≡ false
unfolding of_int
cut_below m e h =
    let p = part (m * up e) (down e) in
    let G : ℕ → Type 0 = λ a. lt (fin false m e) (round binary64 false a 1) ≡ false in
    elim (cases_lt p (2 ^ 63)) [
      | inl l ↦
          let q : p ≡ min p (2 ^ 63 - 1) = omega arith in
          subst G q (not_above_pos m e (round binary64 false p 1) p (part_held binary64 false m e h) (div-mul-le_self (m * up e) (down e)))
      | inr l ↦
          let q : 2 ^ 63 - 1 ≡ min p (2 ^ 63 - 1) = omega arith in
          let r : 2 ^ 63 * down e ≤ m * up e = (le-div_iff_mul-le (down_pos e)).0 l in
          subst G q (ap (lt (fin false m e)) top_rounds ∙ not_above_pos m e (fin false 1 (pos 63)) (2 ^ 63) (refl, refl) r)
    ]

-- ---- the floor
lowered : (a : ℕ) → saturate_to_bits 63 (neg_ℤ (pos a) -ℤ pos 1) ≡ neg_ℤ (pos (min (a + 1) (2 ^ 63)))
lowered zero = refl
lowered (suc a) = omega (arith, ints)

-- of a negative number over is part, or one more
near : (n d : ℕ) → 0 < d → (part n d ≤ over n d) × (over n d ≤ part n d + 1)
near n d h =
    let a = le_of_mul-le-mul_right {m = part n d} {n = over n d} {k = d} (omega (arith, div-mul-le_self n d, over_reaches n d h)) h in
    let b = over_least n d (part n d + 1) h (omega (arith, lt-mul-div-succ n h, mul_comm d (part n d + 1))) in
    (a, b)

floor_neg : (n d a : ℕ) (b : Bool) → 0 < d → a ≡ min (part n d) (2 ^ 63) → ltb (a * d) n ≡ b → neg_ℤ (pos (min (over n d) (2 ^ 63))) ≡ cond b (neg_ℤ (pos (min (a + 1) (2 ^ 63)))) (neg_ℤ (pos a))
floor_neg n d a true h p t =
    let l = ltb-true (a * d) n t in
    let k = near n d h in
    elim (cases_lt a (over n d)) [
      | inl g ↦ ap (λ (z : ℕ). neg_ℤ (pos z)) (omega arith)
      | inr g ↦ absurd (omega (arith, over_reaches n d h, mul-le-mul_right d g))
    ]
floor_neg n d a false h p t =
    let l = over_least n d a h (ltb-false (a * d) n t) in
    let k = near n d h in
    ap (λ (z : ℕ). neg_ℤ (pos z)) (omega arith)

nan_lt : (y : Float) → lt nan y ≡ false
unfolding lt
nan_lt y = refl

top_lt : (y : Float) → lt (inf false) y ≡ false
unfolding lt
top_lt nan = refl
top_lt (inf t) = refl
top_lt (fin t n d) = refl

pub floor_by_cut : (x : Float) (b : Bool) → T (fits binary64 x) → lt x (of_int binary64 (to_signed 63 x)) ≡ b → floor_i64 x ≡ cond b (saturate_to_bits 63 (to_signed 63 x -ℤ pos 1)) (to_signed 63 x)
unfolding floor_i64 to_signed
floor_by_cut nan b h t = ap (λ (c : Bool). cond c (saturate_to_bits 63 (pos 0 -ℤ pos 1)) (pos 0)) (sym (nan_lt _) ∙ t)
floor_by_cut (inf true) true h t = refl
floor_by_cut (inf true) false h t = refl
floor_by_cut (inf false) b h t = ap (λ (c : Bool). cond c (saturate_to_bits 63 (pos (2 ^ 63 - 1) -ℤ pos 1)) (pos (2 ^ 63 - 1))) (sym (top_lt _) ∙ t)
floor_by_cut (fin true m e) b h t =
    let a = min (part (m * up e) (down e)) (2 ^ 63) in
    floor_neg (m * up e) (down e) a b (down_pos e) refl (sym (cut_above m e a (held m e h)) ∙ t) ∙ ap (λ (z : ℤ). cond b z (neg_ℤ (pos a))) (sym (lowered a))
floor_by_cut (fin false m e) b h t = ap (λ (c : Bool). cond c (saturate_to_bits 63 (pos (min (part (m * up e) (down e)) (2 ^ 63 - 1)) -ℤ pos 1)) (pos (min (part (m * up e) (down e)) (2 ^ 63 - 1)))) (sym (cut_below m e h) ∙ t)
