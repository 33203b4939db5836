-- Where what a filter keeps of a list stands together, at which places it stands.
use Rattle.std.specs.Prelude.{◌≡◌, ℕ, zero, suc, ◌<◌, ◌≤◌, Bool, true, false, List, [], ◌∷◌, length, drop, Some, None, filter, slice_index, refl}
use Rattle.std.proofs.Common.{sym, subst, ◌∙◌, inl, inr, arith}
use Rattle.std.specs.List.{slice_get}
use Rattle.std.proofs.lemmas.Bool.{cases_Bool, both_ways, cond-true, cond-false, cond_both}

-- what is left out at the front does not matter
pub kept_dropped : (p : ℕ → Bool) (xs : List ℕ) (f : ℕ) → f ≤ length xs → ((j : ℕ) → j < f → p (slice_index xs j) ≡ false) → filter p xs ≡ filter p (drop f xs)
kept_dropped p xs zero h out = refl
kept_dropped p [] (suc f) h out = refl
kept_dropped p (x ∷ xs) (suc f) h out =
    cond-false (p x) (x ∷ filter p xs) (filter p xs) (out 0 (omega arith)) ∙ kept_dropped p xs f (omega arith) (λ j l. out (suc j) (omega arith))

-- where one is kept, so are all before it
abbrev pub Front : (ℕ → Bool) → List ℕ → Type 0
Front p xs = (j k : ℕ) → j < k → k < length xs → p (slice_index xs k) ≡ true → p (slice_index xs j) ≡ true

front_rest : (p : ℕ → Bool) (x : ℕ) (xs : List ℕ) → Front p (x ∷ xs) → Front p xs
front_rest p x xs f j k l h = f (suc j) (suc k) (omega arith) (omega arith)

-- once one is left out, all behind it are
out_behind : (p : ℕ → Bool) (xs : List ℕ) → Front p xs → (j k : ℕ) → j < k → k < length xs → p (slice_index xs j) ≡ false → p (slice_index xs k) ≡ false
out_behind p xs f j k l h e = elim (cases_Bool (p (slice_index xs k))) [
  | inl t ↦ absurd (both_ways (p (slice_index xs j)) e (f j k l h t))
  | inr n ↦ n
]

pub nth_kept : (p : ℕ → Bool) (xs : List ℕ) (i : ℕ) → Front p xs → i < length xs → p (slice_index xs i) ≡ true → slice_get (filter p xs) i ≡ Some (slice_index xs i)
nth_kept p [] i f h e = absurd (let z : ⊥ = omega arith in z)
nth_kept p (x ∷ xs) zero f h e = subst (λ (ys : List ℕ). slice_get ys 0 ≡ Some x) (sym (cond-true (p x) (x ∷ filter p xs) (filter p xs) e)) refl
nth_kept p (x ∷ xs) (suc i) f h e =
    subst (λ (ys : List ℕ). slice_get ys (suc i) ≡ Some (slice_index xs i)) (sym (cond-true (p x) (x ∷ filter p xs) (filter p xs) (f 0 (suc i) (omega arith) h e)))
    (nth_kept p xs i (front_rest p x xs f) (omega arith) e)

pub nth_kept_none : (p : ℕ → Bool) (xs : List ℕ) (i : ℕ) → Front p xs → (i < length xs → p (slice_index xs i) ≡ false) → slice_get (filter p xs) i ≡ None
nth_kept_none p [] i f out = refl
nth_kept_none p (x ∷ xs) zero f out =
    subst (λ (ys : List ℕ). slice_get ys 0 ≡ None) (sym (cond-false (p x) (x ∷ filter p xs) (filter p xs) (out (omega arith))))
    (nth_kept_none p xs 0 (front_rest p x xs f) (λ h. out_behind p (x ∷ xs) f 0 1 (omega arith) (omega arith) (out (omega arith))))
nth_kept_none p (x ∷ xs) (suc i) f out =
    cond_both (p x) (x ∷ filter p xs) (filter p xs) (λ ys. slice_get ys (suc i) ≡ None)
    (λ _. nth_kept_none p xs i (front_rest p x xs f) (λ h. out (omega arith)))
    (λ e. nth_kept_none p xs (suc i) (front_rest p x xs f) (λ h. out_behind p (x ∷ xs) f 0 (suc (suc i)) (omega arith) (omega arith) e))
