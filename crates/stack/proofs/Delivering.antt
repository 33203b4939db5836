-- Deliveries: documents added for one bucket, or for all.
use Rattle.std.proofs.Common.{◌≡◌, ℕ, true, false, cond, eqb, List, [], ◌++◌, take, drop, sym, refl, ap, ◌∙◌, subst, append_assoc}
use mathlib.Core.Path.{fun_ext}
use Rattle.std.proofs.lemmas.List.{append-nil, take-append-drop}
use Rattle.std.proofs.lemmas.Bool.{cond-true, cond-false, eq-eqb, ne_eqb}
use Rattle.stack.specs.Overruns.{Deliveries, added, all_added, More}

pub added_same : (D : Deliveries) (b : ℕ) (ds : List ℕ) → added D b ds b ≡ D b ++ ds
added_same D b ds = cond-true (eqb b b) (D b ++ ds) (D b) (eq-eqb b b refl)

pub added_other : (D : Deliveries) (b k : ℕ) (ds : List ℕ) → (k ≡ b → ⊥) → added D b ds k ≡ D k
added_other D b k ds n = cond-false (eqb k b) (D k ++ ds) (D k) (ne_eqb k b n)

-- nothing added
pub added_nil : (D : Deliveries) (b : ℕ) → added D b [] ≡ D
added_nil D b = fun_ext (λ k. elim (eqb k b) as (λ t. cond t (D k ++ []) (D k) ≡ D k) [ true ↦ append-nil (D k) | false ↦ refl ])

-- one after another for the same bucket
pub added_twice : (D : Deliveries) (b : ℕ) (xs ys : List ℕ) → added (added D b xs) b ys ≡ added D b (xs ++ ys)
added_twice D b xs ys = fun_ext (λ k. elim (eqb k b) as (λ t. cond t (cond t (D k ++ xs) (D k) ++ ys) (cond t (D k ++ xs) (D k)) ≡ cond t (D k ++ (xs ++ ys)) (D k)) [ true ↦ append_assoc (D k) xs ys | false ↦ refl ])

-- what waits, with one document more for a bucket
pub all_added_more : (D W : Deliveries) (b : ℕ) (xs : List ℕ) → all_added D (added W b xs) ≡ added (all_added D W) b xs
all_added_more D W b xs = fun_ext (λ k. elim (eqb k b) as (λ t. D k ++ cond t (W k ++ xs) (W k) ≡ cond t ((D k ++ W k) ++ xs) (D k ++ W k)) [ true ↦ sym (append_assoc (D k) (W k) xs) | false ↦ refl ])

pub all_added_none : (D W : Deliveries) → ((k : ℕ) → W k ≡ []) → all_added D W ≡ D
all_added_none D W e = fun_ext (λ k. ap (λ (t : List ℕ). D k ++ t) (e k) ∙ append-nil (D k))

-- ---- more
pub more_refl : (D : Deliveries) → More D D
more_refl D = record { rest = λ k. []; is = λ k. sym (append-nil (D k)) }

pub more_trans : (D E F : Deliveries) → More D E → More E F → More D F
more_trans D E F a b = record { rest = λ k. a.rest k ++ b.rest k; is = λ k. b.is k ∙ ap (λ t. t ++ b.rest k) (a.is k) ∙ append_assoc (D k) (a.rest k) (b.rest k) }

pub more_added : (D : Deliveries) (b : ℕ) (xs : List ℕ) → More D (added D b xs)
more_added D b xs = record {
  rest = λ k. cond (eqb k b) xs [];
  is = λ k. elim (eqb k b) as (λ t. cond t (D k ++ xs) (D k) ≡ D k ++ cond t xs []) [ true ↦ refl | false ↦ sym (append-nil (D k)) ];
}

pub more_all_added : (D W : Deliveries) → More D (all_added D W)
more_all_added D W = record { rest = W; is = λ k. refl }

pub more_added_take : (D : Deliveries) (b i : ℕ) (xs : List ℕ) → More (added D b (take i xs)) (added D b xs)
more_added_take D b i xs =
    subst (λ t. More (added D b (take i xs)) t) (added_twice D b (take i xs) (drop i xs) ∙ ap (added D b) (take-append-drop i xs)) (more_added (added D b (take i xs)) b (drop i xs))
