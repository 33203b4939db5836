-- Deliveries part by part: what a level holds after some calls, and after one more.
use Rattle.std.specs.Prelude.{◌≡◌, ℕ, ◌+◌, ◌≤◌, true, false, cond, List, [], ◌++◌, length, Result, ◌==◌, nat_lt, refl}
use Rattle.std.proofs.Common.{sym, ap, subst, ◌∙◌, inl, inr, arith}
use Rattle.std.proofs.Math.Path.{fun_ext}
use Rattle.std.proofs.lemmas.List.{append-nil, append_assoc}
use Rattle.std.proofs.lemmas.Bool.{cases_eq, cases_lt, cases_order, cond-true, cond-false, eq-eqb, ne_eqb, lt-ltb, le-ltb}
use Rattle.std.proofs.lemmas.Result.{MatchResult-weaker}
use Rattle.records.specs.declared.fault.Fault.{Fault}
use Rattle.segments.specs.Segments.{Seg}
use Rattle.stack.specs.Levels.{Plan}
use Rattle.stack.specs.Overruns.{Deliveries, none_yet, added, all_added}
use Rattle.stack.specs.Calls.{Inside, State, Holds, Accepted, Refused, Handled, HandledAnd}
use Rattle.stack.proofs.Chaining.{went_none, went_then, went_overran}

-- ---- one call after others

module _ {C T : Type 0} (holds : Holds C T) (plan : C → Plan) (made : C → ℕ) (g : Seg) (was is : State C T) (W done : Deliveries)
    (so_far : Accepted holds plan made g was is (Inside W) (λ D. all_added D done)) where
  -- everything is delivered
  pub went_last : ((k : ℕ) → done k ≡ W k) → Accepted holds plan made g was is (Inside W) (λ D. all_added D W)
  went_last all = subst (λ (E : Deliveries). Accepted holds plan made g was is (Inside W) (λ D. all_added D E)) (fun_ext all) so_far

-- what holds below some buckets holds below fewer
pub handled_within : {C T V : Type 0} (holds : Holds C T) (plan : C → Plan) (made : C → ℕ) (g : Seg) (was ends : State C T) (inside within : ℕ → Type 0) (grows : Deliveries → Deliveries) (result : Result V Fault) → ((buckets : ℕ) → within buckets → inside buckets)
    → Handled result holds plan made g was ends inside grows → Handled result holds plan made g was ends within grows
handled_within holds plan made g was ends inside within grows result fewer call = MatchResult-weaker result call
    (λ x w. record { keeps = λ n buckets i D h. w.keeps n buckets (fewer buckets i) D h; same_plan = w.same_plan; charged = w.charged })
    (λ f o. record { stopped = o.stopped; overrun = λ n buckets others D i h u. o.overrun n buckets others D (fewer buckets i) h u })

-- nothing is delivered yet
pub went_first : {C T : Type 0} (holds : Holds C T) (plan : C → Plan) (made : C → ℕ) (g : Seg) (was : State C T) (W done : Deliveries) → ((k : ℕ) → done k ≡ []) → Accepted holds plan made g was was (Inside W) (λ D. all_added D done)
went_first holds plan made g was W done none = went_none (λ D. fun_ext (λ k. ap (λ (xs : List ℕ). D k ++ xs) (none k) ∙ append-nil (D k)))

-- a call delivers a part: with what was delivered it makes `next`, and then `rest` is left
module _ {C T : Type 0} (holds : Holds C T) (plan : C → Plan) (made : C → ℕ) (g : Seg) (was is : State C T) (W done part next rest : Deliveries)
    (together : (k : ℕ) → done k ++ part k ≡ next k) (left : (k : ℕ) → next k ++ rest k ≡ W k)
    (so_far : Accepted holds plan made g was is (Inside W) (λ D. all_added D done))
    (inside : ℕ → Type 0) (grows : Deliveries → Deliveries) (within : (buckets : ℕ) → Inside W buckets → inside buckets) (delivers : (D : Deliveries) → grows D ≡ all_added D part) (ends : State C T) where
  grown : (D : Deliveries) (k : ℕ) → grows (all_added D done) k ≡ all_added D next k
  grown D k = (λ i. delivers (all_added D done) i k) ∙ append_assoc (D k) (done k) (part k) ∙ ap (λ (xs : List ℕ). D k ++ xs) (together k)

  pub went-part : Accepted holds plan made g is ends inside grows → Accepted holds plan made g was ends (Inside W) (λ D. all_added D next)
  went-part call = went_then so_far call within (λ D. fun_ext (grown D))

  -- a call that is refused refuses the whole
  pub overran-there : length is.1 ≡ length was.1 → (f : Fault) → Refused holds plan made g is ends inside grows f → Refused holds plan made g was ends (Inside W) (λ D. all_added D W) f
  overran-there same f call = went_overran same so_far call within
      (λ D. record {
        rest = rest;
        is = λ k. ap (λ (xs : List ℕ). D k ++ xs) (sym (left k)) ∙ sym (append_assoc (D k) (next k) (rest k)) ∙ ap (λ (xs : List ℕ). xs ++ rest k) (sym (grown D k));
      })

-- a last call that delivers nothing of its own
module _ {C T V : Type 0} {also so : Type 0} (holds : Holds C T) (plan : C → Plan) (made : C → ℕ) (g : Seg) (was is : State C T) (W : Deliveries)
    (so_far : Accepted holds plan made g was is (Inside W) (λ D. all_added D W)) (same : length is.1 ≡ length was.1) (ends : State C T) (result : Result V Fault) where
  pub handled-on : (so → also) → HandledAnd so result holds plan made g is ends (λ n. Unit {0}) (λ D. D) → HandledAnd also result holds plan made g was ends (Inside W) (λ D. all_added D W)
  handled-on and call = MatchResult-weaker result call
      (λ x w. (went-part holds plan made g was is W W none_yet W none_yet (λ k. append-nil (W k)) (λ k. append-nil (W k)) so_far (λ n. Unit {0}) (λ D. D) (λ n i. tt) (λ D. sym (fun_ext (λ k. append-nil (D k)))) ends w.0, and w.1))
      (λ f o. overran-there holds plan made g was is W W none_yet W none_yet (λ k. append-nil (W k)) (λ k. append-nil (W k)) so_far (λ n. Unit {0}) (λ D. D) (λ n i. tt) (λ D. sym (fun_ext (λ k. append-nil (D k)))) ends same f o)

-- ---- bucket by bucket

-- what is for buckets below n
abbrev pub upto : Deliveries → ℕ → Deliveries
upto W n k = cond (nat_lt k n) (W k) []

-- what is for bucket n
abbrev pub only : Deliveries → ℕ → Deliveries
only W n k = cond (k == n) (W k) []

-- what is for buckets from n on
abbrev pub onward : Deliveries → ℕ → Deliveries
onward W n k = cond (nat_lt k n) [] (W k)

pub upto_step : (W : Deliveries) (n k : ℕ) → upto W n k ++ only W n k ≡ upto W (n + 1) k
upto_step W n k = elim (cases_order k n) [
  | inl e ↦
      (λ i. cond-false (nat_lt k n) (W k) [] (le-ltb k n (omega arith)) i ++ cond-true (k == n) (W k) [] (eq-eqb k n e) i)
      ∙ sym (cond-true (nat_lt k (n + 1)) (W k) [] (lt-ltb k (n + 1) (omega arith)))
  | inr o ↦ elim o [
    | inl l ↦
        (λ i. cond-true (nat_lt k n) (W k) [] (lt-ltb k n l) i ++ cond-false (k == n) (W k) [] (ne_eqb k n (λ e. omega arith)) i)
        ∙ append-nil (W k) ∙ sym (cond-true (nat_lt k (n + 1)) (W k) [] (lt-ltb k (n + 1) (omega arith)))
    | inr l ↦
        (λ i. cond-false (nat_lt k n) (W k) [] (le-ltb k n (omega arith)) i ++ cond-false (k == n) (W k) [] (ne_eqb k n (λ e. omega arith)) i)
        ∙ sym (cond-false (nat_lt k (n + 1)) (W k) [] (le-ltb k (n + 1) (omega arith)))
  ]
]

pub upto_onward : (W : Deliveries) (n k : ℕ) → upto W n k ++ onward W n k ≡ W k
upto_onward W n k = elim (nat_lt k n) as (λ t. cond t (W k) [] ++ cond t [] (W k) ≡ W k) [
  | true ↦ append-nil (W k)
  | false ↦ refl
]

pub upto_all : (W : Deliveries) (n : ℕ) → ((k : ℕ) → n ≤ k → W k ≡ []) → (k : ℕ) → upto W n k ≡ W k
upto_all W n none k = elim (cases_lt k n) [
  | inl l ↦ cond-true (nat_lt k n) (W k) [] (lt-ltb k n l)
  | inr l ↦ cond-false (nat_lt k n) (W k) [] (le-ltb k n l) ∙ sym (none k l)
]

-- the documents of one bucket
pub only_one : (W : Deliveries) (b : ℕ) (D : Deliveries) → added D b (W b) ≡ all_added D (only W b)
only_one W b D = fun_ext (λ k. elim (cases_eq k b) [
  | inl e ↦ cond-true (k == b) (D k ++ W b) (D k) (eq-eqb k b e) ∙ ap (λ (j : ℕ). D k ++ W j) (sym e) ∙ sym (ap (λ (xs : List ℕ). D k ++ xs) (cond-true (k == b) (W k) [] (eq-eqb k b e)))
  | inr n ↦ cond-false (k == b) (D k ++ W b) (D k) (ne_eqb k b n) ∙ sym (append-nil (D k)) ∙ sym (ap (λ (xs : List ℕ). D k ++ xs) (cond-false (k == b) (W k) [] (ne_eqb k b n)))
])
