-- Document after document, value after value.
use Rattle.std.specs.Prelude.{◌≡◌, ℕ, suc, ◌+◌, Bool, true, false, cond, ◌&&◌, List, [], ◌∷◌, ◌++◌, take, drop, replicate, ℤ, pos, negsuc, Some, None, Option, ◌==◌, ◌≢◌, refl}
use Rattle.std.proofs.Common.{sym, ap, subst, ◌∙◌, append_assoc, inl, inr}
use Rattle.std.proofs.Math.Path.{fun_ext}
use Rattle.std.specs.List.{slice_get}
use Rattle.std.proofs.lemmas.List.{append-nil, take-append-drop}
use Rattle.std.proofs.lemmas.Bool.{cases_eq, cond-true, cond-false, eq-eqb, ne_eqb}
use Rattle.records.specs.declared.fault.Fault.{Fault}
use Rattle.limits.specs.declared.agg_limits.AggregationLimits.{AggregationLimits}
use Rattle.segments.specs.Segments.{Seg}
use Rattle.segments.proofs.Values.{more}
use Rattle.stack.specs.Levels.{Lvl, Plan, step_of, with_step, steps_of_values, steps, same_step, occurrences, row_docs}
use Rattle.stack.specs.Overruns.{Deliveries, added, Overrun}
use Rattle.stack.proofs.Chaining.{charged_none, charged_trans, stopped_after, others_same}
use Rattle.stack.proofs.Readings.{rows_append}
use Rattle.collectors.specs.Filing.{Sorted, sorted, placed, placed_at, placed_all, Within, Sent, Missed}
use Rattle.collectors.specs.Placing.{within_refl, within_trans, within-placed}

-- ---- one call after another
pub sent_none : {X : (n buckets : ℕ) → Sorted → Type 0} {inside : ℕ → Type 0} {grows : Sorted → Sorted} {p : Plan} {a : AggregationLimits} {m : ℕ} → ((F : Sorted) → grows F ≡ F) → Sent X X inside grows p p a a m m
sent_none {X} {inside} {grows} {p} {a} {m} e = record { keeps = λ n b h F x. subst (X n b) (sym (e F)) x; same_plan = refl; charged = charged_none a m m refl }

pub sent_then : {X Y Z : (n buckets : ℕ) → Sorted → Type 0} {inside : ℕ → Type 0} {gr1 gr2 grows : Sorted → Sorted} {p q r : Plan} {a b c : AggregationLimits} {k m n : ℕ} → Sent X Y inside gr1 p q a b k m → Sent Y Z inside gr2 q r b c m n → ((F : Sorted) → gr2 (gr1 F) ≡ grows F) → Sent X Z inside grows p r a c k n
sent_then {X} {Y} {Z} {inside} {gr1} {gr2} {grows} {p} {q} {r} {a} {b} {c} {k} {m} {n} x y e = record {
  keeps = λ l buckets h F s. subst (Z l buckets) (e F) (y.keeps l buckets h (gr1 F) (x.keeps l buckets h F s));
  same_plan = y.same_plan ∙ x.same_plan;
  charged = charged_trans a b c k m n x.charged y.charged;
}

pub sent_missed : {lv lw : Lvl} {slots slots' : ℕ} {g : Seg} {X Y : (n buckets : ℕ) → Sorted → Type 0} {inside : ℕ → Type 0} {gr1 gr2 grows : Sorted → Sorted} {p q : Plan} {a b c : AggregationLimits} {k m n : ℕ} {f : Fault} → slots' ≡ slots → lw ≡ lv → Sent X Y inside gr1 p q a b k m → Missed q lw slots' g Y inside gr2 b c m n f → ((F : Sorted) → Within (gr2 (gr1 F)) (grows F)) → Missed p lv slots g X inside grows a c k n f
sent_missed {lv} {lw} {slots} {slots'} {g} {X} {Y} {inside} {gr1} {gr2} {grows} {p} {q} {a} {b} {c} {k} {m} {n} {f} size same x y more = record {
  stopped = stopped_after a b c k m n f x.charged y.stopped;
  overrun = λ l buckets others F D h s used all.
      let o = y.overrun l buckets others (gr1 F) D h (x.keeps l buckets h F s) (others_same a b k m others x.charged used)
      (subst (λ (z : Lvl). Within (gr2 (gr1 F)) (sorted z g D)) (sym same) (within_trans (gr2 (gr1 F)) (grows F) (sorted lv g D) (more F) all)) in
      subst (λ (z : ℕ). Overrun 1 (lv ∷ p.levels) z l g buckets D others a.limit f) size
      (subst (λ (z : Lvl). Overrun 1 (z ∷ p.levels) slots' l g buckets D others a.limit f) same
      (subst (λ (z : Plan). Overrun 1 (lw ∷ z.levels) slots' l g buckets D others a.limit f) x.same_plan
      (subst (λ (z : ℕ). Overrun 1 (lw ∷ q.levels) slots' l g buckets D others z f) x.charged.same_limit o)));
}

-- ---- the steps of a document's values
pub all_push : (F : Sorted) (b d : ℕ) (ss ts : List ℤ) → placed_all F b d (ss ++ ts) ≡ placed_all (placed_all F b d ss) b d ts
all_push F b d [] ts = refl
all_push F b d (s ∷ ss) ts = all_push (placed F b s d) b d ss ts

at_one : (F : Sorted) (b d : ℕ) (o : Option ℤ) → placed_at F b o d ≡ placed_all F b d (with_step o [])
at_one F b d None = refl
at_one F b d (Some s) = refl

values-append : (step : ℕ → Option ℤ) (vs ws : List ℕ) → steps_of_values step (vs ++ ws) ≡ steps_of_values step vs ++ steps_of_values step ws
values-append step [] ws = refl
values-append step (v ∷ vs) ws = ap (with_step (step v)) (values-append step vs ws) ∙ go (step v)
  where
    go : (o : Option ℤ) → with_step o (steps_of_values step vs ++ steps_of_values step ws) ≡ with_step o (steps_of_values step vs) ++ steps_of_values step ws
    go None = refl
    go (Some s) = refl

-- one value more
pub value_more : (F : Sorted) (b d : ℕ) (step : ℕ → Option ℤ) (vs : List ℕ) (v : ℕ) → placed_at (placed_all F b d (steps_of_values step vs)) b (step v) d ≡ placed_all F b d (steps_of_values step (vs ++ (v ∷ [])))
value_more F b d step vs v =
    at_one (placed_all F b d (steps_of_values step vs)) b d (step v)
    ∙ sym (all_push F b d (steps_of_values step vs) (with_step (step v) []))
    ∙ ap (placed_all F b d) (sym (values-append step vs (v ∷ [])))

-- the value at an index
pub value_next : (F : Sorted) (b d : ℕ) (l m : Lvl) (vs : List ℕ) (i v : ℕ) → m ≡ l → slice_get vs i ≡ Some v → placed_at (placed_all F b d (steps_of_values (step_of l) (take i vs))) b (step_of m v) d ≡ placed_all F b d (steps_of_values (step_of l) (take (i + 1) vs))
value_next F b d l m vs i v e q =
    ap (λ (z : Lvl). placed_at (placed_all F b d (steps_of_values (step_of l) (take i vs))) b (step_of z v) d) e
    ∙ value_more F b d (step_of l) (take i vs) v
    ∙ ap (λ (xs : List ℕ). placed_all F b d (steps_of_values (step_of l) xs)) (sym (more vs i v q))

pub within_all : (F : Sorted) (b d : ℕ) (ss : List ℤ) → Within F (placed_all F b d ss)
within_all F b d [] = within_refl F
within_all F b d (s ∷ ss) = within_trans F (placed F b s d) (placed_all (placed F b s d) b d ss) (within-placed F b s d) (within_all (placed F b s d) b d ss)

-- what was placed so far comes first
pub within-part : (F : Sorted) (b d : ℕ) (step : ℕ → Option ℤ) (vs : List ℕ) (i : ℕ) → Within (placed_all F b d (steps_of_values step (take i vs))) (placed_all F b d (steps_of_values step vs))
within-part F b d step vs i =
    subst (λ (G : Sorted). Within (placed_all F b d (steps_of_values step (take i vs))) G)
    (sym (all_push F b d (steps_of_values step (take i vs)) (steps_of_values step (drop i vs))) ∙ ap (placed_all F b d) (sym (values-append step (take i vs) (drop i vs)) ∙ ap (steps_of_values step) (take-append-drop i vs)))
    (within_all (placed_all F b d (steps_of_values step (take i vs))) b d (steps_of_values step (drop i vs)))

-- ---- a document is sorted by its steps
abbrev behind : ℕ → List ℤ → ℤ → List ℕ
behind d [] t = []
behind d (s ∷ ss) t = cond (same_step t s) (d ∷ behind d ss t) (behind d ss t)

placed_is : (F : Sorted) (b d : ℕ) (ss : List ℤ) (c : ℕ) (t : ℤ) → placed_all F b d ss c t ≡ cond (c == b) (F c t ++ behind d ss t) (F c t)
placed_is F b d ss c t = elim (cases_eq c b) [
  | inl e ↦ here ss F e ∙ sym (cond-true (c == b) (F c t ++ behind d ss t) (F c t) (eq-eqb c b e))
  | inr n ↦ there ss F n ∙ sym (cond-false (c == b) (F c t ++ behind d ss t) (F c t) (ne_eqb c b n))
]
  where
    step-here : (G : Sorted) (s : ℤ) (us : List ℤ) → c ≡ b → placed G b s d c t ++ behind d us t ≡ G c t ++ cond (same_step t s) (d ∷ behind d us t) (behind d us t)
    step-here G s us e = ap (λ (x : Bool). cond (x && same_step t s) (G c t ++ (d ∷ [])) (G c t) ++ behind d us t) (eq-eqb c b e) ∙ go (same_step t s)
      where
        go : (x : Bool) → cond (true && x) (G c t ++ (d ∷ [])) (G c t) ++ behind d us t ≡ G c t ++ cond x (d ∷ behind d us t) (behind d us t)
        go true = append_assoc (G c t) (d ∷ []) (behind d us t)
        go false = refl

    here : (us : List ℤ) (G : Sorted) → c ≡ b → placed_all G b d us c t ≡ G c t ++ behind d us t
    here [] G e = sym (append-nil (G c t))
    here (s ∷ us) G e = here us (placed G b s d) e ∙ step-here G s us e

    there : (us : List ℤ) (G : Sorted) → (c ≢ b) → placed_all G b d us c t ≡ G c t
    there [] G n = refl
    there (s ∷ us) G n = there us (placed G b s d) n ∙ ap (λ (x : Bool). cond (x && same_step t s) (G c t ++ (d ∷ [])) (G c t)) (ne_eqb c b n)

eqb_turned : (a b : ℕ) → (a == b) ≡ (b == a)
eqb_turned a b = elim (cases_eq a b) [ inl e ↦ eq-eqb a b e ∙ sym (eq-eqb b a (sym e)) | inr n ↦ ne_eqb a b n ∙ sym (ne_eqb b a (λ e. n (sym e))) ]

same_step_turned : (s t : ℤ) → same_step t s ≡ same_step s t
same_step_turned (pos a) (pos b) = eqb_turned b a
same_step_turned (pos a) (negsuc b) = refl
same_step_turned (negsuc a) (pos b) = refl
same_step_turned (negsuc a) (negsuc b) = eqb_turned b a

behind_is : (d : ℕ) (ss : List ℤ) (t : ℤ) → behind d ss t ≡ replicate (occurrences t ss) d
behind_is d [] t = refl
behind_is d (s ∷ ss) t = ap (λ (x : Bool). cond x (d ∷ behind d ss t) (behind d ss t)) (same_step_turned s t) ∙ go (same_step s t) (behind_is d ss t)
  where
    go : (x : Bool) → behind d ss t ≡ replicate (occurrences t ss) d → cond x (d ∷ behind d ss t) (behind d ss t) ≡ replicate (cond x (suc (occurrences t ss)) (occurrences t ss)) d
    go true ih = ap (λ (xs : List ℕ). d ∷ xs) ih
    go false ih = ih

-- a document more, sorted
pub sorted_more : (l : Lvl) (g : Seg) (D : Deliveries) (b d : ℕ) → placed_all (sorted l g D) b d (steps l g d) ≡ sorted l g (added D b (d ∷ []))
sorted_more l g D b d = fun_ext (λ c. fun_ext (λ t. placed_is (sorted l g D) b d (steps l g d) c t ∙ go c t (c == b)))
  where
    go : (c : ℕ) (t : ℤ) (x : Bool) → cond x (row_docs l g t (D c) ++ behind d (steps l g d) t) (row_docs l g t (D c)) ≡ row_docs l g t (cond x (D c ++ (d ∷ [])) (D c))
    go c t true = ap (λ (xs : List ℕ). row_docs l g t (D c) ++ xs) (behind_is d (steps l g d) t ∙ sym (append-nil (replicate (occurrences t (steps l g d)) d))) ∙ sym (rows_append l g t (D c) (d ∷ []))
    go c t false = refl
