-- What is carried over a push, a hand-over, and a refused one.
use Rattle.std.specs.Prelude.{◌≡◌, ℕ, [], ◌∷◌}
use Rattle.std.proofs.Common.{sym, ap, subst, ◌∙◌}
use Rattle.std.proofs.lemmas.List.{nil_from_length}
use Rattle.records.specs.declared.fault.Fault.{Fault}
use Rattle.limits.specs.declared.agg_limits.AggregationLimits.{AggregationLimits}
use Rattle.segments.specs.Segments.{Seg}
use Rattle.stack.specs.Levels.{Plan}
use Rattle.stack.specs.Overruns.{Deliveries, added, all_added, More, Overrun}
use Rattle.stack.specs.Calls.{Went, Overran, Inside, Waits, docs_for}
use Rattle.stack.proofs.Chaining.{charged_none}
use Rattle.stack.proofs.Delivering.{all_added_more, all_added_none}
use Rattle.stack.proofs.Overrunning.{overrun_more}
use Rattle.stack.proofs.Pairing.{docs_none}
use Rattle.collectors.specs.Filing.{Carries}

-- where no pair waits, nothing waits for any bucket
pub waits_none : {w : Deliveries} {p : ℕ} → Waits w p → p ≡ 0 → (b : ℕ) → w b ≡ []
waits_none {w} {p} x e b = x.parts b ∙ ap (docs_for b x.buckets) (nil_from_length x.docs (x.count ∙ e)) ∙ docs_none b x.buckets

-- where nothing waits, all that is carried is stored
pub carry_none : {A : Deliveries → Type 0} {ws E : Deliveries} → ((b : ℕ) → ws b ≡ []) → Carries A ws E → A E
carry_none {A} {ws} {E} none x = subst A (sym (all_added_none x.under ws none) ∙ x.whole) x.stores

pub carry_push : (A B : Deliveries → Type 0) (ws us : Deliveries) (row doc : ℕ) → ((D : Deliveries) → A D → B D) → us ≡ added ws row (doc ∷ []) → (E : Deliveries) → Carries A ws E → Carries B us (added E row (doc ∷ []))
carry_push A B ws us row doc f e E x = record {
  under = x.under;
  stores = f x.under x.stores;
  whole = ap (all_added x.under) e ∙ all_added_more x.under ws row (doc ∷ []) ∙ ap (λ (D : Deliveries). added D row (doc ∷ [])) x.whole;
}

pub carry_hand : (A B : Deliveries → Type 0) (ws us : Deliveries) → ((D : Deliveries) → A D → B (all_added D ws)) → ((k : ℕ) → us k ≡ []) → (E : Deliveries) → Carries A ws E → Carries B us E
carry_hand A B ws us f none E x = record {
  under = all_added x.under ws;
  stores = f x.under x.stores;
  whole = all_added_none (all_added x.under ws) us none ∙ x.whole;
}

pub carry_as : (A B : Deliveries → Type 0) (ws us : Deliveries) → us ≡ ws → ((D : Deliveries) → A D → B D) → (E : Deliveries) → Carries A ws E → Carries B us E
carry_as A B ws us e f E x = record { under = x.under; stores = f x.under x.stores; whole = ap (all_added x.under) e ∙ x.whole }

-- a hand-over, as what is carried sees it
pub hand_went : {A B : (n buckets : ℕ) → Deliveries → Type 0} {ws us : Deliveries} {p q : Plan} {a b : AggregationLimits} {k m : ℕ} → ((k : ℕ) → us k ≡ [])
    → Went A B (Inside ws) (λ D. all_added D ws) p q a b k m → Went (λ n c. Carries (A n c) ws) (λ n c. Carries (B n c) us) (Inside ws) (λ E. E) p q a b k m
hand_went {A} {B} {ws} {us} {p} {q} {a} {b} {k} {m} none x = record {
  keeps = λ n c i E s. carry_hand (A n c) (B n c) ws us (x.keeps n c i) none E s;
  same_plan = x.same_plan;
  charged = x.charged;
}

-- a refused one
pub hand_overran : {from slots : ℕ} {g : Seg} {A : (n buckets : ℕ) → Deliveries → Type 0} {ws : Deliveries} {grows : Deliveries → Deliveries} {p : Plan} {a b : AggregationLimits} {k m : ℕ} {f : Fault} → ((E : Deliveries) → More E (grows E))
    → Overran from p slots g A (Inside ws) (λ D. all_added D ws) a b k m f → Overran from p slots g (λ n c. Carries (A n c) ws) (Inside ws) grows a b k m f
hand_overran {from} {slots} {g} {A} {ws} {grows} {p} {a} {b} {k} {m} {f} more x = record {
  stopped = x.stopped;
  overrun = λ n c others E i s u.
      overrun_more from p.levels slots n g c E (grows E) others a.limit f (more E)
      (subst (λ (D : Deliveries). Overrun from p.levels slots n g c D others a.limit f) s.whole (x.overrun n c others s.under i s.stores u));
}

-- a pair that finds no room: nothing changes
pub still_went : {A B : (n buckets : ℕ) → Deliveries → Type 0} {ws us : Deliveries} {inside : ℕ → Type 0} {p q : Plan} {a : AggregationLimits} {k m : ℕ} → us ≡ ws → ((n b : ℕ) (D : Deliveries) → A n b D → B n b D) → q ≡ p → m ≡ k
    → Went (λ n c. Carries (A n c) ws) (λ n c. Carries (B n c) us) inside (λ E. E) p q a a k m
still_went {A} {B} {ws} {us} {inside} {p} {q} {a} {k} {m} e f s t = record {
  keeps = λ n b i E x. carry_as (A n b) (B n b) ws us e (f n b) E x;
  same_plan = s;
  charged = charged_none a k m (sym t);
}

-- a pair that finds room
pub push_went : {A B : (n buckets : ℕ) → Deliveries → Type 0} {ws us : Deliveries} {inside : ℕ → Type 0} (row doc : ℕ) {p q : Plan} {a : AggregationLimits} {k m : ℕ} → us ≡ added ws row (doc ∷ []) → ((n b : ℕ) (D : Deliveries) → A n b D → B n b D) → q ≡ p → m ≡ k
    → Went (λ n c. Carries (A n c) ws) (λ n c. Carries (B n c) us) inside (λ E. added E row (doc ∷ [])) p q a a k m
push_went {A} {B} {ws} {us} {inside} row doc {p} {q} {a} {k} {m} e f s t = record {
  keeps = λ n b i E x. carry_push (A n b) (B n b) ws us row doc (f n b) e E x;
  same_plan = s;
  charged = charged_none a k m (sym t);
}
