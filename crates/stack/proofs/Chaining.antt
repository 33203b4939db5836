-- One call after another: what is charged adds up, what is held carries on, and a later refusal is one of the whole.
use Rattle.std.proofs.Common.{◌≡◌, ℕ, ◌+◌, ◌<◌, sym, refl, ◌∙◌, subst, inl, inr, arith}
use Rattle.std.proofs.lemmas.Bool.{cases_lt}
use Rattle.records.specs.declared.fault.Fault.{Fault}
use Rattle.limits.specs.declared.agg_limits.AggregationLimits.{AggregationLimits}
use Rattle.segments.specs.Segments.{Seg}
use Rattle.stack.specs.Levels.{Plan}
use Rattle.stack.specs.Overruns.{Deliveries, More, Overrun}
use Rattle.stack.specs.Calls.{Charged, Paid, for_rows, and_one, at_most, Stopped, Went, Overran}
use Rattle.stack.proofs.Overrunning.{overrun_more}

-- nothing was made
pub charged_none : (a : AggregationLimits) (m n : ℕ) → m ≡ n → Charged a a m n
charged_none a m n e = record { same_limit = refl; grown = omega arith; paid = omega arith; within = λ h. absurd (let z : ⊥ = omega arith in z) }

pub charged_trans : (a b c : AggregationLimits) (k m n : ℕ) → Charged a b k m → Charged b c m n → Charged a c k n
charged_trans a b c k m n p q = record {
  same_limit = q.same_limit ∙ p.same_limit;
  grown = omega (arith, p.grown, q.grown);
  paid = omega (arith, p.paid, q.paid);
  within = λ h. elim (cases_lt m n) [
    | inl l ↦ q.within l
    | inr l ↦ let i : k < m = omega (arith, h, l) in omega (arith, p.within i, q.same_limit, q.paid, q.grown, l)
  ];
}

-- with rows that stay
pub charged_with : (a b : AggregationLimits) (k m n p q : ℕ) → m ≡ k + p → n ≡ k + q → Charged a b p q → Charged a b m n
charged_with a b k m n p q e f c = record {
  same_limit = c.same_limit;
  grown = omega (arith, c.grown, e, f);
  paid = omega (arith, c.paid, e, f);
  within = λ h. let i : p < q = omega (arith, h, e, f) in c.within i;
}

paid_as : (a c b d : AggregationLimits) (k n p q : ℕ) (f : Fault) → d.used ≡ c.used → (c.used + p ≡ b.used + q → d.used + k ≡ a.used + n) → (c.used + p ≡ b.used + q + 1 → d.used + k ≡ a.used + n + 1) → Paid b c p q f → Paid a d k n f
paid_as a c b d k n p q f s e e1 (for_rows r h) = for_rows r (e h)
paid_as a c b d k n p q f s e e1 (and_one r l h) = and_one r (omega arith) (e1 h)
paid_as a c b d k n p q f s e e1 (at_most r l h) = at_most r (s ∙ l) (e h)

-- an accepted call, then a refused one
pub stopped_after : (a b c : AggregationLimits) (k m n : ℕ) (f : Fault) → Charged a b k m → Stopped b c m n f → Stopped a c k n f
stopped_after a b c k m n f p q = record {
  same_limit = q.same_limit ∙ p.same_limit;
  grown = omega (arith, p.grown, q.grown);
  paid = paid_as a c b c k n m n f refl (λ h. omega (arith, h, p.paid)) (λ h. omega (arith, h, p.paid)) q.paid;
}

pub stopped_with : (a b : AggregationLimits) (k m n p q : ℕ) (f : Fault) → m ≡ k + p → n ≡ k + q → Stopped a b p q f → Stopped a b m n f
stopped_with a b k m n p q f e h s = record {
  same_limit = s.same_limit;
  grown = omega (arith, s.grown, e, h);
  paid = paid_as a b a b m n p q f refl (λ x. omega (arith, x, e, h)) (λ x. omega (arith, x, e, h)) s.paid;
}

-- all else charged stays the same
pub others_same : (a b : AggregationLimits) (k m others : ℕ) → Charged a b k m → a.used ≡ others + k → b.used ≡ others + m
others_same a b k m others c e = omega (arith, c.paid, e)

-- below the buckets of the first call, which the second takes too
pub went_then : {A B C : (n buckets : ℕ) → Deliveries → Type 0} {inside in2 : ℕ → Type 0} {gr1 gr2 grows : Deliveries → Deliveries} {p q r : Plan} {a b c : AggregationLimits} {k m n : ℕ}
    → Went A B inside gr1 p q a b k m → Went B C in2 gr2 q r b c m n → ((b : ℕ) → inside b → in2 b) → ((D : Deliveries) → gr2 (gr1 D) ≡ grows D) → Went A C inside grows p r a c k n
went_then {A} {B} {C} {inside} {in2} {gr1} x y i e = record {
  keeps = λ l buckets h D s. subst (C l buckets) (e D) (y.keeps l buckets (i buckets h) (gr1 D) (x.keeps l buckets h D s));
  same_plan = y.same_plan ∙ x.same_plan;
  charged = charged_trans _ _ _ _ _ _ x.charged y.charged;
}

-- with slots that keep their number
pub went_overran : {from slots slots' : ℕ} {g : Seg} {gr1 gr2 grows : Deliveries → Deliveries} {p q : Plan} {a b c : AggregationLimits} {k m n : ℕ} {f : Fault} {A B : (n buckets : ℕ) → Deliveries → Type 0} {inside in2 : ℕ → Type 0}
    → slots' ≡ slots → Went A B inside gr1 p q a b k m → Overran from q slots' g B in2 gr2 b c m n f → ((b : ℕ) → inside b → in2 b) → ((D : Deliveries) → More (gr2 (gr1 D)) (grows D)) → Overran from p slots g A inside grows a c k n f
went_overran {from} {slots} {slots'} {g} {gr1} {gr2} {grows} {p} {q} {a} {b} {c} {k} {m} {n} {f} same x y i more = record {
  stopped = stopped_after a b c k m n f x.charged y.stopped;
  overrun = λ l buckets others D h s u.
      let o = y.overrun l buckets others (gr1 D) (i buckets h) (x.keeps l buckets h D s) (others_same a b k m others x.charged u) in
      let limited = subst (λ (t : ℕ). Overrun from q.levels slots' l g buckets (gr2 (gr1 D)) others t f) x.charged.same_limit o in
      let planned = subst (λ (t : Plan). Overrun from t.levels slots' l g buckets (gr2 (gr1 D)) others a.limit f) x.same_plan limited in
      let sized = subst (λ (t : ℕ). Overrun from p.levels t l g buckets (gr2 (gr1 D)) others a.limit f) same planned in
      overrun_more from p.levels slots l g buckets (gr2 (gr1 D)) (grows D) others a.limit f (more D) sized;
}

-- nothing done
pub went_none : {A : (n buckets : ℕ) → Deliveries → Type 0} {inside : ℕ → Type 0} {grows : Deliveries → Deliveries} {p : Plan} {a : AggregationLimits} {m : ℕ} → ((D : Deliveries) → grows D ≡ D) → Went A A inside grows p p a a m m
went_none {A} {inside} {grows} {p} {a} {m} e = record { keeps = λ n buckets h D s. subst (A n buckets) (sym (e D)) s; same_plan = refl; charged = charged_none a m m refl }
