-- One document more in a row.
use Rattle.std.specs.Prelude.{◌≡◌, ℕ, ◌+◌, ◌<◌, [], ◌∷◌, ◌++◌, length, ◌≢◌}
use Rattle.std.proofs.Common.{sym, ap, subst, ◌∙◌, inl, inr, arith, length-append}
use Rattle.std.proofs.lemmas.List.{nil_from_length}
use Rattle.std.proofs.lemmas.Bool.{cases_eq}
use Rattle.records.specs.declared.fault.Fault.{Fault}
use Rattle.limits.specs.declared.agg_limits.AggregationLimits.{AggregationLimits}
use Rattle.segments.specs.Segments.{Seg}
use Rattle.stack.specs.Levels.{Plan}
use Rattle.stack.specs.Overruns.{Deliveries, added}
use Rattle.stack.specs.Calls.{Went, Overran, Inside}
use Rattle.stack.proofs.Delivering.{added_same, added_other}
use Rattle.collectors.specs.Filing.{Carries, Rows}

-- behind the rows nothing waits
pub rows_inside : (count : ℕ → ℕ) (b : ℕ) (A : Deliveries → Type 0) (ws E : Deliveries) → Rows count b (Carries A ws) E → Inside ws b
rows_inside count b A ws E x k h =
    let e : x.carries.under k ++ ws k ≡ [] = ap (λ (D : Deliveries). D k) x.carries.whole ∙ x.none_behind k h in
    nil_from_length (ws k) (omega (arith, length-append (x.carries.under k) (ws k), ap length e))

pub put_went : {count count' : ℕ → ℕ} {R row : ℕ} (doc : ℕ) {A B : ℕ → ℕ → Deliveries → Type 0} {ws us : Deliveries} {p q : Plan} {a b : AggregationLimits} {k m : ℕ} → row < R → count' row ≡ count row + 1 → ((j : ℕ) → j < R → (j ≢ row) → count' j ≡ count j)
    → Went (λ n c. Carries (A n c) ws) (λ n c. Carries (B n c) us) (Inside ws) (λ E. added E row (doc ∷ [])) p q a b k m
    → Went (λ n c. Rows count c (Carries (A n c) ws)) (λ n c. Rows count' c (Carries (B n c) us)) (λ c. c ≡ R) (λ E. added E row (doc ∷ [])) p q a b k m
put_went {count} {count'} {R} {row} doc {A} {B} {ws} {us} {p} {q} {a} {b} {k} {m} h here elsewhere w = record {
  keeps = λ n c e E x. record {
    carries = w.keeps n c (rows_inside count c (A n c) ws E x) E x.carries;
    counted = λ j l. elim (cases_eq j row) [
      | inl s ↦
          subst (λ (i : ℕ). count' i ≡ length (added E row (doc ∷ []) i)) (sym s)
          (here ∙ ap (λ (z : ℕ). z + 1) (x.counted row (omega arith)) ∙ sym (length-append (E row) (doc ∷ [])) ∙ ap length (sym (added_same E row (doc ∷ []))))
      | inr d ↦ elsewhere j (omega arith) d ∙ x.counted j l ∙ ap length (sym (added_other E row j (doc ∷ []) d))
    ];
    none_behind = λ j l. added_other E row j (doc ∷ []) (λ s. omega arith) ∙ x.none_behind j l;
  };
  same_plan = w.same_plan;
  charged = w.charged;
}

pub put_overran : {from : ℕ} {count : ℕ → ℕ} {R slots : ℕ} {g : Seg} {A : ℕ → ℕ → Deliveries → Type 0} {ws : Deliveries} {grows : Deliveries → Deliveries} {p : Plan} {a b : AggregationLimits} {k m : ℕ} {f : Fault} → Overran from p slots g (λ n c. Carries (A n c) ws) (Inside ws) grows a b k m f
    → Overran from p slots g (λ n c. Rows count c (Carries (A n c) ws)) (λ c. c ≡ R) grows a b k m f
put_overran {from} {count} {R} {slots} {g} {A} {ws} {grows} {p} {a} {b} {k} {m} {f} o = record {
  stopped = o.stopped;
  overrun = λ n c others E e x u. o.overrun n c others E (rows_inside count c (A n c) ws E x) x.carries u;
}
