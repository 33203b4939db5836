-- A row that a table cannot have: with it the rows are too many.
use Rattle.std.specs.Prelude.{◌≡◌, ℕ, ◌+◌, ◌<◌, ◌≤◌, cond, ◌⊎◌, List, [], ◌∷◌, ◌++◌, length, ℤ, nat_lt}
use Rattle.std.proofs.Common.{sym, ap, subst, ◌∙◌, append_assoc, inl, inr, arith, length-append}
use Rattle.std.proofs.lemmas.List.{nil_from_length}
use Rattle.std.proofs.lemmas.Bool.{cases_lt, lt-ltb, le-ltb, cond-true, cond-false}
use Rattle.records.specs.declared.fault.Fault.{Fault}
use Rattle.records.specs.declared.fault.Refusal.TheVariants.{TooManyRows, AllowanceExceeded}
use Rattle.limits.specs.declared.agg_limits.AggregationLimits.{AggregationLimits}
use Rattle.segments.specs.Segments.{Seg}
use Rattle.stack.specs.Levels.{Lvl, row_docs, Step}
use Rattle.stack.specs.Overruns.{Deliveries, Crowd, fault, Overrun, too_many, past_limit}
use Rattle.stack.proofs.Delivering.{more_refl}
use Rattle.stack.proofs.Overrunning.{crowd_as}
use Rattle.rows.specs.Tables.{Table, Always, Sound, Grew}
use Rattle.collectors.specs.Filing.{Carries, Sorted, sorted, Filed, Within}
use Rattle.collectors.specs.Naming.{stands_step, always_step, rows-here, rows-alone}
use Rattle.collectors.specs.Placing.{docs-grown, stands-old, inside-old}

module _ (t u : Table) (sound : Sound u) (grew : Grew t u) (n nb : ℕ) (stored : Deliveries → Type 0) (ws : Deliveries) (F : Sorted) (x : Filed t nb (Carries stored ws) F)
    (ls : List Lvl) (g : Seg) (D : Deliveries) (all : Within F (sorted u.level g D))
    (new : (k : ℕ) → t.rows ≤ k → k < u.rows → (u.bucket k < nb) × Always u.level (u.step k))
    (b : ℕ) (s : ℤ) (below : b < nb) (steps : Step u.level g (D b) s)
    (missing : (k : ℕ) → k < u.rows → (u.bucket k ≡ b) × (u.step k ≡ s) → ⊥) where
  R : ℕ
  R = u.rows + 1

  bucket : ℕ → ℕ
  bucket k = cond (nat_lt k u.rows) (u.bucket k) b

  step : ℕ → ℤ
  step k = cond (nat_lt k u.rows) (u.step k) s

  bucket-old : (k : ℕ) → k < u.rows → bucket k ≡ u.bucket k
  unfolding bucket
  bucket-old k h = cond-true (nat_lt k u.rows) (u.bucket k) b (lt-ltb k u.rows h)

  bucket-new : (k : ℕ) → u.rows ≤ k → bucket k ≡ b
  unfolding bucket
  bucket-new k h = cond-false (nat_lt k u.rows) (u.bucket k) b (le-ltb k u.rows h)

  step-old : (k : ℕ) → k < u.rows → step k ≡ u.step k
  unfolding step
  step-old k h = cond-true (nat_lt k u.rows) (u.step k) s (lt-ltb k u.rows h)

  step-new : (k : ℕ) → u.rows ≤ k → step k ≡ s
  unfolding step
  step-new k h = cond-false (nat_lt k u.rows) (u.step k) s (le-ltb k u.rows h)

  inside-all : (k : ℕ) → k < u.rows + 1 → bucket k < nb
  inside-all k h = elim (cases_lt k u.rows) [
    | inr l ↦ omega (arith, bucket-new k l)
    | inl l ↦ elim (cases_lt k t.rows) [
      | inl o ↦ omega (arith, bucket-old k l, inside-old t u sound grew nb (Carries stored ws) F x k o)
      | inr o ↦ omega (arith, bucket-old k l, (new k o l).0)
    ]
  ]

  steps-old : (k : ℕ) → k < u.rows → Step u.level g (D (u.bucket k)) (u.step k)
  steps-old k l = elim (cases_lt k t.rows) [
    | inl o ↦ stands_step u.level g D (u.bucket k) (u.step k) (F (u.bucket k) (u.step k)) (all (u.bucket k) (u.step k)) (stands-old t u sound grew nb (Carries stored ws) F x k o)
    | inr o ↦ always_step u.level g (D (u.bucket k)) (u.step k) (new k o l).1
  ]

  steps_all : (k : ℕ) → k < u.rows + 1 → Step u.level g (D (bucket k)) (step k)
  steps_all k h = elim (cases_lt k u.rows) [
    | inl l ↦ subst (λ (c : ℕ). Step u.level g (D c) (step k)) (sym (bucket-old k l)) (subst (λ (z : ℤ). Step u.level g (D (u.bucket k)) z) (sym (step-old k l)) (steps-old k l))
    | inr l ↦ subst (λ (c : ℕ). Step u.level g (D c) (step k)) (sym (bucket-new k l)) (subst (λ (z : ℤ). Step u.level g (D b) z) (sym (step-new k l)) steps)
  ]

  apart-all : (j k : ℕ) → j < u.rows + 1 → k < u.rows + 1 → bucket j ≡ bucket k → step j ≡ step k → j ≡ k
  apart-all j k hj hk e f = elim (cases_lt j u.rows) [
    | inl lj ↦ elim (cases_lt k u.rows) [
      | inl lk ↦ sound.apart j k lj lk (sym (bucket-old j lj) ∙ e ∙ bucket-old k lk) (sym (step-old j lj) ∙ f ∙ step-old k lk)
      | inr lk ↦ absurd (missing j lj (sym (bucket-old j lj) ∙ e ∙ bucket-new k lk, sym (step-old j lj) ∙ f ∙ step-new k lk))
    ]
    | inr lj ↦ elim (cases_lt k u.rows) [
      | inl lk ↦ absurd (missing k lk (sym (bucket-old k lk) ∙ sym e ∙ bucket-new j lj, sym (step-old k lk) ∙ sym f ∙ step-new j lj))
      | inr lk ↦ omega arith
    ]
  ]

  under_none : (k : ℕ) → t.rows ≤ k → x.of_rows.carries.under k ≡ []
  under_none k h =
      let e = ap (λ (E : Deliveries). E k) x.of_rows.carries.whole ∙ x.of_rows.none_behind k h in
      nil_from_length (x.of_rows.carries.under k) (omega (arith, length-append (x.of_rows.carries.under k) (ws k), ap length e))

  first-all : (k : ℕ) → k < u.rows + 1 → (rest : List ℕ) × (row_docs u.level g (step k) (D (bucket k)) ≡ x.of_rows.carries.under k ++ rest)
  first-all k h = elim (cases_lt k u.rows) [
    | inl l ↦
        let m = all (u.bucket k) (u.step k) in (
          ws k ++ m.0,
          (λ i. row_docs u.level g (step-old k l i) (D (bucket-old k l i)))
              ∙ m.1
              ∙ ap (λ (xs : List ℕ). xs ++ m.0) (sym (docs-grown t u sound grew nb (Carries stored ws) F x k l) ∙ sym (ap (λ (E : Deliveries). E k) x.of_rows.carries.whole))
              ∙ append_assoc (x.of_rows.carries.under k) (ws k) m.0,
        )
    | inr l ↦ (row_docs u.level g (step k) (D (bucket k)), sym (ap (λ (xs : List ℕ). xs ++ row_docs u.level g (step k) (D (bucket k))) (under_none k (omega (arith, grew.more)))))
  ]

  pub lacking : (slots others m : ℕ) (was is : AggregationLimits) (f : Fault) → t.number ≡ n → Crowd ls g t.rows x.of_rows.carries.under (λ k. 1 ≤ k) m → was.used ≡ others + (t.rows + m)
      → ((f ≡ fault TooManyRows t.number) × (u.rows ≡ 512)) ⊎ ((f ≡ fault AllowanceExceeded t.number) × (was.limit + t.rows < was.used + u.rows + 1))
      → Overrun 1 (u.level ∷ ls) slots n g nb D others was.limit f
  lacking slots others m was is f num c used (inl r) =
      let P : ℕ → Type 0 = λ k. k ≡ 1 in
      too_many 0 (r.0 ∙ ap (fault TooManyRows) (num ∙ (let z : n ≡ n + 0 = omega arith in z))) record {
        within = omega arith;
        crowd = crowd_as (u.level ∷ ls) g nb nb D D P P (u.rows + 1) 513 (omega arith) (more_refl D) (λ j p. p) (omega (arith, r.1))
            (rows-alone u.level ls g nb (u.rows + 1) bucket step D inside-all steps_all apart-all);
      }
  lacking slots others m was is f num c used (inr r) =
      let P : ℕ → Type 0 = λ k. 1 ≤ k in
      past_limit 0 (r.0 ∙ ap (fault AllowanceExceeded) (num ∙ (let z : n ≡ n + 0 = omega arith in z))) record {
        rows = (u.rows + 1) + m;
        within = omega arith;
        passes = omega (arith, r.1, used);
        crowd = rows-here u.level ls g nb (u.rows + 1) bucket step D inside-all steps_all apart-all x.of_rows.carries.under first-all (λ k h. under_none k (omega (arith, grew.more))) m
            (crowd_as ls g t.rows (u.rows + 1) x.of_rows.carries.under x.of_rows.carries.under P P m m (omega (arith, grew.more)) (more_refl x.of_rows.carries.under) (λ j p. p) (omega arith) c);
      }
