-- What a level holds, call by call: from the documents sorted to the deliveries.
use Rattle.std.specs.Prelude.{◌≡◌, ℕ, suc, ◌+◌, ◌<◌, ◌≤◌, ◌&&◌, ◌⊎◌, List, [], ◌∷◌, ◌++◌, length, ℤ, pos, negsuc, Some, None, Option, ◌==◌, refl}
use Rattle.std.proofs.Common.{sym, ap, ap₂, subst, ◌∙◌, inl, inr, arith, length-append}
use Rattle.std.proofs.Math.Path.{fun_ext}
use Rattle.std.proofs.lemmas.List.{append-nil, nil_from_length}
use Rattle.std.proofs.lemmas.Bool.{cases_Bool, and_from, and_parts, eq-eqb, eqb-true}
use Rattle.std.specs.Option.{option_or}
use Rattle.buckets.specs.Picks.{last_below}
use Rattle.buckets.proofs.Picking.{last_is}
use Rattle.records.specs.declared.fault.Fault.{Fault}
use Rattle.limits.specs.declared.agg_limits.AggregationLimits.{AggregationLimits}
use Rattle.segments.specs.Segments.{Seg}
use Rattle.stack.specs.Levels.{Lvl, range_level, histogram_level, Plan, same_step, row_docs, Step, steps}
use Rattle.stack.specs.Overruns.{Deliveries, none_yet, added, all_added, Crowd, Overrun, Complete, Numbers}
use Rattle.stack.specs.Calls.{Went, Overran, Inside}
use Rattle.stack.proofs.Chaining.{charged_with, stopped_with}
use Rattle.stack.proofs.Bounds.{complete-up}
use Rattle.stack.proofs.Delivering.{more_all_added}
use Rattle.stack.proofs.Readings.{step_same, step_true}
use Rattle.stack.proofs.Overrunning.{overrun_more}
use Rattle.rows.specs.Tables.{Table, Always, Has, Sound, Prepared, Unprepared}
use Rattle.collectors.specs.Filing.{Carries, Rows, Sorted, sorted, Filed, Within, At, Sent, Missed, placed_all, on_top, Standing}
use Rattle.collectors.specs.Carrying.{carry_none}
use Rattle.collectors.specs.Naming.{stands_step, lifted, rows-here}
use Rattle.collectors.specs.Placing.{within_refl, filed-grown}
use Rattle.collectors.specs.Putting.{rows_inside}
use Rattle.collectors.specs.Sending.{prepare_overrun}
use Rattle.collectors.specs.Spreading.{sorted_more}

-- ---- a document
pub sent_went : (t u : Table) (g : Seg) {X Y : (n buckets : ℕ) → Sorted → Type 0} {b : ℕ} (d : ℕ) {p q : Plan} {a c : AggregationLimits} {k m : ℕ} → u.level ≡ t.level
    → Sent X Y (λ n. b < n) (λ F. placed_all F b d (steps t.level g d)) p q a c k m
    → Went (λ n nb D. X n nb (sorted t.level g D)) (λ n nb D. Y n nb (sorted u.level g D)) (λ n. b < n) (λ D. added D b (d ∷ [])) (on_top t.level p) (on_top u.level q) a c k m
sent_went t u g {X} {Y} {b} d {p} {q} {a} {c} {k} {m} e s = record {
  keeps = λ n nb h D x. subst (λ (l : Lvl). Y n nb (sorted l g (added D b (d ∷ [])))) (sym e) (subst (Y n nb) (sorted_more t.level g D b d) (s.keeps n nb h (sorted t.level g D) x));
  same_plan = ap₂ on_top e s.same_plan;
  charged = s.charged;
}

pub missed_overran : {l : Lvl} {slots : ℕ} {g : Seg} {X : (n buckets : ℕ) → Sorted → Type 0} {b : ℕ} (d : ℕ) {p : Plan} {a c : AggregationLimits} {k m : ℕ} {f : Fault} → Missed p l slots g X (λ n. b < n) (λ F. placed_all F b d (steps l g d)) a c k m f
    → Overran 1 (on_top l p) slots g (λ n nb D. X n nb (sorted l g D)) (λ n. b < n) (λ D. added D b (d ∷ [])) a c k m f
missed_overran {l} {slots} {g} {X} {b} d {p} {a} {c} {k} {m} {f} o = record {
  stopped = o.stopped;
  overrun = λ n nb others D h x used. o.overrun n nb others (sorted l g D) (added D b (d ∷ [])) h x used
      (subst (λ (G : Sorted). Within G (sorted l g (added D b (d ∷ [])))) (sym (sorted_more l g D b d)) (within_refl (sorted l g (added D b (d ∷ [])))));
}

-- ---- what is carried changes hands
pub at_carried : (t : Table) (A B : ℕ → ℕ → Deliveries → Type 0) (ws us : Deliveries) (n nb : ℕ) (F : Sorted) → ((E : Deliveries) → Rows t.count t.rows (Carries (A (suc n) t.rows) ws) E → Carries (B (suc n) t.rows) us E) → At t A ws n nb F → At t B us n nb F
at_carried t A B ws us n nb F f x = record {
  number = x.number;
  filed = record {
    docs_of = x.filed.docs_of;
    of_rows = record { carries = f x.filed.docs_of x.filed.of_rows; counted = x.filed.of_rows.counted; none_behind = x.filed.of_rows.none_behind };
    docs = x.filed.docs;
    inside = x.filed.inside;
    found = x.filed.found;
    stands = x.filed.stands;
  };
}

pub carried_by : {t : Table} (g : Seg) {A B : ℕ → ℕ → Deliveries → Type 0} {ws us : Deliveries} {ins inside : ℕ → Type 0} {p q : Plan} {a c : AggregationLimits} {k m : ℕ} → ((n : ℕ) (E : Deliveries) → Rows t.count t.rows (Carries (A n t.rows) ws) E → ins t.rows)
    → Went (λ n b. Carries (A n b) ws) (λ n b. Carries (B n b) us) ins (λ E. E) p q a c k m
    → Went (λ n nb D. At t A ws n nb (sorted t.level g D)) (λ n nb D. At t B us n nb (sorted t.level g D)) inside (λ D. D) (on_top t.level p) (on_top t.level q) a c (t.rows + k) (t.rows + m)
carried_by {t} g {A} {B} {ws} {us} {ins} {inside} {p} {q} {a} {c} {k} {m} here w = record {
  keeps = λ n nb h D x. at_carried t A B ws us n nb (sorted t.level g D) (λ E r. w.keeps (suc n) t.rows (here (suc n) E r) E r.carries) x;
  same_plan = ap (on_top t.level) w.same_plan;
  charged = charged_with a c t.rows (t.rows + k) (t.rows + m) k m refl refl w.charged;
}

pub carried_went : {t : Table} (g : Seg) {A B : ℕ → ℕ → Deliveries → Type 0} {ws us : Deliveries} {inside : ℕ → Type 0} {p q : Plan} {a c : AggregationLimits} {k m : ℕ} → Went (λ n b. Carries (A n b) ws) (λ n b. Carries (B n b) us) (Inside ws) (λ E. E) p q a c k m
    → Went (λ n nb D. At t A ws n nb (sorted t.level g D)) (λ n nb D. At t B us n nb (sorted t.level g D)) inside (λ D. D) (on_top t.level p) (on_top t.level q) a c (t.rows + k) (t.rows + m)
carried_went {t} g {A} {B} {ws} {us} {inside} {p} {q} {a} {c} {k} {m} w = carried_by g (λ n E r. rows_inside t.count t.rows (A n t.rows) ws E r) w

-- the level's rows as rows of the deliveries
module _ (t : Table) (sound : Sound t) (g : Seg) (n nb : ℕ) (carried : Deliveries → Type 0) (D : Deliveries) (x : Filed t nb carried (sorted t.level g D)) where
  pub steps-held : (k : ℕ) → k < t.rows → Step t.level g (D (t.bucket k)) (t.step k)
  steps-held k h = stands_step t.level g D (t.bucket k) (t.step k) (row_docs t.level g (t.step k) (D (t.bucket k))) ([], sym (append-nil (row_docs t.level g (t.step k) (D (t.bucket k))))) (x.stands k h)

  pub first-held : (k : ℕ) → k < t.rows → (rest : List ℕ) × (row_docs t.level g (t.step k) (D (t.bucket k)) ≡ x.docs_of k ++ rest)
  first-held k h = ([], sym (x.docs k h) ∙ sym (append-nil (x.docs_of k)))

pub overran_by : {t : Table} (sound : Sound t) {slots : ℕ} {g : Seg} {A : ℕ → ℕ → Deliveries → Type 0} {ws : Deliveries} {ins inside : ℕ → Type 0} {p : Plan} {a c : AggregationLimits} {k m : ℕ} {f : Fault} → ((n : ℕ) (E : Deliveries) → Rows t.count t.rows (Carries (A n t.rows) ws) E → ins t.rows)
    → Overran 1 p slots g (λ n b. Carries (A n b) ws) ins (λ E. E) a c k m f
    → Overran 1 (on_top t.level p) slots g (λ n nb D. At t A ws n nb (sorted t.level g D)) inside (λ D. D) a c (t.rows + k) (t.rows + m) f
overran_by {t} sound {slots} {g} {A} {ws} {ins} {inside} {p} {a} {c} {k} {m} {f} here o = record {
  stopped = stopped_with a c t.rows (t.rows + k) (t.rows + m) k m f refl refl o.stopped;
  overrun = λ n nb others D h x used.
      let y = x.filed in
      lifted t.level p.levels g nb t.rows t.bucket t.step D y.inside (steps-held t sound g n nb (Carries (A (suc n) t.rows) ws) D y) sound.apart y.docs_of (first-held t sound g n nb (Carries (A (suc n) t.rows) ws) D y) y.of_rows.none_behind
      slots n others a.limit f
      (o.overrun (suc n) t.rows (others + t.rows) y.docs_of (here (suc n) y.docs_of y.of_rows) y.of_rows.carries (omega (arith, used)));
}

pub carried_overran : {t : Table} (sound : Sound t) {slots : ℕ} {g : Seg} {A : ℕ → ℕ → Deliveries → Type 0} {ws : Deliveries} {inside : ℕ → Type 0} {p : Plan} {a c : AggregationLimits} {k m : ℕ} {f : Fault} → Overran 1 p slots g (λ n b. Carries (A n b) ws) (Inside ws) (λ E. E) a c k m f
    → Overran 1 (on_top t.level p) slots g (λ n nb D. At t A ws n nb (sorted t.level g D)) inside (λ D. D) a c (t.rows + k) (t.rows + m) f
carried_overran {t} sound {slots} {g} {A} {ws} {inside} {p} {a} {c} {k} {m} {f} o = overran_by sound (λ n E r. rows_inside t.count t.rows (A n t.rows) ws E r) o

-- ---- rows that always stand
pub prepared_went : {t u : Table} (sound : Sound u) (g : Seg) {A : ℕ → ℕ → Deliveries → Type 0} {ws : Deliveries} {buckets : ℕ} {p : Plan} {a c : AggregationLimits} (m : ℕ) → ((n R S : ℕ) (D : Deliveries) → R ≤ S → A n R D → A n S D) → Prepared t u a c buckets
    → Went (λ n nb D. At t A ws n nb (sorted t.level g D)) (λ n nb D. At u A ws n nb (sorted u.level g D)) (λ nb. buckets ≤ nb) (λ D. D) (on_top t.level p) (on_top u.level p) a c (t.rows + m) (u.rows + m)
prepared_went {t} {u} sound g {A} {ws} {buckets} {p} {a} {c} m wider pr = record {
  keeps = λ n nb h D x. record {
    number = pr.grew.same_number ∙ x.number;
    filed = subst (λ (l : Lvl). Filed u nb (Carries (A (suc n) u.rows) ws) (sorted l g D)) (sym pr.grew.same_level)
        (filed-grown t u sound pr.grew nb (Carries (A (suc n) t.rows) ws) (sorted t.level g D) x.filed (Carries (A (suc n) u.rows) ws)
        (λ E y. record { under = y.under; stores = wider (suc n) t.rows u.rows y.under pr.grew.more y.stores; whole = y.whole })
        (λ k lo hi. let w = pr.new k lo hi in (omega (arith, w.0), w.1)));
  };
  same_plan = ap (λ (l : Lvl). on_top l p) pr.grew.same_level;
  charged = charged_with a c m (t.rows + m) (u.rows + m) t.rows u.rows (omega arith) (omega arith) pr.charged;
}

pub unprepared_overran : {t u : Table} (sound : Sound u) {slots : ℕ} {g : Seg} {A : ℕ → ℕ → Deliveries → Type 0} {ws : Deliveries} {buckets : ℕ} {p : Plan} {a c : AggregationLimits} {m : ℕ} {f : Fault} → ((n R : ℕ) (D : Deliveries) → A n R D → Crowd p.levels g R D (λ k. 1 ≤ k) m) → Unprepared t u a c buckets f
    → Overran 1 (on_top t.level p) slots g (λ n nb D. At t A ws n nb (sorted t.level g D)) (λ nb. buckets ≤ nb) (λ D. D) a c (t.rows + m) (u.rows + m) f
unprepared_overran {t} {u} sound {slots} {g} {A} {ws} {buckets} {p} {a} {c} {m} {f} made-below un = record {
  stopped = stopped_with a c m (t.rows + m) (u.rows + m) t.rows u.rows f (omega arith) (omega arith) un.lacks.stopped;
  overrun = λ n nb others D h x used. prepare_overrun t u sound a c buckets f A ws p slots g m made-below un n nb others (sorted t.level g D) D h x used
      (subst (λ (l : Lvl). Within (sorted t.level g D) (sorted l g D)) (sym un.lacks.grew.same_level) (within_refl (sorted t.level g D)));
}

-- rows made below, with nothing delivered: what is carried stays
pub below_went : {A B : ℕ → ℕ → Deliveries → Type 0} {ws us : Deliveries} {R : ℕ} {p q : Plan} {a c : AggregationLimits} {k m : ℕ} → us ≡ ws
    → Went A B (λ b. R ≤ b) (λ D. D) p q a c k m → Went (λ n b. Carries (A n b) ws) (λ n b. Carries (B n b) us) (λ b. R ≤ b) (λ E. E) p q a c k m
below_went {A} {B} {ws} {us} {R} {p} {q} {a} {c} {k} {m} e w = record {
  keeps = λ n b h E x. record { under = x.under; stores = w.keeps n b h x.under x.stores; whole = ap (all_added x.under) e ∙ x.whole };
  same_plan = w.same_plan;
  charged = w.charged;
}

pub below_overran : {slots : ℕ} {g : Seg} {A : ℕ → ℕ → Deliveries → Type 0} {ws : Deliveries} {R : ℕ} {p : Plan} {a c : AggregationLimits} {k m : ℕ} {f : Fault} → Overran 1 p slots g A (λ b. R ≤ b) (λ D. D) a c k m f → Overran 1 p slots g (λ n b. Carries (A n b) ws) (λ b. R ≤ b) (λ E. E) a c k m f
below_overran {slots} {g} {A} {ws} {R} {p} {a} {c} {k} {m} {f} o = record {
  stopped = o.stopped;
  overrun = λ n b others E h x used.
      subst (λ (D : Deliveries). Overrun 1 p.levels slots n g b D others a.limit f) x.whole
      (overrun_more 1 p.levels slots n g b x.under (all_added x.under ws) others a.limit f (more_all_added x.under ws) (o.overrun n b others x.under h x.stores used));
}

-- ---- nothing yet
pub none_of : {X : Type 0} (a b : Option X) → option_or a b ≡ None → (a ≡ None) × (b ≡ None)
none_of None b e = (refl, e)
none_of (Some x) b e = let z : ◌≡◌ {A = ℕ} 0 1 = cc in absurd (let y : ⊥ = omega arith in y)

pub held_none : (t : Table) (sound : Sound t) (g : Seg) (n nb : ℕ) (A : ℕ → ℕ → Deliveries → Type 0) (ws : Deliveries) → t.rows ≡ 0 → t.number ≡ n → ((b : ℕ) → ws b ≡ []) → A (suc n) t.rows none_yet → At t A ws n nb (sorted t.level g none_yet)
held_none t sound g n nb A ws none num empty stored = record {
  number = num;
  filed = record {
    docs_of = none_yet;
    of_rows = record {
      carries = record { under = none_yet; stores = stored; whole = fun_ext empty };
      counted = λ k h. absurd (let z : ⊥ = omega arith in z);
      none_behind = λ k h. refl;
    };
    docs = λ k h. absurd (let z : ⊥ = omega arith in z);
    inside = λ k h. absurd (let z : ⊥ = omega arith in z);
    found = λ b s h. absurd (let z : ⊥ = omega arith in z);
    stands = λ k h. absurd (let z : ⊥ = omega arith in z);
  };
}

-- ---- the laws
under_first : (t : Table) (g : Seg) (nb : ℕ) (A : Deliveries → Type 0) (ws D : Deliveries) (x : Filed t nb (Carries A ws) (sorted t.level g D)) → (k : ℕ) → k < t.rows → (rest : List ℕ) × (row_docs t.level g (t.step k) (D (t.bucket k)) ≡ x.of_rows.carries.under k ++ rest)
under_first t g nb A ws D x k h = (ws k, sym (x.docs k h) ∙ sym (ap (λ (E : Deliveries). E k) x.of_rows.carries.whole))

under_none : (t : Table) (g : Seg) (nb : ℕ) (A : Deliveries → Type 0) (ws D : Deliveries) (x : Filed t nb (Carries A ws) (sorted t.level g D)) → (k : ℕ) → t.rows ≤ k → x.of_rows.carries.under k ≡ []
under_none t g nb A ws D x k h =
    let e = ap (λ (E : Deliveries). E k) x.of_rows.carries.whole ∙ x.of_rows.none_behind k h in
    nil_from_length (x.of_rows.carries.under k) (omega (arith, length-append (x.of_rows.carries.under k) (ws k), ap length e))

pub held_rows : (t : Table) (sound : Sound t) (ls : List Lvl) (g : Seg) (n nb : ℕ) (A : ℕ → ℕ → Deliveries → Type 0) (ws D : Deliveries) (m : ℕ) → ((n R : ℕ) (E : Deliveries) → A n R E → Crowd ls g R E (λ k. 1 ≤ k) m) → At t A ws n nb (sorted t.level g D) → Crowd (t.level ∷ ls) g nb D (λ k. 1 ≤ k) (t.rows + m)
held_rows t sound ls g n nb A ws D m made-below x =
    let y = x.filed in
    rows-here t.level ls g nb t.rows t.bucket t.step D y.inside (steps-held t sound g n nb (Carries (A (suc n) t.rows) ws) D y) sound.apart y.of_rows.carries.under (under_first t g nb (A (suc n) t.rows) ws D y) (under_none t g nb (A (suc n) t.rows) ws D y) m
    (made-below (suc n) t.rows y.of_rows.carries.under y.of_rows.carries.stores)

-- a step exists always, or for its documents
step_cases : (l : Lvl) (g : Seg) (ds : List ℕ) (s : ℤ) → Step l g ds s → Always l s ⊎ (0 < length (row_docs l g s ds))
step_cases (range_level column starts) g ds (pos k) h = inl h
step_cases (range_level column starts) g ds (negsuc k) h = inl h
step_cases (histogram_level column position) g ds s h = inr h

-- the row of a bucket and a step
row_of : Table → ℕ → ℤ → ℕ
row_of t b s = last_below (λ k. (t.bucket k == b) && same_step (t.step k) s) t.rows

row_is : (t : Table) → Sound t → (b : ℕ) (s : ℤ) (h : Has t b s) → row_of t b s ≡ h.0
unfolding row_of
row_is t sound b s h =
    let k = h.0 in
    last_is (λ j. (t.bucket j == b) && same_step (t.step j) s) t.rows k h.1.0
    (and_from (t.bucket k == b) (same_step (t.step k) s) (eq-eqb (t.bucket k) b h.1.1.0) (ap (λ (z : ℤ). same_step z s) h.1.1.1 ∙ step_same s))
    (λ j lo hi. elim (cases_Bool (t.bucket j == b && same_step (t.step j) s)) [
      | inr f ↦ f
      | inl e ↦
          let both = and_parts (t.bucket j == b) (same_step (t.step j) s) e in
          let same = sound.apart j k hi h.1.0 (eqb-true (t.bucket j) b both.0 ∙ sym h.1.1.0) (step_true (t.step j) s both.1 ∙ sym h.1.1.1) in
          absurd (let z : ⊥ = omega arith in z)
    ])

pub has_step : (t : Table) (g : Seg) (nb buckets : ℕ) (carried : Deliveries → Type 0) (D : Deliveries) (x : Filed t nb carried (sorted t.level g D)) → Standing t buckets → (b : ℕ) (s : ℤ) → b < buckets → Step t.level g (D b) s → Has t b s
has_step t g nb buckets carried D x standing b s h st = elim (step_cases t.level g (D b) s st) [
  | inl a ↦ standing b s h a
  | inr some ↦ x.found b s some
]

pub held_numbers : (t : Table) (sound : Sound t) (g : Seg) (nb : ℕ) (carried : Deliveries → Type 0) (D : Deliveries) (x : Filed t nb carried (sorted t.level g D)) → Standing t nb → Numbers t.level g nb t.rows x.docs_of D
held_numbers t sound g nb carried D x standing = record {
  row = row_of t;
  inside = λ b s h st. let k = has_step t g nb nb carried D x standing b s h st in omega (arith, row_is t sound b s k, k.1.0);
  docs = λ b s h st.
      let k = has_step t g nb nb carried D x standing b s h st in
      ap x.docs_of (row_is t sound b s k) ∙ x.docs k.0 k.1.0 ∙ ap₂ (sorted t.level g D) k.1.1.0 k.1.1.1;
  apart = λ b s c z hb sb hc sc e.
      let k = has_step t g nb nb carried D x standing b s hb sb in
      let j = has_step t g nb nb carried D x standing c z hc sc in
      let same : k.0 ≡ j.0 = sym (row_is t sound b s k) ∙ e ∙ row_is t sound c z j in
      (sym k.1.1.0 ∙ ap t.bucket same ∙ j.1.1.0, sym k.1.1.1 ∙ ap t.step same ∙ j.1.1.1);
}

pub held_complete : (t : Table) (sound : Sound t) (ls : List Lvl) (slots : ℕ) (g : Seg) (n nb : ℕ) (A : ℕ → ℕ → Deliveries → Type 0) (ws D : Deliveries) (m : ℕ) → ((b : ℕ) → ws b ≡ []) → Standing t nb
    → ((E : Deliveries) → A (suc n) t.rows E → Complete ls slots g t.rows E m) → At t A ws n nb (sorted t.level g D) → Complete (t.level ∷ ls) slots g nb D (t.rows + m)
held_complete t sound ls slots g n nb A ws D m none standing below x =
    let y = x.filed in
    complete-up t.level ls g nb t.rows y.docs_of D (held_numbers t sound g nb (Carries (A (suc n) t.rows) ws) D y standing) slots m sound.few (below y.docs_of (carry_none none y.of_rows.carries))
