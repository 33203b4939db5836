-- One value of a document: its row, its count, and its way down.
use Rattle.std.specs.Prelude.{◌≡◌, ℕ, suc, ◌+◌, ◌-◌, ◌^◌, ◌<◌, ◌≤◌, ◌≢◌, [], ◌∷◌, length, ℤ, Some, None, Option, refl}
use Rattle.std.proofs.Common.{sym, ap, subst, ◌∙◌, arith, length-append}
use Rattle.records.specs.declared.fault.Fault.{Fault}
use Rattle.records.specs.declared.fault.Refusal.TheVariants.{CountOverflow, AllowanceExceeded}
use Rattle.limits.specs.declared.agg_limits.AggregationLimits.{AggregationLimits}
use Rattle.segments.specs.Segments.{Seg}
use Rattle.stack.specs.Levels.{Lvl, Plan, row_docs, step_of}
use Rattle.stack.specs.Overruns.{Deliveries, added, Crowd, fault, Overrun}
use Rattle.stack.specs.Calls.{for_rows, Went}
use Rattle.stack.proofs.Chaining.{charged_trans, charged_with, stopped_after, stopped_with}
use Rattle.rows.specs.Tables.{Table, Always, Fits, Sound, Counted, RowFor, Unprepared, NoRowFor, unmade, unprepared}
use Rattle.collectors.specs.Filing.{Carries, Rows, Sorted, sorted, placed, placed_at, Filed, Within, At, Sent, Missed, PutRefused, full_here, refused_below}
use Rattle.collectors.specs.Naming.{fits_step, always_step, lifted, full_row}
use Rattle.collectors.specs.Placing.{placed_here, within_refl, within-placed, within_trans, docs-grown, rows_grown, filed-placed, steps-placed, first-placed, inside-placed, none-placed}
use Rattle.collectors.specs.Lacking.{lacking}

-- placed at a step that a value has
pub at_step : (F : Sorted) (b : ℕ) (o : Option ℤ) (s : ℤ) (d : ℕ) → o ≡ Some s → placed_at F b o d ≡ placed F b s d
at_step F b o s d e = ap (λ (z : Option ℤ). placed_at F b z d) e

-- other levels, the same documents
within_level : (G : Sorted) (l m : Lvl) (g : Seg) (D : Deliveries) → m ≡ l → Within G (sorted l g D) → Within G (sorted m g D)
within_level G l m g D e w = subst (λ (z : Lvl). Within G (sorted z g D)) (sym e) w

not_allowance : (f : Fault) (n : ℕ) → f ≡ fault CountOverflow n → f.refusal ≢ AllowanceExceeded
not_allowance f n e h = let q : CountOverflow ≡ AllowanceExceeded = sym (ap (λ (z : Fault). z.refusal) e) ∙ h in let z : ◌≡◌ {A = ℕ} 0 1 = cc in omega arith

module _ {t u : Table} (sound : Sound u) {lim lim1 : AggregationLimits} {b v r : ℕ} (rf : RowFor t u lim lim1 b v r)
    {A : ℕ → ℕ → Deliveries → Type 0} {ws : Deliveries} (wider : (n R S : ℕ) (D : Deliveries) → R ≤ S → A n R D → A n S D) where
  wide : (n : ℕ) (E : Deliveries) → Carries (A n t.rows) ws E → Carries (A n u.rows) ws E
  wide n E c = record { under = c.under; stores = wider n t.rows u.rows c.under rf.grew.more c.stores; whole = c.whole }

  grown-rows : (n nb : ℕ) (F : Sorted) (x : Filed t nb (Carries (A (suc n) t.rows) ws) F) → Rows u.count u.rows (Carries (A (suc n) u.rows) ws) x.docs_of
  grown-rows n nb F x = rows_grown t u sound rf.grew nb (Carries (A (suc n) t.rows) ws) F x (Carries (A (suc n) u.rows) ws) (wide (suc n))

  pub place-sent : {w : Table} {lim2 : AggregationLimits} {B : ℕ → ℕ → Deliveries → Type 0} {us : Deliveries} {p q : Plan} {m0 m1 : ℕ} (d : ℕ) → Counted u w r
      → Went (λ n c. Rows u.count c (Carries (A n c) ws)) (λ n c. Rows w.count c (Carries (B n c) us)) (λ c. c ≡ u.rows) (λ E. added E r (d ∷ [])) p q lim1 lim2 m0 m1
      → (w.level ≡ t.level) × Sent (At t A ws) (At w B us) (λ c. b < c) (λ F. placed_at F b (step_of t.level v) d) p q lim lim2 (t.rows + m0) (w.rows + m1)
  place-sent {w} {lim2} {B} {us} {p} {q} {m0} {m1} d cu wn = (
    cu.same_level ∙ rf.grew.same_level,
    record {
      keeps = λ n nb h F at. record {
        number = cu.same_number ∙ rf.grew.same_number ∙ at.number;
        filed =
            subst (λ (G : Sorted). Filed w nb (Carries (B (suc n) w.rows) us) G) (sym (at_step F b (step_of t.level v) (u.step r) d rf.step))
            (filed-placed t u sound rf.grew r nb b (Carries (A (suc n) t.rows) ws) F at.filed rf.there rf.bucket h rf.new d w cu (Carries (B (suc n) w.rows) us)
            (subst (λ (R : ℕ). Rows w.count u.rows (Carries (B (suc n) R) us) (added at.filed.docs_of r (d ∷ []))) (sym cu.same_rows)
            (wn.keeps (suc n) u.rows refl at.filed.docs_of (grown-rows n nb F at.filed))));
      };
      same_plan = wn.same_plan;
      charged = charged_trans lim lim1 lim2 (t.rows + m0) (u.rows + m0) (w.rows + m1)
          (charged_with lim lim1 m0 (t.rows + m0) (u.rows + m0) t.rows u.rows (omega arith) (omega arith) rf.charged)
          (charged_with lim1 lim2 u.rows (u.rows + m0) (w.rows + m1) m0 m1 (omega arith) (omega (arith, cu.same_rows)) wn.charged);
    },
  )

  pub put-missed : {w : Table} {lim2 : AggregationLimits} {p : Plan} {slots : ℕ} {g : Seg} {m0 m1 d : ℕ} {f : Fault}
      → PutRefused u w p slots g (λ n c. Rows u.count c (Carries (A n c) ws)) r d lim1 lim2 m0 m1 f
      → Missed p t.level slots g (At t A ws) (λ c. b < c) (λ F. placed_at F b (step_of t.level v) d) lim lim2 (t.rows + m0) (w.rows + m1) f
  put-missed {w} {lim2} {p} {slots} {g} {m0} {m1} {d} {f} (full_here e top same lims ms) = record {
    stopped = record {
      same_limit = ap (λ (z : AggregationLimits). z.limit) lims ∙ rf.charged.same_limit;
      grown = omega (arith, rf.charged.grown, same, ms);
      paid = for_rows (not_allowance f u.number e) (omega (arith, rf.charged.paid, same, ms, ap (λ (z : AggregationLimits). z.used) lims));
    };
    overrun = λ n nb others F D h at used all.
        let all' : Within (placed F b (u.step r) d) (sorted t.level g D) = subst (λ (G : Sorted). Within G (sorted t.level g D)) (at_step F b (step_of t.level v) (u.step r) d rf.step) all in
        let rows = grown-rows n nb F at.filed in
        let size : length (F b (u.step r)) ≡ 2 ^ 64 - 1 = ap (λ (c : ℕ). length (F c (u.step r))) (sym rf.bucket) ∙ ap length (sym (docs-grown t u sound rf.grew nb (Carries (A (suc n) t.rows) ws) F at.filed r rf.there)) ∙ sym (rows.counted r rf.there) ∙ top in
        let here = placed_here F b (u.step r) d b (u.step r) refl refl in
        let m = all' b (u.step r) in
        full_row t.level p.levels slots n g nb D others lim.limit f b (u.step r) (e ∙ ap (fault CountOverflow) (rf.grew.same_number ∙ at.number)) h
        (omega (arith, ap length m.1, length-append (placed F b (u.step r) d b (u.step r)) m.0, ap length here, length-append (F b (u.step r)) (d ∷ []), size));
  }
  put-missed {w} {lim2} {p} {slots} {g} {m0} {m1} {d} {f} (refused_below same o) = record {
    stopped = stopped_after lim lim1 lim2 (t.rows + m0) (u.rows + m0) (w.rows + m1) f
        (charged_with lim lim1 m0 (t.rows + m0) (u.rows + m0) t.rows u.rows (omega arith) (omega arith) rf.charged)
        (stopped_with lim1 lim2 u.rows (u.rows + m0) (w.rows + m1) m0 m1 f (omega arith) (omega (arith, same)) o.stopped);
    overrun = λ n nb others F D h at used all.
        let E = at.filed.docs_of in
        let all' : Within (placed F b (u.step r) d) (sorted u.level g D) = within_level (placed F b (u.step r) d) t.level u.level g D rf.grew.same_level (subst (λ (G : Sorted). Within G (sorted t.level g D)) (at_step F b (step_of t.level v) (u.step r) d rf.step) all) in
        let carried = Carries (A (suc n) t.rows) ws in
        let below = o.overrun (suc n) u.rows (others + u.rows) E refl (grown-rows n nb F at.filed) (omega (arith, used, rf.charged.paid)) in
        subst (λ (z : Lvl). Overrun 1 (z ∷ p.levels) slots n g nb D others lim.limit f) rf.grew.same_level
        (lifted u.level p.levels g nb u.rows u.bucket u.step D
        (inside-placed t u sound rf.grew r nb b carried F at.filed rf.there rf.bucket h rf.new d g D all')
        (steps-placed t u sound rf.grew r nb b carried F at.filed rf.there rf.bucket h rf.new d g D all')
        sound.apart (added E r (d ∷ []))
        (first-placed t u sound rf.grew r nb b carried F at.filed rf.there rf.bucket h rf.new d g D all')
        (none-placed t u sound rf.grew r nb b carried F at.filed rf.there rf.bucket h rf.new d g D all')
        slots n others lim.limit f
        (subst (λ (z : ℕ). Overrun 1 p.levels slots (suc n) g u.rows (added E r (d ∷ [])) (others + u.rows) z f) rf.charged.same_limit below));
  }

-- a document placed or not
within_at : (F : Sorted) (b : ℕ) (o : Option ℤ) (d : ℕ) → Within F (placed_at F b o d)
within_at F b None d = within_refl F
within_at F b (Some s) d = within-placed F b s d

-- rows that always stand and cannot all be made
pub prepare_overrun : (t u : Table) (sound : Sound u) (lim lim1 : AggregationLimits) (buckets : ℕ) (f : Fault) (A : ℕ → ℕ → Deliveries → Type 0) (ws : Deliveries) (p : Plan) (slots : ℕ) (g : Seg) (m0 : ℕ)
    → ((n R : ℕ) (D : Deliveries) → A n R D → Crowd p.levels g R D (λ k. 1 ≤ k) m0) → Unprepared t u lim lim1 buckets f
    → (n nb others : ℕ) (F : Sorted) (D : Deliveries) → buckets ≤ nb → At t A ws n nb F → lim.used ≡ others + (t.rows + m0) → Within F (sorted u.level g D) → Overrun 1 (t.level ∷ p.levels) slots n g nb D others lim.limit f
prepare_overrun t u sound lim lim1 buckets f A ws p slots g m0 made-below x n nb others F D h at used all =
    let always : Always u.level x.step = subst (λ (z : Lvl). Always z x.step) (sym x.lacks.grew.same_level) x.always in
    subst (λ (z : Lvl). Overrun 1 (z ∷ p.levels) slots n g nb D others lim.limit f) x.lacks.grew.same_level
    (lacking t u sound x.lacks.grew n nb (A (suc n) t.rows) ws F at.filed p.levels g D all
    (λ k lo hi. let w = x.new k lo hi in (omega (arith, w.0), w.1)) x.bucket x.step (omega (arith, x.inside)) (always_step u.level g (D x.bucket) x.step always) x.lacks.missing
    slots others m0 lim lim1 f at.number (made-below (suc n) t.rows at.filed.of_rows.carries.under at.filed.of_rows.carries.stores) used x.lacks.reason)

-- a value whose row cannot be made
module _ {t u : Table} (sound : Sound u) {lim lim1 : AggregationLimits} {b v : ℕ} (d : ℕ) {f : Fault}
    {A : ℕ → ℕ → Deliveries → Type 0} {ws : Deliveries} {p : Plan} {slots : ℕ} {g : Seg} {m0 : ℕ}
    (made-below : (n R : ℕ) (D : Deliveries) → A n R D → Crowd p.levels g R D (λ k. 1 ≤ k) m0) where
  pub row-missed : NoRowFor t u lim lim1 b v f → Missed p t.level slots g (At t A ws) (λ c. b < c) (λ F. placed_at F b (step_of t.level v) d) lim lim1 (t.rows + m0) (u.rows + m0) f
  row-missed (unmade x) = record {
    stopped = stopped_with lim lim1 m0 (t.rows + m0) (u.rows + m0) t.rows u.rows f (omega arith) (omega arith) x.lacks.stopped;
    overrun = λ n nb others F D h at used all.
        let s = x.step in
        let all1 = within_level (placed F b s d) t.level u.level g D x.lacks.grew.same_level (subst (λ (G : Sorted). Within G (sorted t.level g D)) (at_step F b (step_of t.level v) s d x.counted) all) in
        let m = all1 b s in
        let some : 0 < length (row_docs u.level g s (D b)) = omega (arith, ap length m.1, length-append (placed F b s d b s) m.0, ap length (placed_here F b s d b s refl refl), length-append (F b s) (d ∷ [])) in
        let fits : Fits u.level s = subst (λ (z : Lvl). Fits z s) (sym x.lacks.grew.same_level) x.fits in
        subst (λ (z : Lvl). Overrun 1 (z ∷ p.levels) slots n g nb D others lim.limit f) x.lacks.grew.same_level
        (lacking t u sound x.lacks.grew n nb (A (suc n) t.rows) ws F at.filed p.levels g D (within_trans F (placed F b s d) (sorted u.level g D) (within-placed F b s d) all1)
        (λ k lo hi. absurd (let z : ⊥ = omega (arith, x.none_new) in z)) b s h (fits_step u.level g (D b) s fits some) x.lacks.missing
        slots others m0 lim lim1 f at.number (made-below (suc n) t.rows at.filed.of_rows.carries.under at.filed.of_rows.carries.stores) used x.lacks.reason);
  }
  row-missed (unprepared x) = record {
    stopped = stopped_with lim lim1 m0 (t.rows + m0) (u.rows + m0) t.rows u.rows f (omega arith) (omega arith) x.lacks.stopped;
    overrun = λ n nb others F D h at used all.
        let all1 = within_level (placed_at F b (step_of t.level v) d) t.level u.level g D x.lacks.grew.same_level all in
        prepare_overrun t u sound lim lim1 (b + 1) f A ws p slots g m0 made-below x n nb others F D (omega arith) at used
        (within_trans F (placed_at F b (step_of t.level v) d) (sorted u.level g D) (within_at F b (step_of t.level v) d) all1);
  }
