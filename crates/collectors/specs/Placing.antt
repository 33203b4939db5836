-- A table that grew, and a document placed in one of its rows.
use Rattle.std.specs.Prelude.{◌≡◌, ℕ, ◌<◌, ◌≤◌, ◌&&◌, ◌⊎◌, List, [], ◌∷◌, ◌++◌, length, ℤ, ◌==◌, ◌≢◌, refl}
use Rattle.std.proofs.Common.{sym, ap, ap₂, subst, ◌∙◌, append_assoc, inl, inr, arith, length-append}
use Rattle.std.proofs.lemmas.List.{append-nil, nil_from_length}
use Rattle.std.proofs.lemmas.Bool.{cases_lt, cases_eq, cases_Bool, eq-eqb, eqb-true, and_from, and_parts, cond-true, cond-false}
use Rattle.segments.specs.Segments.{Seg}
use Rattle.stack.specs.Levels.{Lvl, range_level, histogram_level, same_step, row_docs, Step}
use Rattle.stack.specs.Overruns.{Deliveries, added}
use Rattle.stack.proofs.Delivering.{added_same, added_other}
use Rattle.stack.proofs.Readings.{step_same, step_true}
use Rattle.rows.specs.Tables.{Table, Always, Fits, Has, Sound, Grew, Counted}
use Rattle.collectors.specs.Filing.{Rows, Sorted, sorted, placed, Stands, Filed, Within}
use Rattle.collectors.specs.Naming.{stands_step}

-- ---- placing
pub placed_here : (F : Sorted) (b : ℕ) (s : ℤ) (d : ℕ) (c : ℕ) (t : ℤ) → c ≡ b → t ≡ s → placed F b s d c t ≡ F c t ++ (d ∷ [])
placed_here F b s d c t e f =
    cond-true (c == b && same_step t s) (F c t ++ (d ∷ [])) (F c t) (and_from (c == b) (same_step t s) (eq-eqb c b e) (ap (same_step t) (sym f) ∙ step_same t))

pub placed_there : (F : Sorted) (b : ℕ) (s : ℤ) (d : ℕ) (c : ℕ) (t : ℤ) → (c ≡ b → t ≢ s) → placed F b s d c t ≡ F c t
placed_there F b s d c t n = elim (cases_Bool (c == b && same_step t s)) [
  | inl e ↦ let both = and_parts (c == b) (same_step t s) e in absurd (n (eqb-true c b both.0) (step_true t s both.1))
  | inr e ↦ cond-false (c == b && same_step t s) (F c t ++ (d ∷ [])) (F c t) e
]

-- where it is, or is not
pub placed_cases : (F : Sorted) (b : ℕ) (s : ℤ) (d : ℕ) (c : ℕ) (t : ℤ) → ((c ≡ b) × ((t ≡ s) × (placed F b s d c t ≡ F c t ++ (d ∷ [])))) ⊎ (placed F b s d c t ≡ F c t)
placed_cases F b s d c t = elim (cases_Bool (c == b && same_step t s)) [
  | inl e ↦ let both = and_parts (c == b) (same_step t s) e in inl (eqb-true c b both.0, (step_true t s both.1, cond-true (c == b && same_step t s) (F c t ++ (d ∷ [])) (F c t) e))
  | inr e ↦ inr (cond-false (c == b && same_step t s) (F c t ++ (d ∷ [])) (F c t) e)
]

pub within_refl : (F : Sorted) → Within F F
within_refl F b s = ([], sym (append-nil (F b s)))

pub within_trans : (F G H : Sorted) → Within F G → Within G H → Within F H
within_trans F G H p q b s = ((p b s).0 ++ (q b s).0, (q b s).1 ∙ ap (λ (xs : List ℕ). xs ++ (q b s).0) (p b s).1 ∙ append_assoc (F b s) (p b s).0 (q b s).0)

pub within-placed : (F : Sorted) (b : ℕ) (s : ℤ) (d : ℕ) → Within F (placed F b s d)
within-placed F b s d c t = elim (placed_cases F b s d c t) [
  | inl e ↦ (d ∷ [], e.1.1)
  | inr e ↦ ([], e ∙ sym (append-nil (F c t)))
]

-- ---- standing
pub stands_more : (l : Lvl) (xs ys : List ℕ) (s : ℤ) → length xs ≤ length ys → Stands l xs s → Stands l ys s
stands_more (range_level column starts) xs ys s h x = x
stands_more (histogram_level column position) xs ys s h x = omega arith

pub stands_always : (l : Lvl) (xs : List ℕ) (s : ℤ) → Always l s → Stands l xs s
stands_always (range_level column starts) xs s x = x
stands_always (histogram_level column position) xs s x = absurd x

pub stands_fits : (l : Lvl) (xs : List ℕ) (s : ℤ) → Fits l s → 0 < length xs → Stands l xs s
stands_fits (range_level column starts) xs s x h = x
stands_fits (histogram_level column position) xs s x h = h

-- ---- a table that grew
module _ (t u : Table) (sound : Sound u) (grew : Grew t u) (nb : ℕ) (carried : Deliveries → Type 0) (F : Sorted) (x : Filed t nb carried F) where
  -- a new row has no documents
  none_new : (k : ℕ) → t.rows ≤ k → k < u.rows → F (u.bucket k) (u.step k) ≡ []
  none_new k h l = elim (cases_lt 0 (length (F (u.bucket k) (u.step k)))) [
    | inr g ↦ nil_from_length (F (u.bucket k) (u.step k)) (omega arith)
    | inl g ↦
        let f = x.found (u.bucket k) (u.step k) g in
        let same = sound.apart f.0 k (omega (arith, f.1.0, grew.more)) l (grew.same_bucket f.0 f.1.0 ∙ f.1.1.0) (grew.same_step f.0 f.1.0 ∙ f.1.1.1) in
        absurd (let z : ⊥ = omega (arith, same, f.1.0, h) in z)
  ]

  pub docs-grown : (k : ℕ) → k < u.rows → x.docs_of k ≡ F (u.bucket k) (u.step k)
  docs-grown k h = elim (cases_lt k t.rows) [
    | inl l ↦ x.docs k l ∙ ap₂ F (sym (grew.same_bucket k l)) (sym (grew.same_step k l))
    | inr l ↦ x.of_rows.none_behind k l ∙ sym (none_new k l h)
  ]

  pub rows_grown : (carries : Deliveries → Type 0) → ((E : Deliveries) → carried E → carries E) → Rows u.count u.rows carries x.docs_of
  rows_grown carries wide = record {
    carries = wide x.docs_of x.of_rows.carries;
    counted = λ k h. elim (cases_lt k t.rows) [
      | inl l ↦ grew.same_count k l ∙ x.of_rows.counted k l
      | inr l ↦ grew.new_count k l h ∙ ap length (sym (x.of_rows.none_behind k l))
    ];
    none_behind = λ k h. x.of_rows.none_behind k (omega (arith, grew.more));
  }

  pub found-grown : (b : ℕ) (s : ℤ) → 0 < length (F b s) → Has u b s
  found-grown b s h = let f = x.found b s h in
      (f.0, (omega (arith, f.1.0, grew.more), (grew.same_bucket f.0 f.1.0 ∙ f.1.1.0, grew.same_step f.0 f.1.0 ∙ f.1.1.1)))

  pub stands-old : (k : ℕ) → k < t.rows → Stands u.level (F (u.bucket k) (u.step k)) (u.step k)
  stands-old k l =
      let old = x.stands k l in
      subst (λ (m : Lvl). Stands m (F (u.bucket k) (u.step k)) (u.step k)) (sym grew.same_level)
      (subst (λ (s : ℤ). Stands t.level (F (u.bucket k) s) s) (sym (grew.same_step k l))
      (subst (λ (b : ℕ). Stands t.level (F b (t.step k)) (t.step k)) (sym (grew.same_bucket k l)) old))

  pub inside-old : (k : ℕ) → k < t.rows → u.bucket k < nb
  inside-old k l = omega (arith, grew.same_bucket k l, x.inside k l)

  -- with rows that all stand, it is filed as before
  pub filed-grown : (carries : Deliveries → Type 0) → ((E : Deliveries) → carried E → carries E) → ((k : ℕ) → t.rows ≤ k → k < u.rows → (u.bucket k < nb) × Always u.level (u.step k)) → Filed u nb carries F
  filed-grown carries wide new = record {
    docs_of = x.docs_of;
    of_rows = rows_grown carries wide;
    docs = docs-grown;
    inside = λ k h. elim (cases_lt k t.rows) [ inl l ↦ inside-old k l | inr l ↦ (new k l h).0 ];
    found = found-grown;
    stands = λ k h. elim (cases_lt k t.rows) [ inl l ↦ stands-old k l | inr l ↦ stands_always u.level (F (u.bucket k) (u.step k)) (u.step k) (new k l h).1 ];
  }

-- ---- a document placed in a row of it
module _ (t u : Table) (sound : Sound u) (grew : Grew t u) (r nb b : ℕ) (carried : Deliveries → Type 0) (F : Sorted) (x : Filed t nb carried F)
    (there : r < u.rows) (at : u.bucket r ≡ b) (below : b < nb)
    (new : (k : ℕ) → t.rows ≤ k → k < u.rows → (k ≡ r) ⊎ ((u.bucket k ≤ b) × Always u.level (u.step k))) (d : ℕ) where
  row-docs-placed : (k : ℕ) → k < u.rows → added x.docs_of r (d ∷ []) k ≡ placed F b (u.step r) d (u.bucket k) (u.step k)
  row-docs-placed k h = elim (cases_eq k r) [
    | inl e ↦
        subst (λ (j : ℕ). added x.docs_of r (d ∷ []) j ≡ placed F b (u.step r) d (u.bucket j) (u.step j)) (sym e)
        (added_same x.docs_of r (d ∷ []) ∙ ap (λ (xs : List ℕ). xs ++ (d ∷ [])) (docs-grown t u sound grew nb carried F x r there) ∙ sym (placed_here F b (u.step r) d (u.bucket r) (u.step r) at refl))
    | inr n ↦
        added_other x.docs_of r k (d ∷ []) n ∙ docs-grown t u sound grew nb carried F x k h
        ∙ sym (placed_there F b (u.step r) d (u.bucket k) (u.step k) (λ e f. n (sound.apart k r h there (e ∙ sym at) f)))
  ]

  grows : (c : ℕ) (z : ℤ) → length (F c z) ≤ length (placed F b (u.step r) d c z)
  grows c z = let m = within-placed F b (u.step r) d c z in omega (arith, ap length m.1, length-append (F c z) m.0)

  placed-some : 0 < length (placed F b (u.step r) d b (u.step r))
  placed-some = omega (arith, ap length (placed_here F b (u.step r) d b (u.step r) refl refl), length-append (F b (u.step r)) (d ∷ []))

  stands-new : (k : ℕ) → k < u.rows → Stands u.level (placed F b (u.step r) d (u.bucket k) (u.step k)) (u.step k)
  stands-new k h = elim (cases_lt k t.rows) [
    | inl l ↦ stands_more u.level (F (u.bucket k) (u.step k)) (placed F b (u.step r) d (u.bucket k) (u.step k)) (u.step k) (grows (u.bucket k) (u.step k)) (stands-old t u sound grew nb carried F x k l)
    | inr l ↦ elim (new k l h) [
      | inr a ↦ stands_always u.level (placed F b (u.step r) d (u.bucket k) (u.step k)) (u.step k) a.1
      | inl e ↦
          let here : placed F b (u.step r) d (u.bucket k) (u.step k) ≡ placed F b (u.step r) d b (u.step r) = ap₂ (placed F b (u.step r) d) (ap u.bucket e ∙ at) (ap u.step e) in
          stands_fits u.level (placed F b (u.step r) d (u.bucket k) (u.step k)) (u.step k) (sound.fits k h) (omega (arith, ap length here, placed-some))
    ]
  ]

  inside-new : (k : ℕ) → k < u.rows → u.bucket k < nb
  inside-new k h = elim (cases_lt k t.rows) [
    | inl l ↦ inside-old t u sound grew nb carried F x k l
    | inr l ↦ elim (new k l h) [ inl e ↦ omega (arith, ap u.bucket e, at) | inr a ↦ omega (arith, a.0) ]
  ]

  pub filed-placed : (w : Table) → Counted u w r → (carries : Deliveries → Type 0) → Rows w.count u.rows carries (added x.docs_of r (d ∷ [])) → Filed w nb carries (placed F b (u.step r) d)
  filed-placed w cu carries rows = record {
    docs_of = added x.docs_of r (d ∷ []);
    of_rows = subst (λ (R : ℕ). Rows w.count R carries (added x.docs_of r (d ∷ []))) (sym cu.same_rows) rows;
    docs = λ k h. row-docs-placed k (up k h) ∙ ap₂ (placed F b (u.step r) d) (sym (cu.same_bucket k (up k h))) (sym (cu.same_step k (up k h)));
    inside = λ k h. omega (arith, cu.same_bucket k (up k h), inside-new k (up k h));
    found = λ c z h. elim (placed_cases F b (u.step r) d c z) [
      | inl e ↦ (r, (omega (arith, there, cu.same_rows), (cu.same_bucket r there ∙ at ∙ sym e.0, cu.same_step r there ∙ sym e.1.0)))
      | inr e ↦ let f = found-grown t u sound grew nb carried F x c z (omega (arith, ap length e)) in
          (f.0, (omega (arith, f.1.0, cu.same_rows), (cu.same_bucket f.0 f.1.0 ∙ f.1.1.0, cu.same_step f.0 f.1.0 ∙ f.1.1.1)))
    ];
    stands = λ k h.
        subst (λ (m : Lvl). Stands m (placed F b (u.step r) d (w.bucket k) (w.step k)) (w.step k)) (sym cu.same_level)
        (subst (λ (z : ℤ). Stands u.level (placed F b (u.step r) d (w.bucket k) z) z) (sym (cu.same_step k (up k h)))
        (subst (λ (c : ℕ). Stands u.level (placed F b (u.step r) d c (u.step k)) (u.step k)) (sym (cu.same_bucket k (up k h))) (stands-new k (up k h))));
  }
    where
      up : (k : ℕ) → k < w.rows → k < u.rows
      up k h = omega (arith, cu.same_rows)

  -- its rows, as rows of deliveries in which the document comes
  module _ (g : Seg) (D : Deliveries) (all : Within (placed F b (u.step r) d) (sorted u.level g D)) where
    pub steps-placed : (k : ℕ) → k < u.rows → Step u.level g (D (u.bucket k)) (u.step k)
    steps-placed k h = stands_step u.level g D (u.bucket k) (u.step k) (placed F b (u.step r) d (u.bucket k) (u.step k)) (all (u.bucket k) (u.step k)) (stands-new k h)

    pub first-placed : (k : ℕ) → k < u.rows → (rest : List ℕ) × (row_docs u.level g (u.step k) (D (u.bucket k)) ≡ added x.docs_of r (d ∷ []) k ++ rest)
    first-placed k h = let m = all (u.bucket k) (u.step k) in (m.0, m.1 ∙ ap (λ (xs : List ℕ). xs ++ m.0) (sym (row-docs-placed k h)))

    pub inside-placed : (k : ℕ) → k < u.rows → u.bucket k < nb
    inside-placed k h = inside-new k h

    pub none-placed : (k : ℕ) → u.rows ≤ k → added x.docs_of r (d ∷ []) k ≡ []
    none-placed k h = added_other x.docs_of r k (d ∷ []) (λ e. omega (arith, e, there)) ∙ x.of_rows.none_behind k (omega (arith, grew.more))
