-- Partitions: one that changes, all without pairs, the first of them, and the list of pairs that they are.
use Rattle.std.specs.Prelude.{◌≡◌, ℕ, zero, suc, ◌+◌, ◌%◌, ◌<◌, ◌≤◌, ◌≢◌, List, [], ◌∷◌, ◌++◌, length, take, drop, replicate, ◌==◌, Some, slice_get, slice_set, slice_index_or, flat_map, sum_by, refl}
use Rattle.std.proofs.Common.{sym, ap, ◌∙◌, subst, inl, inr, arith}
use Rattle.std.proofs.Math.Path.{fun_ext}
use Rattle.std.proofs.lemmas.Bool.{cases_eq, cond-true, cond-false, eq-eqb, ne_eqb}
use Rattle.std.proofs.lemmas.List.{append-nil, append_assoc, length-take, length-set, nil_from_length, take_more, take-append-drop, get_or-set_same, get_or-set_other, get_or-replicate, length-replicate}
use Rattle.std.proofs.lemmas.List.Concat.{flat_map-append, length-flat_map}
use Rattle.std.proofs.lemmas.List.Sums.{sum_by-cons, sum_by-set, get_or-le-sum_by}
use Rattle.std.proofs.lemmas.Option.{slice_get_within, slice_get_read, get_or_from_slice_get}
use Rattle.stack.specs.Overruns.{added}
use Rattle.stack.specs.Calls.{docs_for, Waits, Inside}
use Rattle.caches.specs.declared.pairs.Pairs.{Pairs}
use Rattle.caches.specs.Grouping.{part_waits, group_waits, group_len, AllHome}
use Rattle.caches.specs.Waits.{docs_append, waits_low, low_take}

-- ---- the list of pairs that they are

buckets_in : List Pairs → List ℕ
buckets_in ps = flat_map (λ p. take p.len p.bucket_ids) ps

docs_in : List Pairs → List ℕ
docs_in ps = flat_map (λ p. take p.len p.docs) ps

part-long : (p : Pairs) → (length (take p.len p.bucket_ids) ≡ p.len) × (length (take p.len p.docs) ≡ p.len)
part-long p = (omega (arith, length-take p.len p.bucket_ids, p.whole, p.few), omega (arith, length-take p.len p.docs, p.beside, p.few))

long-buckets : (ps : List Pairs) → length (buckets_in ps) ≡ group_len ps
unfolding buckets_in group_len
long-buckets ps = length-flat_map (λ (p : Pairs). take p.len p.bucket_ids) ps ∙ ap (λ (f : Pairs → ℕ). sum_by f ps) (fun_ext (λ p. (part-long p).0))

long-docs : (ps : List Pairs) → length (docs_in ps) ≡ group_len ps
unfolding docs_in group_len
long-docs ps = length-flat_map (λ (p : Pairs). take p.len p.docs) ps ∙ ap (λ (f : Pairs → ℕ). sum_by f ps) (fun_ext (λ p. (part-long p).1))

are-parts : (ps : List Pairs) (b : ℕ) → group_waits ps b ≡ docs_for b (buckets_in ps) (docs_in ps)
unfolding buckets_in docs_in group_waits
are-parts [] b = refl
are-parts (p ∷ ps) b =
    ap (λ (xs : List ℕ). part_waits p b ++ xs) (are-parts ps b)
    ∙ sym (docs_append b (take p.len p.bucket_ids) (buckets_in ps) (take p.len p.docs) (docs_in ps) ((part-long p).0 ∙ sym (part-long p).1))

none-wait : (ps : List Pairs) (b : ℕ) → ((i : ℕ) (p : Pairs) → slice_get ps i ≡ Some p → part_waits p b ≡ []) → group_waits ps b ≡ []
unfolding group_waits
none-wait [] b n = refl
none-wait (p ∷ ps) b n = (λ i. n 0 p refl i ++ none-wait ps b (λ j r e. n (suc j) r e) i)

none-past : (ps : List Pairs) (b : ℕ) → 512 ≤ b → group_waits ps b ≡ []
none-past ps b h = none-wait ps b (λ i p e. waits_low (take p.len p.bucket_ids) (take p.len p.docs) b (low_take p.bucket_ids p.len p.low) h)

pub group_record : (ps : List Pairs) (len : ℕ) → len ≤ 2048 → group_len ps ≡ len → Waits (group_waits ps) len
group_record ps len few total = record {
  buckets = buckets_in ps;
  docs = docs_in ps;
  paired = long-buckets ps ∙ sym (long-docs ps);
  count = long-docs ps ∙ total;
  few = few;
  parts = are-parts ps;
  inside = none-past ps;
}

-- ---- all without pairs

pub group_none : (ps : List Pairs) → ((g : ℕ) (p : Pairs) → slice_get ps g ≡ Some p → p.len ≡ 0) → group_len ps ≡ 0
unfolding group_len
group_none [] e = refl
group_none (p ∷ ps) e = omega (arith, sum_by-cons (λ (q : Pairs). q.len) p ps, e 0 p refl, group_none ps (λ g q h. e (suc g) q h))

pub home_none : (ps : List Pairs) → ((g : ℕ) (p : Pairs) → slice_get ps g ≡ Some p → p.len ≡ 0) → AllHome ps
home_none ps e g p h b n = ap (λ (l : ℕ). docs_for b (take l p.bucket_ids) (take l p.docs)) (e g p h)

pub copies_none : (n : ℕ) (q : Pairs) → q.len ≡ 0 → (g : ℕ) (p : Pairs) → slice_get (replicate n q) g ≡ Some p → p.len ≡ 0
copies_none n q e g p h =
    let l : g < n = omega (arith, slice_get_within (replicate n q) g p h, length-replicate n q) in
    ap (λ (r : Pairs). r.len) (sym (get_or_from_slice_get (replicate n q) g p q h) ∙ get_or-replicate n g q q l) ∙ e

-- ---- one that changes

module _ (ps : List Pairs) (g : ℕ) (p : Pairs) (there : slice_get ps g ≡ Some p) where
  is-there : slice_index_or ps g p ≡ p
  is-there = get_or_from_slice_get ps g p p there

  pub part-few : p.len ≤ group_len ps
  unfolding group_len
  part-few = omega (arith, get_or-le-sum_by (λ (q : Pairs). q.len) ps g p (slice_get_within ps g p there), ap (λ (q : Pairs). q.len) is-there)

  pub len-set : (q : Pairs) → group_len (slice_set ps g q) + p.len ≡ group_len ps + q.len
  unfolding group_len
  len-set q = omega (arith, sum_by-set (λ (r : Pairs). r.len) ps g q p (slice_get_within ps g p there), ap (λ (r : Pairs). r.len) is-there)

-- what a written list has at a place
at-set : (P : ℕ → Pairs → Type 0) (ps : List Pairs) (g : ℕ) (q : Pairs) → P g q → ((i : ℕ) (r : Pairs) → (i ≢ g) → slice_get ps i ≡ Some r → P i r) → (i : ℕ) (r : Pairs) → slice_get (slice_set ps g q) i ≡ Some r → P i r
at-set P ps g q here all i r e =
    let l : i < length ps = omega (arith, slice_get_within (slice_set ps g q) i r e, length-set ps g q) in
    let is : slice_index_or (slice_set ps g q) i r ≡ r = get_or_from_slice_get (slice_set ps g q) i r r e in
    elim (cases_eq i g) [
      | inl h ↦
          let z : q ≡ r = sym (get_or-set_same ps g q r (omega (arith, l, h))) ∙ ap (λ (j : ℕ). slice_index_or (slice_set ps g q) j r) (sym h) ∙ is in
          subst (P i) z (subst (λ (j : ℕ). P j q) (sym h) here)
      | inr n ↦ all i r n (slice_get_read ps (length ps) i r refl l (sym is ∙ get_or-set_other ps g i q r n))
    ]

pub home_set : (ps : List Pairs) (g : ℕ) (q : Pairs) → ((b : ℕ) → (b % 16 ≢ g) → part_waits q b ≡ []) → AllHome ps → AllHome (slice_set ps g q)
home_set ps g q here all = at-set (λ i r. (b : ℕ) → (b % 16 ≢ i) → part_waits r b ≡ []) ps g q here (λ i r n. all i r)

other-set : (ps : List Pairs) (g : ℕ) (p q : Pairs) (k : ℕ) → slice_get ps g ≡ Some p → part_waits q k ≡ part_waits p k → group_waits (slice_set ps g q) k ≡ group_waits ps k
unfolding group_waits
other-set [] g p q k e s = refl
other-set (r ∷ ps) zero p q k e s = let z : p ≡ r = cc in ap (λ (xs : List ℕ). xs ++ group_waits ps k) (s ∙ ap (λ (t : Pairs). part_waits t k) z)
other-set (r ∷ ps) (suc g) p q k e s = ap (λ (xs : List ℕ). part_waits r k ++ xs) (other-set ps g p q k e s)

more-set : (ps : List Pairs) (g : ℕ) (p q : Pairs) (b d : ℕ) → slice_get ps g ≡ Some p → ((i : ℕ) (r : Pairs) → g < i → slice_get ps i ≡ Some r → part_waits r b ≡ []) → part_waits q b ≡ part_waits p b ++ (d ∷ []) → group_waits (slice_set ps g q) b ≡ group_waits ps b ++ (d ∷ [])
unfolding group_waits
more-set [] g p q b d e n s = absurd (let z : ⊥ = cc in z)
more-set (r ∷ ps) zero p q b d e n s =
    let z : p ≡ r = cc in
    let rest : group_waits ps b ≡ [] = none-wait ps b (λ i t h. n (suc i) t (omega arith) h) in
    (λ i. (s ∙ ap (λ (t : Pairs). part_waits t b ++ (d ∷ [])) z) i ++ rest i) ∙ append-nil (part_waits r b ++ (d ∷ []))
    ∙ ap (λ (xs : List ℕ). xs ++ (d ∷ [])) (sym (append-nil (part_waits r b)) ∙ ap (λ (xs : List ℕ). part_waits r b ++ xs) (sym rest))
more-set (r ∷ ps) (suc g) p q b d e n s =
    ap (λ (xs : List ℕ). part_waits r b ++ xs) (more-set ps g p q b d e (λ i t l h. n (suc i) t (omega arith) h) s)
    ∙ sym (append_assoc (part_waits r b) (group_waits ps b) (d ∷ []))

-- a pair more in its partition
module _ (ps : List Pairs) (b d : ℕ) (p q : Pairs) (there : slice_get ps (b % 16) ≡ Some p) (home : AllHome ps) (grown : part_waits q ≡ added (part_waits p) b (d ∷ [])) where
  grown-same : (k : ℕ) → k ≡ b → part_waits q k ≡ part_waits p k ++ (d ∷ [])
  grown-same k e = (λ i. grown i k) ∙ cond-true (k == b) (part_waits p k ++ (d ∷ [])) (part_waits p k) (eq-eqb k b e)

  grown-other : (k : ℕ) → (k ≢ b) → part_waits q k ≡ part_waits p k
  grown-other k n = (λ i. grown i k) ∙ cond-false (k == b) (part_waits p k ++ (d ∷ [])) (part_waits p k) (ne_eqb k b n)

  pub home-push : AllHome (slice_set ps (b % 16) q)
  home-push = home_set ps (b % 16) q (λ k n. grown-other k (λ e. n (ap (λ (j : ℕ). j % 16) e)) ∙ home (b % 16) p there k n) home

  pub group-push : group_waits (slice_set ps (b % 16) q) ≡ added (group_waits ps) b (d ∷ [])
  group-push = fun_ext (λ k. elim (cases_eq k b) [
    | inl e ↦
        subst (λ (j : ℕ). group_waits (slice_set ps (b % 16) q) j ≡ group_waits ps j ++ (d ∷ [])) (sym e)
        (more-set ps (b % 16) p q b d there (λ i r l h. home i r h b (λ x. omega (arith, l, x))) (grown-same b refl))
        ∙ sym (cond-true (k == b) (group_waits ps k ++ (d ∷ [])) (group_waits ps k) (eq-eqb k b e))
    | inr n ↦
        other-set ps (b % 16) p q k there (grown-other k n)
        ∙ sym (cond-false (k == b) (group_waits ps k ++ (d ∷ [])) (group_waits ps k) (ne_eqb k b n))
  ])

-- one with the pairs that it had
module _ (ps : List Pairs) (g : ℕ) (p q : Pairs) (there : slice_get ps g ≡ Some p) (same : part_waits q ≡ part_waits p) where
  pub home-kept : AllHome ps → AllHome (slice_set ps g q)
  home-kept home = home_set ps g q (λ k n. (λ i. same i k) ∙ home g p there k n) home

  pub group-kept : group_waits (slice_set ps g q) ≡ group_waits ps
  group-kept = fun_ext (λ k. other-set ps g p q k there (λ i. same i k))

-- ---- the first of them

pub first_more : (ps : List Pairs) (n : ℕ) (p : Pairs) → slice_get ps n ≡ Some p → (b : ℕ) → group_waits (take (n + 1) ps) b ≡ group_waits (take n ps) b ++ part_waits p b
unfolding group_waits
first_more ps n p there b =
    ap (λ (qs : List Pairs). group_waits qs b) (take_more ps n p (slice_get_within ps n p there) ∙ ap (λ (q : Pairs). take n ps ++ (q ∷ [])) (is-there ps n p there))
    ∙ flat_map-append (λ (q : Pairs). part_waits q b) (take n ps) (p ∷ []) ∙ ap (λ (xs : List ℕ). group_waits (take n ps) b ++ xs) (append-nil (part_waits p b))

pub first_rest : (n : ℕ) (ps : List Pairs) (b : ℕ) → group_waits ps b ≡ group_waits (take n ps) b ++ group_waits (drop n ps) b
unfolding group_waits
first_rest n ps b = sym (ap (λ (qs : List Pairs). group_waits qs b) (take-append-drop n ps)) ∙ flat_map-append (λ (q : Pairs). part_waits q b) (take n ps) (drop n ps)

pub none_first : (ps : List Pairs) (b : ℕ) → group_waits (take 0 ps) b ≡ []
unfolding group_waits
none_first ps b = refl

part-short : (ps : List Pairs) (n : ℕ) (p : Pairs) → slice_get ps n ≡ Some p → (b : ℕ) → length (part_waits p b) ≤ length (group_waits ps b)
unfolding group_waits
part-short ps n p there b =
    omega (arith, length-flat_map (λ (q : Pairs). part_waits q b) ps, get_or-le-sum_by (λ (q : Pairs). length (part_waits q b)) ps n p (slice_get_within ps n p there), ap (λ (q : Pairs). length (part_waits q b)) (is-there ps n p there))

-- what one of them delivers is for buckets below those of all
pub part_inside : (ps : List Pairs) (n : ℕ) (p : Pairs) → slice_get ps n ≡ Some p → (buckets : ℕ) → Inside (group_waits ps) buckets → Inside (part_waits p) buckets
part_inside ps n p e buckets i b h = nil_from_length (part_waits p b) (omega (arith, part-short ps n p e b, ap length (i b h)))
