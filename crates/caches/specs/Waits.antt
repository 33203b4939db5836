-- Pairs behind others.
use Rattle.std.specs.Prelude.{◌≡◌, ℕ, suc, ◌+◌, ◌<◌, ◌≤◌, Bool, true, false, cond, List, [], ◌∷◌, ◌++◌, length, take, ◌==◌, ◌≢◌, slice_index, slice_index_or, slice_set, refl}
use Rattle.std.proofs.Common.{sym, ap, ◌∙◌, inl, inr, arith}
use Rattle.std.proofs.Math.Path.{fun_ext}
use Rattle.std.proofs.lemmas.List.{append-nil, take_more_set, length-take, get_or-take, get_or-set_same, get_or-set_other}
use Rattle.std.proofs.lemmas.Bool.{cases_eq, cond-true, cond-false, eq-eqb, ne_eqb}
use Rattle.stack.specs.Overruns.{added}
use Rattle.stack.specs.Calls.{docs_for, Waits}
use Rattle.caches.specs.Waiting.{waits_in, Low}

-- pairs behind pairs
pub docs_append : (k : ℕ) (bs cs ds es : List ℕ) → length bs ≡ length ds → docs_for k (bs ++ cs) (ds ++ es) ≡ docs_for k bs ds ++ docs_for k cs es
docs_append k [] cs [] es e = refl
docs_append k [] cs (d ∷ ds) es e = absurd (let z : ⊥ = omega arith in z)
docs_append k (b ∷ bs) cs [] es e = absurd (let z : ⊥ = omega arith in z)
docs_append k (b ∷ bs) cs (d ∷ ds) es e = go (b == k) (docs_append k bs cs ds es (omega arith))
  where
    go : (t : Bool) → docs_for k (bs ++ cs) (ds ++ es) ≡ docs_for k bs ds ++ docs_for k cs es → cond t (d ∷ docs_for k (bs ++ cs) (ds ++ es)) (docs_for k (bs ++ cs) (ds ++ es)) ≡ cond t (d ∷ docs_for k bs ds) (docs_for k bs ds) ++ docs_for k cs es
    go true ih = ap (λ (xs : List ℕ). d ∷ xs) ih
    go false ih = ih

-- one pair behind
pub docs_push : (k b d : ℕ) (bs ds : List ℕ) → length bs ≡ length ds → docs_for k (bs ++ (b ∷ [])) (ds ++ (d ∷ [])) ≡ cond (k == b) (docs_for k bs ds ++ (d ∷ [])) (docs_for k bs ds)
docs_push k b d bs ds e = docs_append k bs (b ∷ []) ds (d ∷ []) e ∙ elim (cases_eq k b) [
  | inl h ↦
      ap (λ (xs : List ℕ). docs_for k bs ds ++ xs) (cond-true (b == k) (d ∷ []) [] (eq-eqb b k (sym h)))
      ∙ sym (cond-true (k == b) (docs_for k bs ds ++ (d ∷ [])) (docs_for k bs ds) (eq-eqb k b h))
  | inr n ↦
      ap (λ (xs : List ℕ). docs_for k bs ds ++ xs) (cond-false (b == k) (d ∷ []) [] (ne_eqb b k (λ h. n (sym h))))
      ∙ append-nil (docs_for k bs ds)
      ∙ sym (cond-false (k == b) (docs_for k bs ds ++ (d ∷ [])) (docs_for k bs ds) (ne_eqb k b n))
]

-- a pair written behind the first ones
pub waits_push : (bs ds : List ℕ) (len b d : ℕ) → len < length bs → len < length ds → waits_in (slice_set bs len b) (slice_set ds len d) (len + 1) ≡ added (waits_in bs ds len) b (d ∷ [])
waits_push bs ds len b d hb hd = fun_ext (λ k.
    (λ i. docs_for k (take_more_set bs len b hb i) (take_more_set ds len d hd i))
    ∙ docs_push k b d (take len bs) (take len ds) (omega (arith, length-take len bs, length-take len ds)))

-- a bucket that is not named
pub docs_absent : (bs ds : List ℕ) (b : ℕ) → ((k : ℕ) → k < length bs → slice_index bs k ≢ b) → docs_for b bs ds ≡ []
docs_absent [] ds b no_one = refl
docs_absent (k ∷ ks) [] b no_one = refl
docs_absent (k ∷ ks) (d ∷ ds) b no_one =
    cond-false (k == b) (d ∷ docs_for b ks ds) (docs_for b ks ds) (ne_eqb k b (no_one 0 (omega arith)))
    ∙ docs_absent ks ds b (λ j l. no_one (suc j) (omega arith))

-- no pair of a bucket from 512 on
pub waits_low : (bs ds : List ℕ) (b : ℕ) → ((k : ℕ) → k < length bs → slice_index bs k < 512) → 512 ≤ b → docs_for b bs ds ≡ []
waits_low bs ds b low h = docs_absent bs ds b (λ k l e. omega (arith, low k l))

pub low_take : (bs : List ℕ) (len : ℕ) → Low bs len → Low (take len bs) (length (take len bs))
low_take bs len low k h =
    let l : k < len = omega (arith, h, length-take len bs) in
    let e : slice_index_or (take len bs) k 0 ≡ slice_index_or bs k 0 = get_or-take len bs k 0 l in
    omega (arith, e, low k l)

-- these pairs are the list that waits
pub waits_record : (bs ds : List ℕ) (len : ℕ) → length bs ≡ 2048 → length ds ≡ 2048 → len ≤ 2048 → Low bs len → Waits (waits_in bs ds len) len
waits_record bs ds len lb ld few low = record {
  buckets = take len bs;
  docs = take len ds;
  paired = omega (arith, length-take len bs, length-take len ds);
  count = omega (arith, length-take len ds);
  few = few;
  parts = λ b. refl;
  inside = λ b. waits_low (take len bs) (take len ds) b (low_take bs len low);
}
