-- What the picked indices are: each lemma goes by the number of indices.
use Rattle.std.proofs.Common.{◌≡◌, ℕ, zero, suc, ◌<◌, Bool, true, false, ltb, Some, None, Option, ◌≢◌, sym, refl, ap, ◌∙◌, subst, inl, inr, arith, below_more}
use Rattle.std.proofs.lemmas.Bool.{cases_eq, cases_Bool, cond-true, cond-false, le-ltb, or_left, or_right, or_cases, or_parts, or_from, both_ways}
use Rattle.buckets.specs.Picks.{any_below, last_below, sooner, first_below}

-- what holds below n and at n holds below n + 1
below_suc : (P : ℕ → Type 0) (n : ℕ) → ((j : ℕ) → j < n → P j) → P n → (j : ℕ) → j < suc n → P j
below_suc P n f h j l = below_more P n f h j (omega arith)

-- the last index that passes is the one with none behind it
pub last_is : (p : ℕ → Bool) (n k : ℕ) → k < n → p k ≡ true → ((j : ℕ) → k < j → j < n → p j ≡ false) → last_below p n ≡ k
last_is p zero k h t f = absurd (omega arith)
last_is p (suc n) k h t f = elim (cases_eq k n) [
  | inl e ↦ cond-true (p n) n (last_below p n) (subst (λ (x : ℕ). p x ≡ true) e t) ∙ sym e
  | inr d ↦
      let l : k < n = omega arith in
      cond-false (p n) n (last_below p n) (f n l (omega arith)) ∙ last_is p n k l t (λ j a b. f j a (omega arith))
]

-- some index passes, or none
pub any_at : (p : ℕ → Bool) (n k : ℕ) → k < n → p k ≡ true → any_below p n ≡ true
any_at p zero k h t = absurd (omega arith)
any_at p (suc n) k h t = elim (cases_eq k n) [
  | inl e ↦ or_left (p n) (any_below p n) (subst (λ (x : ℕ). p x ≡ true) e t)
  | inr d ↦ or_right (p n) (any_below p n) (any_at p n k (omega arith) t)
]

pub any_none : (p : ℕ → Bool) (n : ℕ) → ((j : ℕ) → j < n → p j ≡ false) → any_below p n ≡ false
any_none p zero f = refl
any_none p (suc n) f = or_from (p n) (any_below p n) (f n (omega arith)) (any_none p n (λ j h. f j (omega arith)))

pub some_any : (p : ℕ → Bool) (n : ℕ) → any_below p n ≡ true → (k : ℕ) × ((k < n) × (p k ≡ true))
some_any p zero t = absurd (both_ways false refl t)
some_any p (suc n) t = elim (or_cases (p n) (any_below p n) t) [
  | inl e ↦ (n, (omega arith, e))
  | inr e ↦ let r = some_any p n e in (r.0, (omega (arith, r.1.0), r.1.1))
]

pub none_any : (p : ℕ → Bool) (n : ℕ) → any_below p n ≡ false → (j : ℕ) → j < n → p j ≡ false
none_any p zero f j h = absurd (omega arith)
none_any p (suc n) f j h = let both = or_parts (p n) (any_below p n) f in below_suc (λ j. p j ≡ false) n (none_any p n both.1) both.0 j h

-- the first that passes
module _ (p : ℕ → Bool) (before : ℕ → ℕ → Bool) where
  pub taken : (n : ℕ) → p n ≡ true → first_below p before (suc n) ≡ Some (sooner before n (first_below p before n))
  taken n t = cond-true (p n) (Some (sooner before n (first_below p before n))) (first_below p before n) t

  pub passed : (n : ℕ) → p n ≡ false → first_below p before (suc n) ≡ first_below p before n
  passed n f = cond-false (p n) (Some (sooner before n (first_below p before n))) (first_below p before n) f

  pub first-none : (n : ℕ) → ((j : ℕ) → j < n → p j ≡ false) → first_below p before n ≡ None
  first-none zero f = refl
  first-none (suc n) f = passed n (f n (omega arith)) ∙ first-none n (λ j h. f j (omega arith))

  pub none_first : (n : ℕ) → first_below p before n ≡ None → (j : ℕ) → j < n → p j ≡ false
  none_first zero e j h = absurd (omega arith)
  none_first (suc n) e j h = elim (cases_Bool (p n)) [
    | inl t ↦ let e' = sym (taken n t) ∙ e in absurd cc
    | inr f ↦ below_suc (λ j. p j ≡ false) n (none_first n (sym (passed n f) ∙ e)) f j h
  ]

  -- it passes, and where `before` is transitive none that passes comes before it
  pub record First (n k : ℕ) : Type 0 where
    pub there : k < n
    pub passes : p k ≡ true
    pub first : ((x y z : ℕ) → before x y ≡ true → before y z ≡ true → before x z ≡ true) → ((x : ℕ) → before x x ≡ false) → (j : ℕ) → j < n → p j ≡ true → before j k ≡ false

  first_step : (n : ℕ) → p n ≡ true → (o : Option ℕ) → first_below p before n ≡ o → ((k : ℕ) → o ≡ Some k → First n k) → First (suc n) (sooner before n o)
  first_step n t None e ih = record {
    there = omega arith;
    passes = t;
    first = λ trans irr. below_suc (λ j. p j ≡ true → before j n ≡ false) n (λ j h tj. absurd (both_ways (p j) (none_first n e j h) tj)) (λ _. irr n);
  }
  first_step n t (Some k) e ih = let f = ih k refl in elim (cases_Bool (before n k)) [
    | inl b ↦ subst (First (suc n)) (sym (cond-true (before n k) n k b)) record {
      there = omega arith;
      passes = t;
      first = λ trans irr. below_suc (λ j. p j ≡ true → before j n ≡ false) n
          (λ j h tj. elim (cases_Bool (before j n)) [ inr no_one ↦ no_one | inl yes-one ↦ absurd (both_ways (before j k) (f.first trans irr j h tj) (trans j n k yes-one b)) ])
          (λ _. irr n);
    }
    | inr b ↦ subst (First (suc n)) (sym (cond-false (before n k) n k b)) record {
      there = omega (arith, f.there);
      passes = f.passes;
      first = λ trans irr. below_suc (λ j. p j ≡ true → before j k ≡ false) n (f.first trans irr) (λ _. b);
    }
  ]

  pub some_first : (n k : ℕ) → first_below p before n ≡ Some k → First n k
  some_first zero k e = absurd cc
  some_first (suc n) k e = elim (cases_Bool (p n)) [
    | inl t ↦
        let same : sooner before n (first_below p before n) ≡ k = let e' = sym (taken n t) ∙ e in cc in
        subst (First (suc n)) same (first_step n t (first_below p before n) refl (some_first n))
    | inr f ↦
        let r = some_first n k (sym (passed n f) ∙ e) in
        record {
          there = omega (arith, r.there);
          passes = r.passes;
          first = λ trans irr. below_suc (λ j. p j ≡ true → before j k ≡ false) n (r.first trans irr) (λ t. absurd (both_ways (p n) f t));
        }
  ]

  -- in an order of all indices, only one
  pub first_only : ((x y z : ℕ) → before x y ≡ true → before y z ≡ true → before x z ≡ true) → ((x : ℕ) → before x x ≡ false) → ((x y : ℕ) → x ≢ y → before x y ≡ false → before y x ≡ true) → (n k : ℕ) → k < n → p k ≡ true → ((j : ℕ) → j < n → p j ≡ true → before j k ≡ false) → first_below p before n ≡ Some k
  first_only trans irr total n k h t f = go (first_below p before n) refl
    where
      go : (o : Option ℕ) → first_below p before n ≡ o → first_below p before n ≡ Some k
      go None e = absurd (both_ways (p k) (none_first n e k h) t)
      go (Some m) e = let r = some_first n m e in elim (cases_eq m k) [
        | inl same ↦ e ∙ ap Some same
        | inr d ↦ absurd (both_ways (before k m) (r.first trans irr k h t) (total m k d (f m r.there r.passes)))
      ]

-- by index, the first that passes is the one with none before it
pub first_at : (p : ℕ → Bool) (n k : ℕ) → k < n → p k ≡ true → ((j : ℕ) → j < k → p j ≡ false) → first_below p ltb n ≡ Some k
first_at p zero k h t f = absurd (omega arith)
first_at p (suc n) k h t f = elim (cases_eq k n) [
  | inl e ↦
      taken p ltb n (subst (λ (x : ℕ). p x ≡ true) e t) ∙ ap (λ o. Some (sooner ltb n o)) (first-none p ltb n (λ j l. f j (omega arith))) ∙ ap Some (sym e)
  | inr d ↦
      let ih = first_at p n k (omega arith) t f in
      elim (cases_Bool (p n)) [
        | inl tn ↦ taken p ltb n tn ∙ ap (λ o. Some (sooner ltb n o)) ih ∙ ap Some (cond-false (ltb n k) n k (le-ltb n k (omega arith)))
        | inr fn ↦ passed p ltb n fn ∙ ih
      ]
]
