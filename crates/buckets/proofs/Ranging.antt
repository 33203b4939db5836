-- What accepted and refused ranges are, from the definition of their refusal.
use Rattle.std.proofs.Common.{◌≡◌, ℕ, ◌<◌, ◌≤◌, Bool, true, false, ◌&&◌, ◌||◌, eqb, ltb, leb, nat_cmp, ◌≢◌, List, length, get_or, Some, None, Option, refl, inl, inr, arith}
use Rattle.std.proofs.lemmas.Bool.{cases_lt, cases_Bool, and_parts, or_parts, lt-ltb, le-ltb, ltb-true, leb-false, and_from, both_ways}
use Rattle.std.proofs.lemmas.Bool.Decides.{nat_tests}
use Rattle.std.specs.Option.{option_or, option_map}
use Rattle.std.specs.Bool.{then_some}
use Rattle.std.specs.Ordering.{is_lt, ordering_then}
use Rattle.records.specs.declared.column_type.ColumnType.{ColumnType}
use Rattle.records.specs.declared.fault.Refusal.TheVariants.{NoRange, TooManyRanges, BadRange, OverlappingRanges}
use Rattle.buckets.specs.Ranges.{end_of, start_of, from_at, to_at, no_number, bad, open_range, earlier, late, first_bad, first_late, fault, range_fault, Accepted, OverlapAt}
use Rattle.buckets.specs.declared.range.RangeAggregationRange.{RangeAggregationRange}
use Rattle.buckets.proofs.Picking.{none_first, none_any, some_any, some_first}

-- ---- the order by start and then by index
abbrev pub pair_before : ℕ → ℕ → ℕ → ℕ → Bool
pair_before a i b j = ltb a b || (eqb a b && ltb i j)

pub pair_trans : (a i b j c k : ℕ) → pair_before a i b j ≡ true → pair_before b j c k ≡ true → pair_before a i c k ≡ true
pair_trans a i b j c k h g = grind (arith, nat_tests)

pub pair_irr : (a i : ℕ) → pair_before a i a i ≡ false
pair_irr a i = grind (arith, nat_tests)

pub pair_total : (a i b j : ℕ) → i ≢ j → pair_before a i b j ≡ false → pair_before b j a i ≡ true
pair_total a i b j d f = grind (arith, nat_tests)

-- it is the order of the pairs
pub pair-less : (a i b j : ℕ) → is_lt (ordering_then (nat_cmp a b) (nat_cmp i j)) ≡ pair_before a i b j
pair-less a i b j = grind (arith, nat_tests)

-- ---- none of several
none_of : {A : Type 0} (a b : Option A) → option_or a b ≡ None → (a ≡ None) × (b ≡ None)
none_of None b e = (refl, e)
none_of (Some x) b e = absurd cc

not_when : {A : Type 0} (b : Bool) (x : A) → then_some b x ≡ None → b ≡ false
not_when true x e = absurd cc
not_when false x e = refl

not_mapped : {A B : Type 0} (f : A → B) (o : Option A) → option_map f o ≡ None → o ≡ None
not_mapped f None e = refl
not_mapped f (Some x) e = absurd cc

module _ (t : ColumnType) (rs : List RangeAggregationRange) where
  good : first_bad t rs ≡ None → (i : ℕ) → i < length rs → (no_number (get_or rs i open_range).from ≡ false) × ((no_number (get_or rs i open_range).to ≡ false) × (from_at t rs i < to_at t rs i))
  good e i h =
      let r = get_or rs i open_range in
      let p = or_parts (no_number r.from) (no_number r.to || leb (end_of t r) (start_of t r)) (none_first (λ k. bad t (get_or rs k open_range)) ltb (length rs) e i h) in
      let q = or_parts (no_number r.to) (leb (end_of t r) (start_of t r)) p.1 in
      (p.0, (q.0, leb-false (end_of t r) (start_of t r) q.1))

  -- where none is late, the one that comes before has ended where the other starts
  in-turn : first_late t rs ≡ None → (i j : ℕ) → i < length rs → j < length rs → earlier t rs i j ≡ true → to_at t rs i ≤ from_at t rs j
  in-turn e i j hi hj b =
      let on-time : late t rs j ≡ false = none_first (late t rs) (earlier t rs) (length rs) e j hj in
      let f = none_any (λ k. earlier t rs k j && ltb (from_at t rs j) (to_at t rs k)) (length rs) on-time i hi in
      elim (cases_lt (from_at t rs j) (to_at t rs i)) [
        | inr g ↦ g
        | inl l ↦ absurd (both_ways (earlier t rs i j && ltb (from_at t rs j) (to_at t rs i)) f (and_from (earlier t rs i j) (ltb (from_at t rs j) (to_at t rs i)) b (lt-ltb (from_at t rs j) (to_at t rs i) l)))
      ]

  pub accepted : (level : ℕ) → range_fault level t rs ≡ None → Accepted t rs
  accepted level e =
      let a = none_of (then_some (eqb (length rs) 0) (fault NoRange level 0)) _ e in
      let b = none_of (then_some (ltb 16 (length rs)) (fault TooManyRanges level 0)) _ a.1 in
      let c = none_of (option_map (fault BadRange level) (first_bad t rs)) (option_map (fault OverlappingRanges level) (first_late t rs)) b.1 in
      let no-bad = not_mapped (fault BadRange level) (first_bad t rs) c.0 in
      let no-late = not_mapped (fault OverlappingRanges level) (first_late t rs) c.1 in
      let some = not_when (eqb (length rs) 0) (fault NoRange level 0) a.0 in
      let few = not_when (ltb 16 (length rs)) (fault TooManyRanges level 0) b.0 in
      record {
        some = grind (arith, nat_tests);
        few = grind (arith, nat_tests);
        numbers = λ i h. let g = good no-bad i h in (g.0, g.1.0);
        runs = λ i h. (good no-bad i h).1.1;
        apart = λ i j hi hj d. elim (cases_Bool (earlier t rs i j)) [
          | inl b ↦ inl (in-turn no-late i j hi hj b)
          | inr f ↦ inr (in-turn no-late j i hj hi (pair_total (from_at t rs i) i (from_at t rs j) j d f))
        ];
      }

  pub overlap : (j : ℕ) → first_late t rs ≡ Some j → OverlapAt t rs j
  overlap j e =
      let f = some_first (late t rs) (earlier t rs) (length rs) j e in
      let s = some_any (λ k. earlier t rs k j && ltb (from_at t rs j) (to_at t rs k)) (length rs) f.passes in
      let both = and_parts (earlier t rs s.0 j) (ltb (from_at t rs j) (to_at t rs s.0)) s.1.1 in
      record {
        there = f.there;
        overlaps = (s.0, (s.1.0, (both.0, ltb-true (from_at t rs j) (to_at t rs s.0) both.1)));
        first = f.first (λ x y z. pair_trans (from_at t rs x) x (from_at t rs y) y (from_at t rs z) z) (λ x. pair_irr (from_at t rs x) x);
      }

  -- ranges that are some, few and not bad are refused only for an overlap
  pub only-overlap : (level : ℕ) → eqb (length rs) 0 ≡ false → length rs ≤ 16 → first_bad t rs ≡ None → range_fault level t rs ≡ option_map (fault OverlappingRanges level) (first_late t rs)
  only-overlap level some few e =
      (λ i. option_or (then_some (some i) (fault NoRange level 0))
      (option_or (then_some (le-ltb 16 (length rs) few i) (fault TooManyRanges level 0))
      (option_or (option_map (fault BadRange level) (e i)) (option_map (fault OverlappingRanges level) (first_late t rs)))))
