-- The tiling of ranges from its starts: 0, the ranges' starts, and their ends below the top.
use Rattle.std.proofs.Common.{◌≡◌, ℕ, ◌+◌, ◌<◌, ◌≤◌, eqb, ◌≢◌, ◌⊎◌, List, length, get_or, sym, refl, ap, ◌∙◌, subst, inl, inr, arith}
use Rattle.std.proofs.lemmas.List.Kept.{AllPairs-from_increasing}
use Rattle.std.proofs.lemmas.Bool.{cases_lt, cases_eq, cases_Bool, eqb-true, eqb-false}
use Rattle.buckets.specs.Picks.{any_below}
use Rattle.buckets.specs.Tilings.{top, tile_end, StartsAt, WithStart, Shape, TileIs, Hole, Tiles}
use Rattle.buckets.proofs.Determined.{end_is, end_top}
use Rattle.buckets.proofs.Picking.{some_any, none_any}

-- y is the start or the end of one of the first i ranges
abbrev pub Bound : (ℕ → ℕ) → (ℕ → ℕ) → ℕ → ℕ → Type 0
Bound from to i y = (k : ℕ) × ((k < i) × ((y ≡ from k) ⊎ (y ≡ to k)))

-- xs has 0 and the bounds of the first i of n ranges, and nothing else
pub record Bounded (n : ℕ) (from to : ℕ → ℕ) (i : ℕ) (xs : List ℕ) : Type 0 where
  pub size : length xs ≤ i + i + 1
  pub known : (y : ℕ) → StartsAt xs y → (y ≡ 0) ⊎ Bound from to i y
  pub bounds : n ≤ 16 → (y : ℕ) → y < top → Bound from to i y → StartsAt xs y
  pub fits : (k : ℕ) → k < i → to k ≤ top

module _ (n : ℕ) (from to : ℕ → ℕ) where
  wider : (i y : ℕ) → Bound from to i y → Bound from to (i + 1) y
  wider i y b = (b.0, (omega (arith, b.1.0), b.1.1))

  -- one range more
  pub bounded-more : (i : ℕ) (xs ys zs : List ℕ) → i < n → to i ≤ top → Bounded n from to i xs → WithStart xs (from i) ys → WithStart ys (to i) zs → Bounded n from to (i + 1) zs
  bounded-more i xs ys zs h fit b w v = record {
    size = omega (arith, b.size, w.size, v.size);
    known = λ y s. elim (v.no_more y s) [
      | inr e ↦ inr (i, (omega arith, inr e))
      | inl s' ↦ elim (w.no_more y s') [
        | inr e ↦ inr (i, (omega arith, inl e))
        | inl s'' ↦ elim (b.known y s'') [ inl z ↦ inl z | inr k ↦ inr (wider i y k) ]
      ]
    ];
    bounds = λ few y low k. elim (cases_eq k.0 i) [
      | inr d ↦ v.kept y (w.kept y (b.bounds few y low (k.0, (omega (arith, k.1.0), k.1.1))))
      | inl e ↦ elim k.1.1 [
        | inl a ↦
            let a' : y ≡ from i = a ∙ ap from e in
            v.kept y (subst (StartsAt ys) (sym a') (w.added (omega arith) (omega (arith, b.size))))
        | inr a ↦
            let a' : y ≡ to i = a ∙ ap to e in
            subst (StartsAt zs) (sym a') (v.added (omega arith) (omega (arith, b.size, w.size)))
      ]
    ];
    fits = λ k l. elim (cases_eq k i) [ inl e ↦ subst (λ (x : ℕ). to x ≤ top) (sym e) fit | inr d ↦ b.fits k (omega arith) ];
  }

-- ranges that run and are apart
module _ (n : ℕ) (from to : ℕ → ℕ) (xs : List ℕ) (s : Shape xs) (few : n ≤ 16) (b : Bounded n from to n xs)
    (runs : (i : ℕ) → i < n → from i < to i)
    (apart : (i j : ℕ) → i < n → j < n → i ≢ j → (to i ≤ from j) ⊎ (to j ≤ from i)) where
  up : (i j : ℕ) → i < j → j < length xs → get_or xs i 0 < get_or xs j 0
  up i j = AllPairs-from_increasing xs s.rises i j 0

  up_to : (i j : ℕ) → i ≤ j → j < length xs → get_or xs i 0 ≤ get_or xs j 0
  up_to i j l h = elim (cases_eq i j) [
    | inl e ↦ let same : get_or xs i 0 ≡ get_or xs j 0 = ap (λ (m : ℕ). get_or xs m 0) e in omega arith
    | inr d ↦ let u = up i j (omega arith) h in omega arith
  ]

  -- no start lies within a range
  none_within : (i y : ℕ) → i < n → StartsAt xs y → from i < y → y < to i → ⊥
  none_within i y h st low high = elim (b.known y st) [
    | inl z ↦ omega arith
    | inr k ↦
        let j = k.0 in
        let r = runs i h in
        let q = runs j k.1.0 in
        elim (cases_eq i j) [
          | inl e ↦
              let f : from i ≡ from j = ap from e in
              let g : to i ≡ to j = ap to e in
              elim k.1.1 [ inl a ↦ omega (arith, a, f) | inr a ↦ omega (arith, a, g) ]
          | inr d ↦ elim (apart i j h k.1.0 d) [
            | inl x ↦ elim k.1.1 [ inl a ↦ omega (arith, a) | inr a ↦ omega (arith, a) ]
            | inr x ↦ elim k.1.1 [ inl a ↦ omega (arith, a) | inr a ↦ omega (arith, a) ]
          ]
        ]
  ]

  -- the tile that starts where a range does ends no earlier
  end-high : (i k : ℕ) → i < n → k < length xs → get_or xs k 0 ≡ from i → to i ≤ tile_end xs k
  end-high i k h kl e = elim (cases_lt (k + 1) (length xs)) [
    | inr g ↦ let t = end_top xs k g in let fit = b.fits i h in omega arith
    | inl l ↦ let t = end_is xs k l in let rise = s.rises k l in elim (cases_lt (get_or xs (k + 1) 0) (to i)) [
      | inr g ↦ omega arith
      | inl g ↦ absurd (none_within i (get_or xs (k + 1) 0) h (k + 1, (l, refl)) (omega arith) g)
    ]
  ]

  -- and no later
  end_low : (i k m : ℕ) → i < n → k < length xs → get_or xs k 0 ≡ from i → m < length xs → get_or xs m 0 ≡ to i → tile_end xs k ≤ to i
  end_low i k m h kl e ml em =
      let r = runs i h in
      elim (cases_lt k m) [
        | inl l ↦ let l' : k + 1 < length xs = omega arith in let t = end_is xs k l' in let u = up_to (k + 1) m (omega arith) ml in omega arith
        | inr g ↦ let u = up_to m k g kl in absurd (omega arith)
      ]

  end_same : (i k : ℕ) → i < n → k < length xs → get_or xs k 0 ≡ from i → tile_end xs k ≡ to i
  end_same i k h kl e =
      let high = end-high i k h kl e in
      elim (cases_lt (to i) top) [
        | inl l ↦ let m = b.bounds few (to i) l (i, (h, inr refl)) in let low = end_low i k m.0 h kl e m.1.0 m.1.1 in omega (arith, high, low)
        | inr g ↦ let low : tile_end xs k ≤ top = end-most k kl in omega arith
      ]
    where
      end-most : (k : ℕ) → k < length xs → tile_end xs k ≤ top
      end-most k kl = elim (cases_lt (k + 1) (length xs)) [
        | inr g ↦ let t = end_top xs k g in omega arith
        | inl l ↦ let t = end_is xs k l in let bel = s.below (k + 1) l in omega arith
      ]

  -- each range is one tile
  pub range-tile : (i : ℕ) → i < n → (k : ℕ) × ((k < length xs) × TileIs xs k (from i) (to i))
  range-tile i h =
      let r = runs i h in
      let fit = b.fits i h in
      let f = b.bounds few (from i) (omega arith) (i, (h, inl refl)) in
      (f.0, (f.1.0, (f.1.1, end_same i f.0 h f.1.0 f.1.1)))

  -- a tile where no range starts meets no range
  pub hole : (k : ℕ) → k < length xs → ((i : ℕ) → i < n → from i ≡ get_or xs k 0 → ⊥) → Hole n from to xs k
  hole k h none i l = go (range-tile i l).0 (range-tile i l).1.0 (range-tile i l).1.1.0 (range-tile i l).1.1.1
    where
      go : (m : ℕ) → m < length xs → get_or xs m 0 ≡ from i → tile_end xs m ≡ to i → (to i ≤ get_or xs k 0) ⊎ (tile_end xs k ≤ from i)
      go m ml e f = elim (cases_lt m k) [
        | inl lt ↦
            let t = end_is xs m (omega arith) in
            let u = up_to (m + 1) k (omega arith) h in
            inl (omega arith)
        | inr ge ↦ elim (cases_eq k m) [
          | inl same ↦ absurd (none i l (sym (ap (λ (x : ℕ). get_or xs x 0) same ∙ e)))
          | inr d ↦
              let t = end_is xs k (omega arith) in
              let u = up_to (k + 1) m (omega arith) ml in
              inr (omega arith)
        ]
      ]

  pub others : (k : ℕ) → k < length xs → ((i : ℕ) × ((i < n) × TileIs xs k (from i) (to i))) ⊎ Hole n from to xs k
  others k h = elim (cases_Bool (any_below (λ i. eqb (from i) (get_or xs k 0)) n)) [
    | inl t ↦
        let f = some_any (λ i. eqb (from i) (get_or xs k 0)) n t in
        let e = sym (eqb-true (from f.0) (get_or xs k 0) f.1.1) in
        inl (f.0, (f.1.0, (e, end_same f.0 k f.1.0 h e)))
    | inr t ↦ inr (hole k h (λ i l e. eqb-false (from i) (get_or xs k 0) (none_any (λ i. eqb (from i) (get_or xs k 0)) n t i l) e))
  ]

  -- where two tiles meet, a range starts or ends
  pub apart-holes : (k : ℕ) → k + 1 < length xs → Hole n from to xs k → Hole n from to xs (k + 1) → ⊥
  apart-holes k h hole-k hole-next =
      let rise = s.rises k h in
      let t = end_is xs k h in
      elim (b.known (get_or xs (k + 1) 0) (k + 1, (h, refl))) [
        | inl z ↦ omega arith
        | inr y ↦ let i = y.0 in let l = y.1.0 in let r = runs i l in elim y.1.1 [
          | inl e ↦
              let end = end_same i (k + 1) l h e in
              elim (hole-next i l) [ inl q ↦ omega arith | inr q ↦ omega arith ]
          | inr e ↦ elim (hole-k i l) [
            | inl q ↦ omega arith
            | inr q ↦ omega arith
          ]
        ]
      ]

  pub tiled : Tiles n from to xs
  tiled = record { ranges = range-tile; others = others; apart = apart-holes }
