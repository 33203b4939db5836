-- A tiling's starts are exactly 0 and the ends of the ranges; two rising lists with the same members are the same.
use Rattle.std.proofs.Common.{◌≡◌, ℕ, zero, suc, ◌+◌, ◌<◌, ◌≤◌, List, length, get_or, sym, ap, ◌∙◌, subst, inl, inr, add-one, arith}
use Rattle.std.proofs.lemmas.List.{get_or_past, get_or_default, ext_get_or}
use Rattle.std.proofs.lemmas.List.Kept.{AllPairs-from_increasing}
use Rattle.std.proofs.lemmas.Bool.{cases_lt, cases_eq}
use Rattle.std.specs.List.Sorted.{IsStrictlyIncreasing}
use Rattle.buckets.specs.Tilings.{top, tile_end, StartsAt, Shape, Hole, Tiles, TilingDetermined}

-- a tile ends at a later start, or at the top
pub end_is : (xs : List ℕ) (k : ℕ) → k + 1 < length xs → tile_end xs k ≡ get_or xs (k + 1) 0
end_is xs k h = get_or_default xs (k + 1) top 0 h

pub end_top : (xs : List ℕ) (k : ℕ) → length xs ≤ k + 1 → tile_end xs k ≡ top
end_top xs k h = get_or_past xs (k + 1) top h

module _ (n : ℕ) (from to : ℕ → ℕ) (xs ys : List ℕ) (sx : Shape xs) (sy : Shape ys) (tx : Tiles n from to xs) (ty : Tiles n from to ys) where
  -- the start of a range is a start of the other tiling
  from-there : (i : ℕ) → i < n → StartsAt ys (from i)
  from-there i h = let r = ty.ranges i h in (r.0, (r.1.0, r.1.1.0))

  -- and so is its end, unless it is the top
  to-there : (i : ℕ) → i < n → to i < top → StartsAt ys (to i)
  to-there i h b =
      let r = ty.ranges i h in
      elim (cases_lt (r.0 + 1) (length ys)) [
        | inl l ↦ (r.0 + 1, (l, sym (end_is ys r.0 l) ∙ r.1.1.1))
        | inr g ↦ let e = sym (end_top ys r.0 g) ∙ r.1.1.1 in absurd (omega arith)
      ]

  -- every start is 0, the start of a range, or the end of one
  pub there : (k : ℕ) → k < length xs → StartsAt ys (get_or xs k 0)
  there zero h = (0, (sy.some, sy.zero ∙ sym sx.zero))
  there (suc k) h =
      let b = sx.below (suc k) h in
      let j : suc k ≡ k + 1 = sym (add-one k) in
      let h' : k + 1 < length xs = omega arith in
      elim (tx.others (suc k) h) [
        | inl r ↦ subst (StartsAt ys) (sym r.1.1.0) (from-there r.0 r.1.0)
        | inr hole ↦ elim (tx.others k (omega arith)) [
          | inl r ↦
              let e : to r.0 ≡ get_or xs (suc k) 0 = sym r.1.1.1 ∙ end_is xs k h' ∙ ap (λ (m : ℕ). get_or xs m 0) (sym j) in
              subst (StartsAt ys) e (to-there r.0 r.1.0 (omega arith))
          | inr hole' ↦ absurd (tx.apart k h' hole' (subst (λ (m : ℕ). Hole n from to xs m) j hole))
        ]
      ]

abbrev In : List ℕ → List ℕ → Type 0
In xs ys = (k : ℕ) → k < length xs → StartsAt ys (get_or xs k 0)

-- a value that stands at k in xs stands in ys no earlier than at k, since those before it stand in ys before it
not_early : (xs ys : List ℕ) → IsStrictlyIncreasing xs → IsStrictlyIncreasing ys → (xy : In xs ys) → (k : ℕ) → (s : k < length xs) → k ≤ (xy k s).0
not_early xs ys rx ry xy zero s = omega arith
not_early xs ys rx ry xy (suc k) s =
    let a : k < length xs = omega arith in
    let before = not_early xs ys rx ry xy k a in
    let p = xy k a in
    let q = xy (suc k) s in
    let less : get_or xs k 0 < get_or xs (suc k) 0 = AllPairs-from_increasing xs rx k (suc k) 0 (omega arith) s in
    elim (cases_lt p.0 q.0) [
      | inl l ↦ omega arith
      | inr g ↦ elim (cases_eq q.0 p.0) [
        | inl e ↦ let same : get_or ys q.0 0 ≡ get_or ys p.0 0 = ap (λ (m : ℕ). get_or ys m 0) e in absurd (omega (arith, same, p.1.1, q.1.1, less))
        | inr d ↦ let down = AllPairs-from_increasing ys ry q.0 p.0 0 (omega arith) p.1.0 in absurd (omega (arith, down, p.1.1, q.1.1, less))
      ]
    ]

-- in a rising list equal values stand at one place
pub one_place : (xs : List ℕ) → IsStrictlyIncreasing xs → (i j : ℕ) → i < length xs → j < length xs → get_or xs i 0 ≡ get_or xs j 0 → i ≡ j
one_place xs r i j a b e = elim (cases_lt i j) [
  | inl l ↦ let u = AllPairs-from_increasing xs r i j 0 l b in absurd (omega arith)
  | inr g ↦ elim (cases_eq i j) [
    | inl same ↦ same
    | inr d ↦ let u = AllPairs-from_increasing xs r j i 0 (omega arith) a in absurd (omega arith)
  ]
]

-- so the k-th of xs is the k-th of ys
at_same : (xs ys : List ℕ) → IsStrictlyIncreasing xs → IsStrictlyIncreasing ys → In xs ys → In ys xs → (k : ℕ) → k < length xs → (k < length ys) × (get_or xs k 0 ≡ get_or ys k 0)
at_same xs ys rx ry xy yx k h =
    let p = xy k h in
    let m = p.0 in
    let q = yx m p.1.0 in
    let back : q.0 ≡ k = one_place xs rx q.0 k q.1.0 h (q.1.1 ∙ p.1.1) in
    let e : m ≡ k = omega (arith, back, not_early xs ys rx ry xy k h, not_early ys xs ry rx yx m p.1.0) in
    (subst (λ (x : ℕ). x < length ys) e p.1.0, sym p.1.1 ∙ ap (λ (x : ℕ). get_or ys x 0) e)

-- no list is longer than the other
not_longer : (n m : ℕ) → ((k : ℕ) → k < n → k < m) → n ≤ m
not_longer zero m f = omega arith
not_longer (suc n) m f = let l = f n (omega arith) in omega arith

pub same_members : (xs ys : List ℕ) → IsStrictlyIncreasing xs → IsStrictlyIncreasing ys → In xs ys → In ys xs → xs ≡ ys
same_members xs ys rx ry xy yx =
    let a = not_longer (length xs) (length ys) (λ k h. (at_same xs ys rx ry xy yx k h).0) in
    let b = not_longer (length ys) (length xs) (λ k h. (at_same ys xs ry rx yx xy k h).0) in
    ext_get_or 0 xs ys (omega arith) (λ k h. (at_same xs ys rx ry xy yx k h).1)

pub determined : TilingDetermined
determined n from to xs ys sx sy tx ty =
    same_members xs ys sx.rises sy.rises (there n from to xs ys sx sy tx ty) (there n from to ys xs sy sx ty tx)
