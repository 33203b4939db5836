-- The laws of the order of paths, from those of std's lexicographic order.
use Rattle.std.proofs.Common.{◌≡◌, List, [], ◌∷◌, ◌++◌, ℤ, Ordering, Less, Equal, Greater, refl, ap, ◌∙◌}
use Rattle.std.specs.Ordering.{ordering_reverse, ordering_then, is_eq, int_cmp}
use Rattle.std.specs.Cmp.{int_cmp_total, signed_Decides}
use Rattle.std.specs.Cmp.Lexicographic.{slice_cmp, lists_total}
use Rattle.records.specs.Paths.{path_cmp, PathOrder}

own : (o : Ordering) → o ≡ ordering_reverse o → o ≡ Equal
own Less h = cc
own Equal h = refl
own Greater h = cc

first_equal : (a b : Ordering) → ordering_then a b ≡ Equal → (a ≡ Equal) × (b ≡ Equal)
first_equal Less b h = (h, cc)
first_equal Equal b h = (refl, h)
first_equal Greater b h = (h, cc)

pub cmp_same : (p q : List ℤ) → path_cmp p q ≡ Equal → p ≡ q
cmp_same [] [] h = refl
cmp_same [] (y ∷ ys) h = cc
cmp_same (x ∷ xs) [] h = cc
cmp_same (x ∷ xs) (y ∷ ys) h =
    let both = first_equal (int_cmp x y) (slice_cmp int_cmp xs ys) h in
    let e : x ≡ y = (signed_Decides x y).0 (ap is_eq both.0) in
    let t : xs ≡ ys = cmp_same xs ys both.1 in
    cc

pub cmp_extends : (p : List ℤ) (s : ℤ) (r : List ℤ) → path_cmp p (p ++ (s ∷ r)) ≡ Less
cmp_extends [] s r = refl
cmp_extends (x ∷ xs) s r =
    ap (λ o. ordering_then o (slice_cmp int_cmp xs (xs ++ (s ∷ r)))) (own (int_cmp x x) (int_cmp_total.antisymm x x)) ∙ cmp_extends xs s r

pub path_order : PathOrder
path_order = record {
  flips = (lists_total int_cmp_total).antisymm;
  chains = (lists_total int_cmp_total).trans;
  same = cmp_same;
  itself = λ p. own (slice_cmp int_cmp p p) ((lists_total int_cmp_total).antisymm p p);
  extends = cmp_extends;
}
