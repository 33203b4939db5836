-- What a path is, and the order of paths: step by step, and a path comes before what extends it.
use Rattle.std.specs.Prelude.{◌≡◌, List, ◌∷◌, ◌++◌, take, ℤ}
use Rattle.std.specs.declared.cmp.Ordering.TheVariants.{Less, Equal}
use Rattle.std.specs.declared.cmp.Ordering.{Ordering}
use Rattle.std.specs.Cmp.Lexicographic.{slice_cmp}
use Rattle.std.specs.Ordering.{ordering_reverse, int_cmp}
use Rattle.records.specs.declared.path.Path.{Path}

-- the steps that a path has
abbrev pub steps_of : Path → List ℤ
steps_of p = take p.len p.steps

-- how two paths stand to each other, by std's lexicographic order
abbrev pub path_cmp : List ℤ → List ℤ → Ordering
path_cmp = slice_cmp int_cmp

-- the laws of the order: it is total, equal means the same steps, and a path comes before its extensions
pub record PathOrder : Type 0 where
  pub flips : (p q : List ℤ) → path_cmp p q ≡ ordering_reverse (path_cmp q p)
  pub chains : (p q r : List ℤ) → path_cmp p q ≡ Less → path_cmp q r ≡ Less → path_cmp p r ≡ Less
  pub same : (p q : List ℤ) → path_cmp p q ≡ Equal → p ≡ q
  pub itself : (p : List ℤ) → path_cmp p p ≡ Equal
  pub extends : (p : List ℤ) (s : ℤ) (r : List ℤ) → path_cmp p (p ++ (s ∷ r)) ≡ Less
