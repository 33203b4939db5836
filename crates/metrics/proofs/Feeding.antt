-- Feeding many values: one list after another, and apart and then joined.
use Rattle.std.proofs.Common.{◌≡◌, ℕ, List, [], ◌∷◌, ◌++◌, sym, refl, ap, ◌∙◌}
use Rattle.records.specs.declared.column_type.ColumnType.{ColumnType}
use Rattle.metrics.specs.Tallies.{Exactly, ExactBelow, fed_all}
use Rattle.metrics.proofs.Ties.{merged_below}

module _ {W : Type 0} (fed : ColumnType → ℕ → W → W) (t : ColumnType) where
  -- one list after another: by recursion on the first
  pub fed-more : (xs ys : List ℕ) (w : W) → fed_all fed t (xs ++ ys) w ≡ fed_all fed t ys (fed_all fed t xs w)
  fed-more [] ys w = refl
  fed-more (x ∷ xs) ys w = fed-more xs ys (fed t x w)

  module _ {nothing : W} {joined : W → W → W} (l : Exactly nothing fed joined) where
    -- feeding on is joining what an empty tally is worth fed the same: by recursion, one value at a time
    pub fed-on : (xs : List ℕ) (w : W) → fed_all fed t xs w ≡ joined w (fed_all fed t xs nothing)
    fed-on [] w = sym (l.comm w nothing ∙ l.neutral w)
    fed-on (x ∷ xs) w =
        fed-on xs (fed t x w)
        ∙ ap (λ y. joined y (fed_all fed t xs nothing)) (l.feeding t x w)
        ∙ l.assoc w (fed t x nothing) (fed_all fed t xs nothing)
        ∙ sym (ap (joined w) (fed-on xs (fed t x nothing)))

    pub fed-joins : (xs ys : List ℕ) → fed_all fed t (xs ++ ys) nothing ≡ joined (fed_all fed t xs nothing) (fed_all fed t ys nothing)
    fed-joins xs ys = fed-more xs ys nothing ∙ fed-on ys (fed_all fed t xs nothing)

-- tallies fed apart and merged are worth one fed both lists: the worths of the two are joined
pub fed_apart : {S V U : Type 0} {worth : S → V} {nothing : V} {fed : ColumnType → ℕ → V → V} {j-worth : S → U} {j-joined : U → U → U} (b : ExactBelow worth nothing fed j-worth j-joined) (t : ColumnType) (xs ys : List ℕ) (x₀ y₀ x y r : S) → worth x₀ ≡ nothing → worth y₀ ≡ nothing → worth x ≡ fed_all fed t xs (worth x₀) → worth y ≡ fed_all fed t ys (worth y₀) → j-worth r ≡ j-joined (j-worth x) (j-worth y) → (worth r ≡ fed_all fed t (xs ++ ys) nothing) × (worth r ≡ fed_all fed t (ys ++ xs) nothing)
fed_apart {worth = worth} {nothing = nothing} {fed = fed} b t xs ys x₀ y₀ x y r nx ny p q e =
    let first : worth x ≡ fed_all fed t xs nothing = p ∙ ap (fed_all fed t xs) nx in
    let second : worth y ≡ fed_all fed t ys nothing = q ∙ ap (fed_all fed t ys) ny in
    let both : worth r ≡ b.joined (fed_all fed t xs nothing) (fed_all fed t ys nothing) =
    merged_below b x y r e ∙ ap (λ w. b.joined w (worth y)) first ∙ ap (b.joined (fed_all fed t xs nothing)) second
    in
    (both ∙ sym (fed-joins fed t b.laws xs ys), both ∙ b.laws.comm _ _ ∙ sym (fed-joins fed t b.laws ys xs))
