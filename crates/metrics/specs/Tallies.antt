-- What tallies promise each other: feeding many values, the laws of an exact tally, and when two worths say the same.
use Rattle.std.specs.Prelude.{◌≡◌, ℕ, List, fold}
use Rattle.records.specs.declared.column_type.ColumnType.{ColumnType}

-- a worth once the values are fed, first to last
abbrev pub fed_all : {W : Type 0} → (ColumnType → ℕ → W → W) → ColumnType → List ℕ → W → W
fed_all fed t vs w = fold (λ x v. fed t v x) w vs

-- the laws of an exact tally
pub record Exactly {W : Type 0} (nothing : W) (fed : ColumnType → ℕ → W → W) (joined : W → W → W) : Type 0 where
  pub assoc : (a b c : W) → joined (joined a b) c ≡ joined a (joined b c)
  pub comm : (a b : W) → joined a b ≡ joined b a
  pub neutral : (a : W) → joined nothing a ≡ a
  pub feeding : (t : ColumnType) (v : ℕ) (a : W) → fed t v a ≡ joined a (fed t v nothing)

-- two worths of the tallies S say the same: each reads as the other, and a tally's as that tally's
pub record SameWorth {S V W : Type 0} (worth : S → V) (other : S → W) : Type 0 where
  pub to : V → W
  pub back : W → V
  pub back_to : (v : V) → back (to v) ≡ v
  pub to_back : (w : W) → to (back w) ≡ w
  pub same : (s : S) → to (worth s) ≡ other s

-- worth, feeding and joining say the same as those of a tally (the first three) and of a joinable one (the next two)
pub record SameRules {S V U W : Type 0} (t-worth : S → V) (t-nothing : V) (t-fed : ColumnType → ℕ → V → V) (j-worth : S → U) (j-joined : U → U → U) (worth : S → W) (nothing : W) (fed : ColumnType → ℕ → W → W) (joined : W → W → W) : Type 0 where
  pub tally : SameWorth t-worth worth
  pub empty : tally.to t-nothing ≡ nothing
  pub feeds : (t : ColumnType) (v : ℕ) (w : V) → tally.to (t-fed t v w) ≡ fed t v (tally.to w)
  pub joinable : SameWorth j-worth worth
  pub joins : (a b : U) → joinable.to (j-joined a b) ≡ joined (joinable.to a) (joinable.to b)

-- what follows for the traits below: their worths can be joined with the laws of an exact tally
pub record ExactBelow {S V U : Type 0} (worth : S → V) (nothing : V) (fed : ColumnType → ℕ → V → V) (j-worth : S → U) (j-joined : U → U → U) : Type 0 where
  pub joined : V → V → V
  pub laws : Exactly nothing fed joined
  pub joinable : SameWorth worth j-worth
  pub joins : (a b : V) → joinable.to (joined a b) ≡ j-joined (joinable.to a) (joinable.to b)
