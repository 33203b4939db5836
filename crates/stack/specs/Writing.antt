-- The rows below a bucket, in path order.
use Rattle.std.specs.Prelude.{◌≡◌, ℕ, ◌+◌, ◌<◌, ◌≤◌, List, [], ◌∷◌, ◌++◌, length, take, drop, ℤ, ◌<ℤ◌, Some, None, Option, slice_index_or}
use Rattle.records.specs.Paths.{steps_of}
use Rattle.records.specs.Rows.{Entry, entries}
use Rattle.records.specs.declared.column_type.ColumnType.{ColumnType}
use Rattle.records.specs.declared.path.Path.{Path}
use Rattle.records.specs.declared.row.Row.{Row}
use Rattle.metrics.specs.Tallies.{fed_all}
use Rattle.segments.specs.Segments.{Seg}
use Rattle.stack.specs.Levels.{Lvl, Plan, row_docs, Step, values_of}

-- the steps of the path above, none at the top
abbrev pub above_steps : Option Path → List ℤ
above_steps None = []
above_steps (Some p) = steps_of p

-- s is among the steps
abbrev pub Among : ℤ → List ℤ → Type 0
Among s ss = (k : ℕ) × ((k < length ss) × ((d : ℤ) → slice_index_or ss k d ≡ s))

-- the steps at which rows exist, rising
pub record StepsAre (l : Lvl) (g : Seg) (docs : List ℕ) (ss : List ℤ) : Type 0 where
  pub rises : (j k : ℕ) (d : ℤ) → j < k → k < length ss → slice_index_or ss j d <ℤ slice_index_or ss k d
  pub exist : (s : ℤ) → Among s ss → Step l g docs s
  pub all : (s : ℤ) → Step l g docs s → Among s ss

-- how a tally is fed and what it is worth
pub record Feeding (W : Type 0) : Type 0 where
  pub nothing : W
  pub fed : ColumnType → ℕ → W → W

-- what a row of these documents is worth: below the last level's rows there is no level, and their tally is fed; above,
-- the tally is empty
abbrev pub row_worth : {W : Type 0} → Feeding W → List Lvl → ℕ → ColumnType → Seg → List ℕ → W
row_worth f [] column t g docs = fed_all f.fed t (values_of g column docs) f.nothing
row_worth f (l ∷ ls) column t g docs = f.nothing

-- the same, by a plan
abbrev pub tally_worth : {W : Type 0} (nothing : W) (fed : ColumnType → ℕ → W → W) → Plan → Seg → List ℕ → W
tally_worth nothing fed plan g docs = row_worth (record { nothing = nothing; fed = fed }) plan.levels plan.column plan.field_type g docs

-- for each step its own row, then the rows below it
abbrev pub Blocks : {W : Type 0} → (ℤ → Entry W) → (ℤ → List (Entry W) → Type 0) → List ℤ → List (Entry W) → Type 0
Blocks own below [] es = es ≡ []
Blocks own below (s ∷ ss) es = (bs : List _) × ((rest : List _) × ((es ≡ own s ∷ (bs ++ rest)) × (below s bs × Blocks own below ss rest)))

-- the rows below a bucket with these documents, under a path
abbrev pub Written : {W : Type 0} → Feeding W → ℕ → ColumnType → Seg → List Lvl → List ℤ → List ℕ → List (Entry W) → Type 0
Written f column t g [] above docs es = es ≡ []
Written f column t g (l ∷ ls) above docs es =
    (ss : List ℤ) × (StepsAre l g docs ss
    × Blocks (λ s. record { path = above ++ (s ∷ []); count = length (row_docs l g s docs); worth = row_worth f ls column t g (row_docs l g s docs) })
    (λ s bs. Written f column t g ls (above ++ (s ∷ [])) (row_docs l g s docs) bs) ss es)

-- rows were put into a slice from `at` on; all else is as it was
pub record Put {T W : Type 0} (worth : T → W) (was is : List (Row T)) (at end : ℕ) (es : List (Entry W)) : Type 0 where
  pub rows : List (Row T)
  pub whole : is ≡ take at was ++ (rows ++ drop end was)
  pub size : end ≡ at + length rows
  pub entries_are : entries worth rows ≡ es

-- the rows of a plan below a bucket with these documents, under a path, are put into a slice if there is room for them all
abbrev pub PutBelow : {T W : Type 0} → (T → W) → (nothing : W) (fed : ColumnType → ℕ → W → W) → Plan → Seg → List ℤ → List ℕ → (was is : List (Row T)) → (at end : ℕ) → Type 0
PutBelow {T} {W} worth nothing fed plan g above docs was is at end =
    (es : List (Entry W)) × (Written (record { nothing = nothing; fed = fed }) plan.column plan.field_type g plan.levels above docs es × (at + length es ≤ length was → Put worth was is at end es))
