-- What a stack of collectors sorts: levels, steps, chains, and the readings on a path.
use Rattle.std.specs.Prelude.{◌≡◌, ℕ, suc, ◌+◌, ◌*◌, ◌<◌, Bool, true, false, cond, ◌&&◌, List, [], ◌∷◌, ◌++◌, map, length, take, replicate, ℤ, pos, negsuc, Some, None, Option, ◌==◌}
use Rattle.records.specs.declared.column_type.ColumnType.{ColumnType}
use Rattle.records.specs.declared.kind.Kind.{Kind}
use Rattle.records.specs.declared.kind.Kind.TheVariants.{Range, Histogram}
use Rattle.segments.specs.Segments.{Seg, values}
use Rattle.buckets.specs.Tilings.{tile_of}

-- A level sorts the values of a column: by the tiles of a tiling, given by their starts, or by the slots of a grid, given
-- by the position of each value that is counted.
pub data Lvl : Type 0 where
  range_level : (column : ℕ) (starts : List ℕ) → Lvl
  histogram_level : (column : ℕ) (position : ℕ → Option ℤ) → Lvl

-- A plan: the levels, top first, and the column, with its type, that the tallies are fed from.
pub record Plan : Type 0 where
  pub levels : List Lvl
  pub column : ℕ
  pub field_type : ColumnType

abbrev pub kind_of : Lvl → Kind
kind_of (range_level column starts) = Range
kind_of (histogram_level column position) = Histogram

abbrev pub column_of : Lvl → ℕ
column_of (range_level column starts) = column
column_of (histogram_level column position) = column

-- the step of a value: its tile, or its slot's position; none where it is not counted
abbrev pub step_of : Lvl → ℕ → Option ℤ
step_of (range_level column starts) v = Some (pos (tile_of starts v))
step_of (histogram_level column position) v = position v

abbrev pub with_step : Option ℤ → List ℤ → List ℤ
with_step None ss = ss
with_step (Some s) ss = s ∷ ss

abbrev pub steps_of_values : (ℕ → Option ℤ) → List ℕ → List ℤ
steps_of_values step [] = []
steps_of_values step (v ∷ vs) = with_step (step v) (steps_of_values step vs)

-- the steps of a document's counted values, by value index
abbrev pub steps : Lvl → Seg → ℕ → List ℤ
steps l g d = steps_of_values (step_of l) (values g (column_of l) d)

-- ---- chains

-- each step before each of the paths
abbrev pub each : List ℤ → List (List ℤ) → List (List ℤ)
each [] ps = []
each (s ∷ ss) ps = map (λ p. s ∷ p) ps ++ each ss ps

-- the chains of one naming of a document: one counted value at each level, by value index level by level
abbrev pub chains : List Lvl → Seg → ℕ → List (List ℤ)
chains [] g d = [] ∷ []
chains (l ∷ ls) g d = each (steps l g d) (chains ls g d)

-- a chain: the document named, and the path of its steps
abbrev pub Chain : Type 0
Chain = ℕ × List ℤ

-- the chains of all namings, in order
abbrev pub chains_of : List Lvl → Seg → List ℕ → List Chain
chains_of ls g [] = []
chains_of ls g (d ∷ ds) = map (λ p. (d, p)) (chains ls g d) ++ chains_of ls g ds

abbrev pub same_step : ℤ → ℤ → Bool
same_step (pos a) (pos b) = a == b
same_step (pos a) (negsuc b) = false
same_step (negsuc a) (pos b) = false
same_step (negsuc a) (negsuc b) = a == b

abbrev pub same_path : List ℤ → List ℤ → Bool
same_path [] [] = true
same_path [] (s ∷ p) = false
same_path (s ∷ p) [] = false
same_path (s ∷ p) (t ∷ q) = same_step s t && same_path p q

-- the chains on a path
abbrev pub on_path : List ℤ → List Chain → List Chain
on_path p [] = []
on_path p (c ∷ cs) = cond (same_path c.1 p) (c ∷ on_path p cs) (on_path p cs)

-- how many readings lie on a path: the chains down to its last level that lie on it
unfoldable pub readings : List Lvl → Seg → List ℕ → List ℤ → ℕ
readings ls g docs p = length (on_path p (chains_of (take (length p) ls) g docs))

-- the values of a column of all these documents, document after document
abbrev pub values_of : Seg → ℕ → List ℕ → List ℕ
values_of g column [] = []
values_of g column (d ∷ ds) = values g column d ++ values_of g column ds

abbrev pub named : List Chain → List ℕ
named cs = map (λ c. c.0) cs

-- what the tally of a full path is fed: the bottom values of each chain on it, in the order of the chains
unfoldable pub fed_values : List Lvl → ℕ → Seg → List ℕ → List ℤ → List ℕ
fed_values ls column g docs p = values_of g column (named (on_path p (chains_of ls g docs)))

-- ---- rows

-- how often a step occurs
abbrev pub occurrences : ℤ → List ℤ → ℕ
occurrences s [] = 0
occurrences s (t ∷ ts) = cond (same_step t s) (suc (occurrences s ts)) (occurrences s ts)

-- the documents of the row at a step: each naming, once for each of its values there
abbrev pub row_docs : Lvl → Seg → ℤ → List ℕ → List ℕ
row_docs l g s [] = []
row_docs l g s (d ∷ ds) = replicate (occurrences s (steps l g d)) d ++ row_docs l g s ds

-- a range level has a row for each tile, a histogram level for each slot with a reading
abbrev pub Step : Lvl → Seg → List ℕ → ℤ → Type 0
Step (range_level column starts) g docs (pos k) = k < length starts
Step (range_level column starts) g docs (negsuc k) = ⊥
Step (histogram_level column position) g docs s = 0 < length (row_docs (histogram_level column position) g s docs)

-- a path exists if its first step does, and the rest does among the documents of that row
abbrev pub There : List Lvl → Seg → List ℕ → List ℤ → Type 0
There ls g docs [] = Unit {0}
There [] g docs (s ∷ p) = ⊥
There (l ∷ ls) g docs (s ∷ p) = Step l g docs s × There ls g (row_docs l g s docs) p

-- ---- laws

-- on how many chains of one naming a path lies: the product of how often its steps occur
abbrev pub chain_count : List Lvl → Seg → ℕ → List ℤ → ℕ
chain_count ls g d [] = 1
chain_count [] g d (s ∷ p) = 0
chain_count (l ∷ ls) g d (s ∷ p) = occurrences s (steps l g d) * chain_count ls g d p

pub record ReadingLaws : Type 0 where
  -- readings of two lists of namings add up
  pub sums : (ls : List Lvl) (g : Seg) (ds es : List ℕ) (p : List ℤ) → readings ls g (ds ++ es) p ≡ readings ls g ds p + readings ls g es p
  -- what is fed composes
  pub feeds : (ls : List Lvl) (column : ℕ) (g : Seg) (ds es : List ℕ) (p : List ℤ) → fed_values ls column g (ds ++ es) p ≡ fed_values ls column g ds p ++ fed_values ls column g es p
  -- one naming counts as often as the product says
  pub product : (ls : List Lvl) (g : Seg) (d : ℕ) (p : List ℤ) → readings ls g (d ∷ []) p ≡ chain_count ls g d p
  -- below a step lie the documents of its row
  pub down : (l : Lvl) (ls : List Lvl) (g : Seg) (ds : List ℕ) (s : ℤ) (p : List ℤ) → readings (l ∷ ls) g ds (s ∷ p) ≡ readings ls g (row_docs l g s ds) p
  pub down_fed : (l : Lvl) (ls : List Lvl) (column : ℕ) (g : Seg) (ds : List ℕ) (s : ℤ) (p : List ℤ) → fed_values (l ∷ ls) column g ds (s ∷ p) ≡ fed_values ls column g (row_docs l g s ds) p
  pub row : (l : Lvl) (ls : List Lvl) (g : Seg) (ds : List ℕ) (s : ℤ) → readings (l ∷ ls) g ds (s ∷ []) ≡ length (row_docs l g s ds)
  pub bottom : (column : ℕ) (g : Seg) (ds : List ℕ) → fed_values [] column g ds [] ≡ values_of g column ds
  -- more namings never remove a row
  pub stays : (ls : List Lvl) (g : Seg) (ds es : List ℕ) (p : List ℤ) → There ls g ds p → There ls g (ds ++ es) p
