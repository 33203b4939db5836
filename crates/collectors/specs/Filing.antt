-- What a level with rows means: its rows' documents lie in the level below and in the cache between, and are the documents
-- delivered, sorted by bucket and step.
use Rattle.std.specs.Prelude.{◌≡◌, ℕ, suc, ◌+◌, ◌-◌, ◌^◌, ◌<◌, ◌≤◌, cond, ◌&&◌, List, [], ◌∷◌, ◌++◌, length, ℤ, Some, None, Option, ◌==◌}
use Rattle.segments.specs.Segments.{Seg}
use Rattle.stack.specs.Levels.{Lvl, range_level, histogram_level, Plan, same_step, row_docs}
use Rattle.stack.specs.Overruns.{Deliveries, added, all_added, fault, Overrun}
use Rattle.stack.specs.Calls.{Charged, Stopped, Overran}
use Rattle.limits.specs.declared.agg_limits.AggregationLimits.{AggregationLimits}
use Rattle.records.specs.declared.fault.Fault.{Fault}
use Rattle.records.specs.declared.fault.Refusal.TheVariants.{CountOverflow}
use Rattle.rows.specs.Tables.{Table, Always, Has}

-- what is stored below, with what waits behind it, is E
pub record Carries (stored : Deliveries → Type 0) (waiting E : Deliveries) : Type 0 where
  pub under : Deliveries
  pub stores : stored under
  pub whole : all_added under waiting ≡ E

-- E are the documents of the first rows: as many as their counts say, and none behind them
pub record Rows (count : ℕ → ℕ) (rows : ℕ) (carried : Deliveries → Type 0) (E : Deliveries) : Type 0 where
  pub carries : carried E
  pub counted : (k : ℕ) → k < rows → count k ≡ length (E k)
  pub none_behind : (k : ℕ) → rows ≤ k → E k ≡ []

-- documents by bucket and step
abbrev pub Sorted : Type 0
Sorted = ℕ → ℤ → List ℕ

-- the deliveries, sorted
abbrev pub sorted : Lvl → Seg → Deliveries → Sorted
sorted l g D b s = row_docs l g s (D b)

-- with a document behind those of one bucket and step
abbrev pub placed : Sorted → ℕ → ℤ → ℕ → Sorted
placed F b s d c t = cond (c == b && same_step t s) (F c t ++ (d ∷ [])) (F c t)

-- a row stands: always, or for its documents
abbrev pub Stands : Lvl → List ℕ → ℤ → Type 0
Stands (range_level column starts) docs s = Always (range_level column starts) s
Stands (histogram_level column position) docs s = 0 < length docs

-- the table's rows are those of the documents sorted so: each row has its bucket's and step's, and none is without a row
pub record Filed (t : Table) (buckets : ℕ) (carried : Deliveries → Type 0) (F : Sorted) : Type 0 where
  pub docs_of : Deliveries
  pub of_rows : Rows t.count t.rows carried docs_of
  pub docs : (k : ℕ) → k < t.rows → docs_of k ≡ F (t.bucket k) (t.step k)
  pub inside : (k : ℕ) → k < t.rows → t.bucket k < buckets
  pub found : (b : ℕ) (s : ℤ) → 0 < length (F b s) → Has t b s
  pub stands : (k : ℕ) → k < t.rows → Stands t.level (F (t.bucket k) (t.step k)) (t.step k)

-- the plan with a level on top
abbrev pub on_top : Lvl → Plan → Plan
on_top l p = record { levels = l ∷ p.levels; column = p.column; field_type = p.field_type }

-- A document could not be put into a row: the row's count is 2^64 - 1, or the level below refused.
pub data PutRefused (was is : Table) (plan : Plan) (slots : ℕ) (g : Seg) (before : (n buckets : ℕ) → Deliveries → Type 0) (row doc : ℕ) (spent spends : AggregationLimits) (made makes : ℕ) (f : Fault) : Type 0 where
  full_here : f ≡ fault CountOverflow was.number → was.count row ≡ 2 ^ 64 - 1 → is.rows ≡ was.rows → spends ≡ spent → makes ≡ made → PutRefused was is plan slots g before row doc spent spends made makes f
  refused_below : is.rows ≡ was.rows → Overran 1 plan slots g before (λ b. b ≡ was.rows) (λ E. added E row (doc ∷ [])) spent spends made makes f → PutRefused was is plan slots g before row doc spent spends made makes f

-- F comes first in G, below every bucket and at every step
abbrev pub Within : Sorted → Sorted → Type 0
Within F G = (b : ℕ) (s : ℤ) → (rest : List ℕ) × (G b s ≡ F b s ++ rest)

-- a table, numbered n and below so many buckets, over what is stored below and what waits, is filed so
pub record At (t : Table) (stored : (n buckets : ℕ) → Deliveries → Type 0) (waiting : Deliveries) (n buckets : ℕ) (F : Sorted) : Type 0 where
  pub number : t.number ≡ n
  pub filed : Filed t buckets (Carries (stored (suc n) t.rows) waiting) F

-- An accepted call: what was filed is filed with the call's own.
pub record Sent (before after : (n buckets : ℕ) → Sorted → Type 0) (inside : ℕ → Type 0) (grows : Sorted → Sorted) (planned plans : Plan) (was is : AggregationLimits) (made makes : ℕ) : Type 0 where
  pub keeps : (n buckets : ℕ) → inside buckets → (F : Sorted) → before n buckets F → after n buckets (grows F)
  pub same_plan : plans ≡ planned
  pub charged : Charged was is made makes

-- A refused call: whatever deliveries the call's own come first in are an overrun.
pub record Missed (plan : Plan) (l : Lvl) (slots : ℕ) (g : Seg) (before : (n buckets : ℕ) → Sorted → Type 0) (inside : ℕ → Type 0) (grows : Sorted → Sorted) (was is : AggregationLimits) (made makes : ℕ) (f : Fault) : Type 0 where
  pub stopped : Stopped was is made makes f
  pub overrun : (n buckets others : ℕ) (F : Sorted) (D : Deliveries) → inside buckets → before n buckets F → was.used ≡ others + made → Within (grows F) (sorted l g D) → Overrun 1 (l ∷ plan.levels) slots n g buckets D others was.limit f

-- a document, placed at each of its steps below a bucket
abbrev pub placed_all : Sorted → ℕ → ℕ → List ℤ → Sorted
placed_all F b d [] = F
placed_all F b d (s ∷ ss) = placed_all (placed F b s d) b d ss

-- a document, placed at a value's step if it has one
abbrev pub placed_at : Sorted → ℕ → Option ℤ → ℕ → Sorted
placed_at F b None d = F
placed_at F b (Some s) d = placed F b s d

-- a row stands below every bucket at every step where one always does
abbrev pub Standing : Table → ℕ → Type 0
Standing t buckets = (b : ℕ) (s : ℤ) → b < buckets → Always t.level s → Has t b s
