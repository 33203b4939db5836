-- A level's table: rows numbered from 0, each the row of a bucket of the level above and a step, with a count.
use Rattle.std.specs.Prelude.{◌≡◌, ℕ, ◌+◌, ◌<◌, ◌≤◌, ◌⊎◌, List, length, ℤ, pos, negsuc, ◌<ℤ◌, Some, ◌≢◌, slice_index}
use Rattle.records.specs.declared.fault.Fault.{Fault}
use Rattle.records.specs.declared.fault.Refusal.TheVariants.{TooManyRows, AllowanceExceeded}
use Rattle.limits.specs.declared.agg_limits.AggregationLimits.{AggregationLimits}
use Rattle.stack.specs.Levels.{Lvl, range_level, histogram_level, step_of}
use Rattle.stack.specs.Overruns.{fault}
use Rattle.stack.specs.Calls.{Charged, Stopped}

-- what a table shows
pub record Table : Type 0 where
  pub level : Lvl
  pub number : ℕ
  pub rows : ℕ
  pub bucket : ℕ → ℕ
  pub step : ℕ → ℤ
  pub count : ℕ → ℕ

-- a row stands at this step below every bucket: at a tile of a range level
abbrev pub Always : Lvl → ℤ → Type 0
Always (range_level column starts) (pos k) = k < length starts
Always (range_level column starts) (negsuc k) = ⊥
Always (histogram_level column position) s = ⊥

-- a row can stand at this step
abbrev pub Fits : Lvl → ℤ → Type 0
Fits (range_level column starts) s = Always (range_level column starts) s
Fits (histogram_level column position) s = Unit {0}

-- row k is that of a bucket and a step
abbrev pub Is : Table → ℕ → ℕ → ℤ → Type 0
Is t k b s = (t.bucket k ≡ b) × (t.step k ≡ s)

-- the table has a row for a bucket and a step
abbrev pub Has : Table → ℕ → ℤ → Type 0
Has t b s = (k : ℕ) × ((k < t.rows) × Is t k b s)

-- what holds of every table: at most 512 rows, no two of one bucket and step, each at a step where a row can stand
pub record Sound (t : Table) : Type 0 where
  pub few : t.rows ≤ 512
  pub apart : (j k : ℕ) → j < t.rows → k < t.rows → t.bucket j ≡ t.bucket k → t.step j ≡ t.step k → j ≡ k
  pub fits : (k : ℕ) → k < t.rows → Fits t.level (t.step k)

-- the rows below a bucket, by number, with rising steps
pub record Listed (t : Table) (b : ℕ) (ks : List ℕ) : Type 0 where
  pub below : (i : ℕ) → i < length ks → (slice_index ks i < t.rows) × (t.bucket (slice_index ks i) ≡ b)
  pub rises : (i j : ℕ) → i < j → j < length ks → t.step (slice_index ks i) <ℤ t.step (slice_index ks j)
  pub all : (k : ℕ) → k < t.rows → t.bucket k ≡ b → (i : ℕ) × ((i < length ks) × (slice_index ks i ≡ k))

-- the same level, with the rows as they were, and perhaps more, whose count is 0
pub record Grew (was is : Table) : Type 0 where
  pub same_level : is.level ≡ was.level
  pub same_number : is.number ≡ was.number
  pub more : was.rows ≤ is.rows
  pub same_bucket : (k : ℕ) → k < was.rows → is.bucket k ≡ was.bucket k
  pub same_step : (k : ℕ) → k < was.rows → is.step k ≡ was.step k
  pub same_count : (k : ℕ) → k < was.rows → is.count k ≡ was.count k
  pub new_count : (k : ℕ) → was.rows ≤ k → k < is.rows → is.count k ≡ 0

-- a row was wanted that the table cannot have: it holds 512, or the allowance refuses the charge for one more
pub record Lacks (was is : Table) (before after : AggregationLimits) (f : Fault) (b : ℕ) (s : ℤ) : Type 0 where
  pub grew : Grew was is
  pub stopped : Stopped before after was.rows is.rows f
  pub missing : (k : ℕ) → k < is.rows → Is is k b s → ⊥
  pub reason : ((f ≡ fault TooManyRows was.number) × (is.rows ≡ 512)) ⊎ ((f ≡ fault AllowanceExceeded was.number) × (before.limit + was.rows < before.used + is.rows + 1))

-- rows that always stand were made for every bucket below a number
pub record Prepared (was is : Table) (before after : AggregationLimits) (buckets : ℕ) : Type 0 where
  pub grew : Grew was is
  pub charged : Charged before after was.rows is.rows
  pub new : (k : ℕ) → was.rows ≤ k → k < is.rows → (is.bucket k < buckets) × Always is.level (is.step k)
  pub complete : (b : ℕ) (s : ℤ) → b < buckets → Always is.level s → Has is b s

-- or could not all be made
pub record Unprepared (was is : Table) (before after : AggregationLimits) (buckets : ℕ) (f : Fault) : Type 0 where
  pub bucket : ℕ
  pub step : ℤ
  pub lacks : Lacks was is before after f bucket step
  pub inside : bucket < buckets
  pub always : Always was.level step
  pub new : (k : ℕ) → was.rows ≤ k → k < is.rows → (is.bucket k < buckets) × Always is.level (is.step k)

-- row r is that of a value below a bucket; besides it only rows that always stand may be new
pub record RowFor (was is : Table) (before after : AggregationLimits) (b v r : ℕ) : Type 0 where
  pub grew : Grew was is
  pub charged : Charged before after was.rows is.rows
  pub there : r < is.rows
  pub bucket : is.bucket r ≡ b
  pub step : step_of was.level v ≡ Some (is.step r)
  pub new : (k : ℕ) → was.rows ≤ k → k < is.rows → (k ≡ r) ⊎ ((is.bucket k ≤ b) × Always is.level (is.step k))

-- the value's row could not be made
pub record Unmade (was is : Table) (before after : AggregationLimits) (b v : ℕ) (f : Fault) : Type 0 where
  pub step : ℤ
  pub counted : step_of was.level v ≡ Some step
  pub fits : Fits was.level step
  pub lacks : Lacks was is before after f b step
  pub none_new : is.rows ≡ was.rows

-- or rows that always stand below its bucket could not
pub data NoRowFor (was is : Table) (before after : AggregationLimits) (b v : ℕ) (f : Fault) : Type 0 where
  unmade : Unmade was is before after b v f → NoRowFor was is before after b v f
  unprepared : Unprepared was is before after (b + 1) f → NoRowFor was is before after b v f

-- one row's count is one more
pub record Counted (was is : Table) (r : ℕ) : Type 0 where
  pub same_level : is.level ≡ was.level
  pub same_number : is.number ≡ was.number
  pub same_rows : is.rows ≡ was.rows
  pub same_bucket : (k : ℕ) → k < was.rows → is.bucket k ≡ was.bucket k
  pub same_step : (k : ℕ) → k < was.rows → is.step k ≡ was.step k
  pub here : is.count r ≡ was.count r + 1
  pub elsewhere : (k : ℕ) → k < was.rows → (k ≢ r) → is.count k ≡ was.count k
