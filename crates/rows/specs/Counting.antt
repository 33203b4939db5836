-- What making a row and counting a reading do to a level's counts.
use Rattle.std.specs.Prelude.{◌≡◌, ℕ, ◌+◌, ◌^◌, ◌<◌, ◌≢◌, ℤ, slice_index, slice_set}
use Rattle.records.specs.declared.fault.Fault.{Fault}
use Rattle.records.specs.declared.fault.Refusal.TheVariants.{TooManyRows, AllowanceExceeded}
use Rattle.limits.specs.Limits.{Refused}
use Rattle.limits.specs.declared.agg_limits.AggregationLimits.{AggregationLimits}
use Rattle.stack.specs.Overruns.{fault}
use Rattle.stack.specs.Levels.{Lvl}
use Rattle.rows.specs.Tables.{Table}
use Rattle.rows.specs.declared.counts.Counts.{Counts}

-- the table of a level whose rows have these buckets, steps and counts
abbrev pub table_with : Lvl → (ℕ → ℕ) → (ℕ → ℤ) → Counts → Table
table_with l bucket step c = record {
  level = l;
  number = c.level;
  rows = c.rows;
  bucket = bucket;
  step = step;
  count = λ k. slice_index c.counts k;
}

-- one row more, with count 0; nothing else changed
pub record OneMore (was is : Counts) : Type 0 where
  pub same_level : is.level ≡ was.level
  pub rows : is.rows ≡ was.rows + 1
  pub counts : is.counts ≡ slice_set was.counts was.rows 0

-- why no row more is made: there are 512, or its charge is refused
pub data NoMore (c : Counts) (before after : AggregationLimits) (f : Fault) : Type 0 where
  full : f ≡ fault TooManyRows c.level → c.rows ≡ 512 → after ≡ before → NoMore c before after f
  uncharged : f ≡ fault AllowanceExceeded c.level → before.used < 2 ^ 64 → Refused before 1 after → NoMore c before after f

-- one row's count is one more; nothing else changed
pub record OneUp (was is : Counts) (row : ℕ) : Type 0 where
  pub same_level : is.level ≡ was.level
  pub same_rows : is.rows ≡ was.rows
  pub here : slice_index is.counts row ≡ slice_index was.counts row + 1
  pub elsewhere : (k : ℕ) → k ≢ row → slice_index is.counts k ≡ slice_index was.counts k
