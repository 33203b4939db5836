-- What a range level's table shows, and what making rows does to it.
use Rattle.std.specs.Prelude.{◌≡◌, ℕ, ◌+◌, ◌-◌, ◌*◌, ◌/◌, ◌%◌, ◌^◌, ◌<◌, ◌≤◌, min, max, ◌⊎◌, List, length, pos, slice_index, slice_set}
use Rattle.std.specs.List.{range_with_len}
use Rattle.records.specs.declared.fault.Fault.{Fault}
use Rattle.records.specs.declared.fault.Refusal.TheVariants.{TooManyRows, AllowanceExceeded}
use Rattle.limits.specs.declared.agg_limits.AggregationLimits.{AggregationLimits}
use Rattle.buckets.specs.Tilings.{starts_of}
use Rattle.stack.specs.Levels.{range_level}
use Rattle.stack.specs.Overruns.{fault}
use Rattle.stack.specs.Calls.{Charged, Stopped}
use Rattle.rows.specs.Tables.{Table}
use Rattle.range_rows.specs.declared.table.RangeRows.{RangeRows}

abbrev pub tiles_of : RangeRows → ℕ
tiles_of c = length (starts_of c.tiling)

-- row k is that of bucket k / tiles and tile k % tiles
abbrev pub shown : RangeRows → Table
shown c = record {
  level = range_level c.column (starts_of c.tiling);
  number = c.counts.level;
  rows = c.counts.rows;
  bucket = λ k. k / tiles_of c;
  step = λ k. pos (k % tiles_of c);
  count = λ k. slice_index c.counts.counts k;
}

-- the rows below a bucket follow one another: one for each tile, as far as they are made
abbrev pub rows_below : RangeRows → ℕ → List ℕ
rows_below c b = range_with_len (b * tiles_of c) (min (tiles_of c) (c.counts.rows - b * tiles_of c))

-- rows were added, whose count is 0, and nothing else changed
pub record Added (was is : RangeRows) : Type 0 where
  pub same_tiling : is.tiling ≡ was.tiling
  pub same_column : is.column ≡ was.column
  pub same_number : is.counts.level ≡ was.counts.level
  pub more : was.counts.rows ≤ is.counts.rows
  pub kept : (k : ℕ) → k < was.counts.rows → slice_index is.counts.counts k ≡ slice_index was.counts.counts k
  pub empty : (k : ℕ) → was.counts.rows ≤ k → k < is.counts.rows → slice_index is.counts.counts k ≡ 0

-- there are as many rows as wanted
pub record Made (was is : RangeRows) (before after : AggregationLimits) (wanted : ℕ) : Type 0 where
  pub added : Added was is
  pub rows : is.counts.rows ≡ max was.counts.rows wanted
  pub charged : Charged before after was.counts.rows is.counts.rows

-- or a row more could not be made
pub record Short (was is : RangeRows) (before after : AggregationLimits) (wanted : ℕ) (f : Fault) : Type 0 where
  pub added : Added was is
  pub fewer : is.counts.rows < wanted
  pub stopped : Stopped before after was.counts.rows is.counts.rows f
  pub reason : ((f ≡ fault TooManyRows was.counts.level) × (is.counts.rows ≡ 512)) ⊎ ((f ≡ fault AllowanceExceeded was.counts.level) × (before.limit + was.counts.rows < before.used + is.counts.rows + 1))
