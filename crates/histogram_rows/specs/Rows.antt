-- What a histogram level's table shows, and what a request asks for.
use Rattle.std.specs.Prelude.{◌≡◌, ℕ, ◌<◌, ◌≤◌, true, List, take, Some, None, filter, Option, nat_eq, slice_index, slice_set}
use Rattle.std.specs.Option.{unwrap_or}
use Rattle.records.specs.declared.column_type.ColumnType.{ColumnType}
use Rattle.records.specs.declared.column_type.ColumnType.TheVariants.{U64}
use Rattle.records.specs.declared.fault.Fault.{Fault}
use Rattle.records.specs.declared.fault.Refusal.TheVariants.{UnknownColumn}
use Rattle.numbers.specs.Columns.{number_of}
use Rattle.buckets.specs.Grids.{position_of, grid_of, histogram_fault}
use Rattle.buckets.specs.declared.grid.Grid.{Grid}
use Rattle.limits.specs.declared.agg_limits.AggregationLimits.{AggregationLimits}
use Rattle.stack.specs.Levels.{Lvl, histogram_level}
use Rattle.stack.specs.Calls.{Charged}
use Rattle.rows.specs.Tables.{Table, Grew, Lacks}
use Rattle.rows.specs.Counting.{OneMore}
use Rattle.histogram_rows.specs.Index.{before, row_before, slot_at}
use Rattle.histogram_rows.specs.declared.histogram_rows.HistogramRows.{HistogramRows}
use Rattle.histogram_rows.specs.declared.slot.Slot.{Slot}
use Rattle.histogram_rows.specs.declared.request.HistogramRequest.{HistogramRequest}

-- a column's values by the slots of a grid
abbrev pub slots : ℕ → ColumnType → Grid → Lvl
slots column t g = histogram_level column (λ v. position_of g (number_of t v))

abbrev pub table_of : HistogramRows → Table
table_of c = record {
  level = slots c.column c.field_type c.grid;
  number = c.counts.level;
  rows = c.counts.rows;
  bucket = λ k. (slot_at c.slots k).bucket;
  step = λ k. (slot_at c.slots k).position;
  count = λ k. slice_index c.counts.counts k;
}

-- the rows below a bucket: those of the index that are its own
abbrev pub listed_of : HistogramRows → ℕ → List ℕ
listed_of c b = filter (λ k. nat_eq (slot_at c.slots k).bucket b) (take c.counts.rows c.order)

-- row k is that of a slot
pub record IsRow (c : HistogramRows) (k : ℕ) (slot : Slot) : Type 0 where
  pub there : k < c.counts.rows
  pub bucket : (slot_at c.slots k).bucket ≡ slot.bucket
  pub position : (slot_at c.slots k).position ≡ slot.position

-- no row is that of a slot, and it would stand at this place of the index
pub record Free (c : HistogramRows) (at : ℕ) (slot : Slot) : Type 0 where
  pub within : at ≤ c.counts.rows
  pub below : (i : ℕ) → i < at → row_before c.slots (slice_index c.order i) slot ≡ true
  pub above : (i : ℕ) → at ≤ i → i < c.counts.rows → before slot (slot_at c.slots (slice_index c.order i)) ≡ true

-- the index up to a place has the rows below lower buckets, from there on the others
pub record First (c : HistogramRows) (b at : ℕ) : Type 0 where
  pub within : at ≤ c.counts.rows
  pub lower : (i : ℕ) → i < at → (slot_at c.slots (slice_index c.order i)).bucket < b
  pub upper : (i : ℕ) → at ≤ i → i < c.counts.rows → b ≤ (slot_at c.slots (slice_index c.order i)).bucket

-- one row more, the last, with this slot and count 0
pub record Made (was is : HistogramRows) (slot : Slot) : Type 0 where
  pub level : (table_of is).level ≡ (table_of was).level
  pub row : OneMore was.counts is.counts
  pub slots : is.slots ≡ slice_set was.slots was.counts.rows slot

-- row k is that of a slot, and no other row is new
pub record Got (was is : HistogramRows) (before after : AggregationLimits) (slot : Slot) (k : ℕ) : Type 0 where
  pub grew : Grew (table_of was) (table_of is)
  pub charged : Charged before after was.counts.rows is.counts.rows
  pub row : IsRow is k slot
  pub new : (j : ℕ) → was.counts.rows ≤ j → j < is.counts.rows → j ≡ k

-- it could not be made
pub record NotGot (was is : HistogramRows) (before after : AggregationLimits) (slot : Slot) (f : Fault) : Type 0 where
  pub lacks : Lacks (table_of was) (table_of is) before after f slot.bucket slot.position
  pub none_new : is.counts.rows ≡ was.counts.rows

-- the type of a column, U64 where it has none
abbrev pub type_or_u64 : Option ColumnType → ColumnType
type_or_u64 t = unwrap_or t U64

abbrev pub asked_of : HistogramRequest → Option ColumnType → Lvl
asked_of q t = slots q.column (type_or_u64 t) (grid_of (type_or_u64 t) q.aggregation)

-- an unknown column is refused first
abbrev pub refused_of : HistogramRequest → Option ColumnType → ℕ → Option Fault
refused_of q None n = Some (record { refusal = UnknownColumn; level = n; place = 0 })
refused_of q (Some t) n = histogram_fault n t q.aggregation
