-- The bottom of a stack: a slot for each row of the last level, fed the values of the documents delivered for that row.
use Rattle.std.specs.Prelude.{◌≡◌, ℕ, ◌<◌, ◌≤◌, List, [], length, Some, None, Option, ◌≢◌, slice_index_or}
use Rattle.records.specs.declared.column_type.ColumnType.{ColumnType}
use Rattle.records.specs.declared.column_type.ColumnType.TheVariants.{U64}
use Rattle.records.specs.declared.fault.Fault.{Fault}
use Rattle.records.specs.declared.fault.Refusal.TheVariants.{UnknownColumn}
use Rattle.metrics.specs.Tallies.{fed_all}
use Rattle.segments.specs.Segments.{Seg}
use Rattle.stack.specs.Levels.{Plan, values_of}
use Rattle.stack.specs.Overruns.{Deliveries, fault}

-- no level is left
abbrev pub bottom_plan : ℕ → ColumnType → Plan
bottom_plan column t = record { levels = []; column = column; field_type = t }

-- the type of a known column
abbrev pub type_or_u64 : Option ColumnType → ColumnType
type_or_u64 None = U64
type_or_u64 (Some t) = t

-- an unknown column is refused by the level with this number
abbrev pub unknown_column : Option ColumnType → ℕ → Option Fault
unknown_column None n = Some (fault UnknownColumn n)
unknown_column (Some t) n = None

-- one slot is fed values, and all else is as it was
pub record SlotFed {T W : Type 0} (worth : T → W) (fed : ColumnType → ℕ → W → W) (t : ColumnType) (vals : List ℕ) (was is : List T) (at : ℕ) : Type 0 where
  pub within : at < length was
  pub same_length : length is ≡ length was
  pub here : (d : T) → worth (slice_index_or is at d) ≡ fed_all fed t vals (worth (slice_index_or was at d))
  pub others : (k : ℕ) (d : T) → (k ≢ at) → slice_index_or is k d ≡ slice_index_or was k d

-- each bucket's slot is worth what its documents' values make of the empty tally, and no bucket lies past the slots
pub record Slots {T W : Type 0} (worth : T → W) (nothing : W) (fed : ColumnType → ℕ → W → W) (plan : Plan) (g : Seg) (slots : List T) (D : Deliveries) : Type 0 where
  pub inside : (b : ℕ) (d : T) → b < length slots → worth (slice_index_or slots b d) ≡ fed_all fed plan.field_type (values_of g plan.column (D b)) nothing
  pub outside : (b : ℕ) → length slots ≤ b → D b ≡ []
