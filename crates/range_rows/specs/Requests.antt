-- What a range level's request asks for, and why it is refused.
use Rattle.std.specs.Prelude.{ℕ, List, take, drop, Some, None, Option}
use Rattle.std.specs.Option.{unwrap_or}
use Rattle.records.specs.declared.column_type.ColumnType.{ColumnType}
use Rattle.records.specs.declared.column_type.ColumnType.TheVariants.{U64}
use Rattle.records.specs.declared.fault.Fault.{Fault}
use Rattle.records.specs.declared.fault.Refusal.TheVariants.{UnknownColumn}
use Rattle.buckets.specs.Ranges.{range_fault, tiling_of}
use Rattle.buckets.specs.declared.range.RangeAggregationRange.{RangeAggregationRange}
use Rattle.stack.specs.Levels.{Lvl, range_level}
use Rattle.stack.specs.Overruns.{fault}
use Rattle.range_rows.specs.declared.request.RangeRequest.{RangeRequest}

-- the level's own ranges: a part of those lent, cut where they end
abbrev pub own_ranges : RangeRequest → List RangeAggregationRange → List RangeAggregationRange
own_ranges q ranges = take q.count (drop q.start ranges)

-- the level sorts by the tiling of its ranges; a request on a column of no type is refused, so its type is of no account
unfoldable pub level_asked : RangeRequest → List RangeAggregationRange → (ℕ → Option ColumnType) → Lvl
level_asked q ranges types = range_level q.column (tiling_of (unwrap_or (types q.column) U64) (own_ranges q ranges))

-- why the level numbered n refuses ranges on a column of this type, or of none
abbrev pub fault_on : Option ColumnType → List RangeAggregationRange → ℕ → Option Fault
fault_on None ranges n = Some (fault UnknownColumn n)
fault_on (Some t) ranges n = range_fault n t ranges

-- a fault's place counts within the level's own ranges
unfoldable pub request_fault : RangeRequest → List RangeAggregationRange → (ℕ → Option ColumnType) → ℕ → Option Fault
request_fault q ranges types n = fault_on (types q.column) (own_ranges q ranges) n
