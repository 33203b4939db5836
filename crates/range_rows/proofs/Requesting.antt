-- Requests that are accepted have a column with a type.
use Rattle.std.proofs.Common.{◌≡◌, ℕ, List, Some, None, Option, unwrap_or, arith}
use Rattle.records.specs.declared.column_type.ColumnType.{ColumnType}
use Rattle.records.specs.declared.column_type.ColumnType.TheVariants.{U64}
use Rattle.buckets.specs.Ranges.{range_fault, tiling_of}
use Rattle.buckets.specs.declared.range.RangeAggregationRange.{RangeAggregationRange}
use Rattle.range_rows.specs.Requests.{fault_on}

-- What holds of accepted ranges on the column's type holds where the request is accepted.
pub where_accepted : (o : Option ColumnType) (rs : List RangeAggregationRange) (n : ℕ) (starts : List ℕ) → fault_on o rs n ≡ None → ((level : ℕ) → range_fault level (unwrap_or o U64) rs ≡ None → starts ≡ tiling_of (unwrap_or o U64) rs) → starts ≡ tiling_of (unwrap_or o U64) rs
where_accepted None rs n starts h f = let z : ◌≡◌ {A = ℕ} 0 1 = cc in absurd (omega arith)
where_accepted (Some t) rs n starts h f = f n h
