-- The ranges of a range level as the column has them, and when they are refused. A range runs from its start, included,
-- to its end, excluded.
use Rattle.std.specs.Prelude.{◌≡◌, ℕ, ◌-◌, ◌^◌, ◌<◌, ◌≤◌, Bool, true, false, cond, ◌&&◌, ◌||◌, ltb, ◌≢◌, ◌⊎◌, List, [], ◌∷◌, length, get_or, Some, None, Option, ◌==◌, is_nan, nat_le, nat_lt, slice_index_or, Float}
use Rattle.std.specs.Option.{option_or, option_map}
use Rattle.std.specs.Bool.{then_some}
use Rattle.records.specs.declared.column_type.ColumnType.{ColumnType}
use Rattle.records.specs.declared.fault.Fault.{Fault}
use Rattle.records.specs.declared.fault.Refusal.{Refusal}
use Rattle.records.specs.declared.fault.Refusal.TheVariants.{NoRange, TooManyRanges, BadRange, OverlappingRanges}
use Rattle.numbers.specs.Columns.{value_of}
use Rattle.buckets.specs.Picks.{any_below, first_below}
use Rattle.buckets.specs.Tilings.{put_start, Shape, Tiles}
use Rattle.buckets.specs.declared.range.RangeAggregationRange.{RangeAggregationRange}

-- the column's value at an end of a range; an end that is no number is told apart before
abbrev pub end_at : ColumnType → ℕ → Option Float → ℕ
end_at t absent None = absent
end_at t absent (Some x) = cond (is_nan x) 0 (value_of t x)

-- an absent start is 0, an absent end 2 ^ 64 - 1
abbrev pub start_of : ColumnType → RangeAggregationRange → ℕ
start_of t r = end_at t 0 r.from

abbrev pub end_of : ColumnType → RangeAggregationRange → ℕ
end_of t r = end_at t (2 ^ 64 - 1) r.to

abbrev pub no_number : Option Float → Bool
no_number None = false
no_number (Some x) = is_nan x

-- an end is NaN, or the range does not start below its end
abbrev pub bad : ColumnType → RangeAggregationRange → Bool
bad t r = no_number r.from || (no_number r.to || nat_le (end_of t r) (start_of t r))

abbrev pub open_range : RangeAggregationRange
open_range = record { from = None; to = None }

-- start and end of the range with this index
abbrev pub from_at : ColumnType → List RangeAggregationRange → ℕ → ℕ
from_at t rs i = start_of t (slice_index_or rs i open_range)

abbrev pub to_at : ColumnType → List RangeAggregationRange → ℕ → ℕ
to_at t rs i = end_of t (slice_index_or rs i open_range)

-- range i comes before range j: by start, then by index
abbrev pub earlier : ColumnType → List RangeAggregationRange → ℕ → ℕ → Bool
earlier t rs i j = nat_lt (from_at t rs i) (from_at t rs j) || (from_at t rs i == from_at t rs j && nat_lt i j)

-- range j starts before a range that comes before it has ended
abbrev pub late : ColumnType → List RangeAggregationRange → ℕ → Bool
late t rs j = any_below (λ i. earlier t rs i j && nat_lt (from_at t rs j) (to_at t rs i)) (length rs)

-- the first bad range, and the first late one, by start and then by index
abbrev pub first_bad : ColumnType → List RangeAggregationRange → Option ℕ
first_bad t rs = first_below (λ i. bad t (slice_index_or rs i open_range)) ltb (length rs)

abbrev pub first_late : ColumnType → List RangeAggregationRange → Option ℕ
first_late t rs = first_below (late t rs) (earlier t rs) (length rs)

abbrev pub fault : Refusal → ℕ → ℕ → Fault
fault refusal level place = record { refusal = refusal; level = level; place = place }

-- the refusal of a range level's ranges; the upper one wins
abbrev pub range_fault : ℕ → ColumnType → List RangeAggregationRange → Option Fault
range_fault level t rs =
    option_or (then_some (length rs == 0) (fault NoRange level 0))
    (option_or (then_some (nat_lt 16 (length rs)) (fault TooManyRanges level 0))
    (option_or (option_map (fault BadRange level) (first_bad t rs))
    (option_map (fault OverlappingRanges level) (first_late t rs))))

-- the starts of the ranges' tiling: 0 and every start and end below the top, rising, each once
abbrev pub tiling_of : ColumnType → List RangeAggregationRange → List ℕ
tiling_of t [] = 0 ∷ []
tiling_of t (r ∷ rs) = put_start (start_of t r) (put_start (end_of t r) (tiling_of t rs))

-- ---- in words

-- what accepted ranges are: some, few, each with a start below its end, no two with a value in common
pub record Accepted (t : ColumnType) (rs : List RangeAggregationRange) : Type 0 where
  pub some : 0 < length rs
  pub few : length rs ≤ 16
  pub numbers : (i : ℕ) → i < length rs → (no_number (get_or rs i open_range).from ≡ false) × (no_number (get_or rs i open_range).to ≡ false)
  pub runs : (i : ℕ) → i < length rs → from_at t rs i < to_at t rs i
  pub apart : (i j : ℕ) → i < length rs → j < length rs → i ≢ j → (to_at t rs i ≤ from_at t rs j) ⊎ (to_at t rs j ≤ from_at t rs i)

-- where an overlap is found: range j overlaps one that comes before it, and no range that does so comes before j
pub record OverlapAt (t : ColumnType) (rs : List RangeAggregationRange) (j : ℕ) : Type 0 where
  pub there : j < length rs
  pub overlaps : (i : ℕ) × ((i < length rs) × ((earlier t rs i j ≡ true) × (from_at t rs j < to_at t rs i)))
  pub first : (k : ℕ) → k < length rs → late t rs k ≡ true → earlier t rs k j ≡ false

-- the starts of accepted ranges' tiling are what the words say of it
abbrev pub TilingOfAccepted : Type 0
TilingOfAccepted = (level : ℕ) (t : ColumnType) (rs : List RangeAggregationRange) → range_fault level t rs ≡ None → Shape (tiling_of t rs) × Tiles (length rs) (from_at t rs) (to_at t rs) (tiling_of t rs)
