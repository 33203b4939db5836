-- The grid of a histogram: slots of one length, `interval`, one of which begins at `offset`. Slot p holds the values v with
-- floor((v - offset) / interval) = p, and begins at p * interval + offset.
use Rattle.std.specs.Prelude.{◌≡◌, ℕ, Bool, false, cond, not, ◌&&◌, ◌||◌, T, ℤ, ◌≤ℤ◌, is_some, Some, None, Option, from_bits, is_nan, nat_lt, Float}
use Rattle.std.specs.Float.{nan, binary64}
use Rattle.std.specs.Float.Ieee.{add, sub, mul, div, of_int, lt, le}
use Rattle.std.specs.Float as Floats
use Rattle.std.specs.Option.{option_map, unwrap_or}
use Rattle.records.specs.ColumnTypes.{rule, scaled}
use Rattle.records.specs.declared.column_type.ColumnType.{ColumnType}
use Rattle.records.specs.declared.fault.Fault.{Fault}
use Rattle.records.specs.declared.fault.Refusal.{Refusal}
use Rattle.records.specs.declared.fault.Refusal.TheVariants.{BadGrid, MinDocCountWithExtendedBounds, ExtendedBoundsOutsideHard}
use Rattle.numbers.specs.Whole.{floor_i64}
use Rattle.buckets.specs.Ranges.{fault}
use Rattle.buckets.specs.declared.histogram.HistogramBounds.{HistogramBounds}
use Rattle.buckets.specs.declared.histogram.HistogramAggregation.{HistogramAggregation}
use Rattle.buckets.specs.declared.grid.Grid.{Grid}

abbrev pub zero : Float
zero = from_bits binary64 0

-- ---- slots

-- each operation is rounded once, and the floor brought into the range of an i64
abbrev pub slot_of : (interval offset v : Float) → ℤ
slot_of interval offset v = floor_i64 (div binary64 (sub binary64 v offset) interval)

abbrev pub key_of : (interval offset : Float) → ℤ → Float
key_of interval offset p = add binary64 (mul binary64 (of_int binary64 p) interval) offset

-- ends included
abbrev pub within : HistogramBounds → Float → Bool
within b v = le b.min v && le v b.max

-- hard bounds say which values count; without them every finite one does
abbrev pub counted : Option HistogramBounds → Float → Bool
counted None v = Floats.float_is_finite v
counted (Some b) v = within b v

abbrev pub position_of : Grid → Float → Option ℤ
position_of g v = cond (counted g.hard_bounds v) (Some (slot_of g.interval g.offset v)) None

-- ---- requests

-- the numbers of a request in the column's unit
abbrev pub in_unit_bounds : ColumnType → HistogramBounds → HistogramBounds
in_unit_bounds t b = record { min = scaled (rule t).factor b.min; max = scaled (rule t).factor b.max }

abbrev pub in_unit : ColumnType → HistogramAggregation → HistogramAggregation
in_unit t q = record {
  interval = scaled (rule t).factor q.interval;
  offset = option_map (scaled (rule t).factor) q.offset;
  min_doc_count = q.min_doc_count;
  hard_bounds = option_map (in_unit_bounds t) q.hard_bounds;
  extended_bounds = option_map (in_unit_bounds t) q.extended_bounds;
}

abbrev pub grid_of : ColumnType → HistogramAggregation → Grid
grid_of t q =
    let u = in_unit t q in
    record {
      interval = u.interval;
      offset = unwrap_or u.offset zero;
      hard_bounds = u.hard_bounds;
      extended_bounds = u.extended_bounds;
      min_doc_count = u.min_doc_count;
    }

-- ---- refusals

abbrev pub bad_offset : Option Float → Bool
bad_offset None = false
bad_offset (Some x) = not (Floats.float_is_finite x)

abbrev pub bad_bounds : Option HistogramBounds → Bool
bad_bounds None = false
bad_bounds (Some b) = is_nan b.min || is_nan b.max

-- the interval is not finite or not above 0, the offset is not finite, or a bound is a NaN
abbrev pub bad_grid : HistogramAggregation → Bool
bad_grid q = not (Floats.float_is_finite q.interval) || le q.interval zero || bad_offset q.offset || bad_bounds q.hard_bounds || bad_bounds q.extended_bounds

-- the extended bounds do not lie inside the hard ones
abbrev pub outside : (extended hard : Option HistogramBounds) → Bool
outside None hard = false
outside (Some e) None = false
outside (Some e) (Some h) = lt e.min h.min || lt h.max e.max

-- why a request is refused on a column: the first reason that applies, the last two on the numbers as given
abbrev pub grid_refusal : ColumnType → HistogramAggregation → Option Refusal
grid_refusal t q =
    cond (bad_grid q || bad_grid (in_unit t q)) (Some BadGrid)
    (cond (nat_lt 0 q.min_doc_count && is_some q.extended_bounds) (Some MinDocCountWithExtendedBounds)
    (cond (outside q.extended_bounds q.hard_bounds) (Some ExtendedBoundsOutsideHard) None))

-- the same with the level; a grid has no places
abbrev pub histogram_fault : ℕ → ColumnType → HistogramAggregation → Option Fault
histogram_fault level t q = option_map (λ refusal. fault refusal level 0) (grid_refusal t q)

-- ---- laws

-- the numbers of a grid are of use: the interval is finite and above 0, the offset finite, and no bound a NaN
pub record Sound (g : Grid) : Type 0 where
  pub interval_finite : T (Floats.float_is_finite g.interval)
  pub interval_above : T (lt zero g.interval)
  pub offset_finite : T (Floats.float_is_finite g.offset)
  pub hard_numbers : bad_bounds g.hard_bounds ≡ false
  pub extended_numbers : bad_bounds g.extended_bounds ≡ false

-- the grid of a request that is not refused is sound
abbrev pub SoundIfAccepted : Type 0
SoundIfAccepted = (t : ColumnType) (q : HistogramAggregation) → grid_refusal t q ≡ None → Sound (grid_of t q)

-- on a sound grid a larger number is in no lower slot
abbrev pub Rising : Type 0
Rising = (g : Grid) (v w : Float) → Sound g → T (le v w) → slot_of g.interval g.offset v ≤ℤ slot_of g.interval g.offset w

-- no grid counts a NaN
abbrev pub NanUncounted : Type 0
NanUncounted = (g : Grid) → position_of g nan ≡ None
