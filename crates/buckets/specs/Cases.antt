-- Worked cases of grids and tilings.
use Rattle.std.specs.Prelude.{◌≡◌, ℕ, ◌-◌, ◌^◌, List, [], ◌∷◌, ℤ, pos, negsuc, Some, None, Option, from_bits, Float}
use Rattle.std.specs.Float.{binary64}
use Rattle.records.specs.declared.column_type.ColumnType.TheVariants.{U64, F64}
use Rattle.records.specs.declared.fault.Refusal.TheVariants.{OverlappingRanges}
use Rattle.buckets.specs.Grids.{grid_of, position_of, key_of}
use Rattle.buckets.specs.Ranges.{start_of, from_at, to_at, fault, range_fault, tiling_of}
use Rattle.buckets.specs.Tilings.{tile_of, Shape, Tiles}
use Rattle.buckets.specs.declared.grid.Grid.{Grid}
use Rattle.buckets.specs.declared.range.RangeAggregationRange.{RangeAggregationRange}

-- 4, 5, 10 and so on
abbrev four : Float
four = from_bits binary64 0x4010_0000_0000_0000

abbrev five : Float
five = from_bits binary64 0x4014_0000_0000_0000

abbrev ten : Float
ten = from_bits binary64 0x4024_0000_0000_0000

abbrev twenty : Float
twenty = from_bits binary64 0x4034_0000_0000_0000

abbrev twenty_one : Float
twenty_one = from_bits binary64 0x4035_0000_0000_0000

abbrev thirty : Float
thirty = from_bits binary64 0x403e_0000_0000_0000

-- 0.1, 0.3, 9.5 and 12.5
abbrev tenth : Float
tenth = from_bits binary64 0x3fb9_9999_9999_999a

abbrev three_tenths : Float
three_tenths = from_bits binary64 0x3fd3_3333_3333_3333

abbrev nine_and_a_half : Float
nine_and_a_half = from_bits binary64 0x4023_0000_0000_0000

abbrev twelve_and_a_half : Float
twelve_and_a_half = from_bits binary64 0x4029_0000_0000_0000

-- -1, -5 and -10
abbrev minus_one : Float
minus_one = from_bits binary64 0xbff0_0000_0000_0000

abbrev minus_five : Float
minus_five = from_bits binary64 0xc014_0000_0000_0000

abbrev minus_ten : Float
minus_ten = from_bits binary64 0xc024_0000_0000_0000

-- the grid of an interval and an offset, and no bounds
abbrev grid : Float → Option Float → Grid
grid interval offset = grid_of F64 (record { interval = interval; offset = offset; min_doc_count = 0; hard_bounds = None; extended_bounds = None })

-- the first value of slot p
abbrev key : Grid → ℤ → Float
key g p = key_of g.interval g.offset p

abbrev range : Float → Option Float → RangeAggregationRange
range from to = record { from = Some from; to = to }

-- 10 to 20, and from 30 on
abbrev pub two_ranges : List RangeAggregationRange
two_ranges = range ten (Some twenty) ∷ range thirty None ∷ []

abbrev two_tiled : List ℕ
two_tiled = 0 ∷ 10 ∷ 20 ∷ 30 ∷ []

pub record WorkedCases : Type 0 where
  pub within : position_of (grid ten None) nine_and_a_half ≡ Some (pos 0)
  pub at_end : position_of (grid ten None) ten ≡ Some (pos 1)
  pub negative : position_of (grid ten None) minus_one ≡ Some (negsuc 0)
  pub at_start : position_of (grid ten None) minus_ten ≡ Some (negsuc 0)
  pub offset : position_of (grid ten (Some five)) four ≡ Some (negsuc 0)
  pub offset_key : key (grid ten (Some five)) (negsuc 0) ≡ minus_five
  -- (0.3 - 0) / 0.1 rounds to a number below 3
  pub tenths : position_of (grid tenth None) three_tenths ≡ Some (pos 2)
  pub shape : Shape two_tiled
  pub tiles : Tiles 2 (from_at U64 two_ranges) (to_at U64 two_ranges) two_tiled
  pub starts : tiling_of U64 two_ranges ≡ two_tiled
  pub at_hole : tile_of two_tiled 20 ≡ 2
  pub last : tile_of two_tiled (2 ^ 64 - 1) ≡ 3
  pub rounded_up : start_of U64 (range twelve_and_a_half (Some twenty)) ≡ 13
  pub adjoining : (level : ℕ) → range_fault level U64 (range ten (Some twenty) ∷ range twenty (Some thirty) ∷ []) ≡ None
  pub overlapping : (level : ℕ) → range_fault level U64 (range ten (Some twenty_one) ∷ range twenty (Some thirty) ∷ []) ≡ Some (fault OverlappingRanges level 1)
