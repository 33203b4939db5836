-- Each case computes.
use Rattle.std.proofs.Common.{refl}
use lib.Ieee.{add, sub, mul, div, of_int, of_bits, is_nan}
use Rattle.std.specs.Float.{float_is_finite}
use Rattle.records.specs.declared.column_type.ColumnType.TheVariants.{U64}
use Rattle.numbers.specs.Columns.{value_of}
use Rattle.numbers.specs.Whole.{floor_i64}
use Rattle.buckets.specs.Cases.{two_ranges}
use Rattle.buckets.proofs.Rising.{tiling_tiles}
use Rattle.buckets.proofs.cases.worked_cases_stand.Goals as goal

pub returns : goal.returns
unfolding add sub mul div of_int of_bits is_nan float_is_finite value_of floor_i64
returns c = record {
  within = refl;
  at_end = refl;
  negative = refl;
  at_start = refl;
  offset = refl;
  offset_key = refl;
  tenths = refl;
  shape = (tiling_tiles 0 U64 two_ranges refl).0;
  tiles = (tiling_tiles 0 U64 two_ranges refl).1;
  starts = refl;
  at_hole = refl;
  last = refl;
  rounded_up = refl;
  adjoining = λ level. refl;
  overlapping = λ level. refl;
}
