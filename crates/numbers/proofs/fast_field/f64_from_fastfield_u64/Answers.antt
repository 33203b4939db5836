use Rattle.std.proofs.Common.{◌≡◌, pos, sym, ap, ◌∙◌, rules}
use lib.IntN.{+ℤ_idr}
use lib.Ieee.{binary64, of_int}
use Rattle.records.specs.ColumnTypes.{whole}
use Rattle.numbers.specs.Columns.{number, number_of}
use Rattle.numbers.proofs.fast_field.f64_from_fastfield_u64.Goals as goal

pub returns-in-U64 : goal.returns-in-U64
unfolding number_of
returns-in-U64 c =
    let e : c.nearest_u64_to_f64.result ≡ number (whole 0) c.args.val = c.nearest_u64_to_f64.ensures ∙ ap (of_int binary64) (sym (+ℤ_idr (pos c.args.val))) in
    search rules

pub returns-in-I64 : goal.returns-in-I64
unfolding number_of
returns-in-I64 c = search rules

pub returns-in-F64 : goal.returns-in-F64
unfolding number_of
returns-in-F64 c = search rules
