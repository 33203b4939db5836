-- The rows wanted are those of the buckets up to the value's own.
use Rattle.std.proofs.Common.{◌≡◌, ◌+◌, ◌*◌, ◌∙◌, ap₂, add-mul, arith}
use Rattle.std.proofs.lemmas.Result.{err_from_is_err_and}
use Rattle.rows.specs.Tables.{unprepared}
use Rattle.range_rows.specs.Shown.{tiles_of}
use Rattle.range_rows.specs.Numbering.{row_found, not_prepared}
use Rattle.range_rows.proofs.row_table.RangeRowsRowTable.row_for.Goals as goal

pub returns-in_err-make_rows : goal.returns-in_err-make_rows
returns-in_err-make_rows c =
    let q = err_from_is_err_and c.from_residual.result c.from_residual.ensures.1 in
    let b = c.args.bucket in
    let t = tiles_of c.args.self.now in
    let next : c.first_row.result + c.num_tiles.result ≡ (b + 1) * t = ap₂ ◌+◌ c.first_row.ensures c.num_tiles.ensures.value ∙ omega (arith, add-mul b 1 t) in
    rw (q.1, q.2) (unprepared (not_prepared c.args.self.now c.make_rows.new.self c.args.limits.now c.make_rows.new.limits (b + 1) c.in_err-make_rows.field-0.0 (rw next at c.in_err-make_rows.ensures)))

pub returns : goal.returns
returns c =
    let was = c.args.self.now in
    let b = c.args.bucket in
    let e : c.first_row.result + c.num_tiles.result ≡ b * tiles_of was + tiles_of was = ap₂ ◌+◌ c.first_row.ensures c.num_tiles.ensures.value in
    row_found was c.make_rows.new.self c.args.limits.now c.make_rows.new.limits b c.args.val c.row_of.result (rw e at c.in_ok-make_rows.ensures) c.row_of.ensures.value c.row_of.ensures.inside
