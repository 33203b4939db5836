-- Below a bucket the rows follow one another, one for each tile.
use Rattle.std.proofs.Common.{◌≡◌, ◌+◌, ◌*◌, ltb, ap, ap₂, ◌∙◌, inl}
use Rattle.std.specs.Bool.{then_some}
use Rattle.range_rows.specs.Shown.{tiles_of}
use Rattle.range_rows.specs.Numbering.{row_if_there, row_past}
use Rattle.range_rows.proofs.row_table.RangeRowsRowTable.row_at.Goals as goal

pub returns-then-index-num_tiles : goal.returns-then-index-num_tiles
returns-then-index-num_tiles c = row_past c.args.self.now c.args.bucket c.args.index (inl (rw c.num_tiles.ensures.value at c.if-index-num_tiles.true))

pub returns : goal.returns
returns c =
    let row = c.args.bucket * tiles_of c.args.self.now + c.args.index in
    let e : c.first_row.result + c.args.index ≡ row = ap (λ k. k + c.args.index) c.first_row.ensures in
    c.then_some.ensures ∙ ap₂ (λ k n. then_some (ltb k n) k) e c.num_rows.ensures
    ∙ row_if_there c.args.self.now c.args.bucket c.args.index (rw c.num_tiles.ensures.value at c.if-index-num_tiles.false)
