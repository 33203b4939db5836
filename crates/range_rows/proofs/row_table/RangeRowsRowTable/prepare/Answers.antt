-- The rows wanted are those of the tiles of each bucket.
use Rattle.std.proofs.Common.{◌≡◌, ℕ, MatchResult, subst}
use Rattle.std.proofs.lemmas.Result.{MatchResult-weaker}
use Rattle.range_rows.specs.Numbering.{prepared, not_prepared}
use Rattle.range_rows.proofs.row_table.RangeRowsRowTable.prepare.Goals as goal

pub returns : goal.returns
returns c =
    let was = c.args.self.now in
    let is = c.make_rows.new.self in
    let before = c.args.limits.now in
    let after = c.make_rows.new.limits in
    MatchResult-weaker c.make_rows.result (rw c.first_row-wanted.ensures at c.make_rows.ensures)
    (λ _ made. prepared was is before after c.args.buckets made)
    (λ f short. not_prepared was is before after c.args.buckets f short)
