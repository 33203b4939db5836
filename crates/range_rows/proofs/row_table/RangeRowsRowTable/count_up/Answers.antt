use Rattle.rows.proofs.Adding.{counted}
use Rattle.range_rows.proofs.row_table.RangeRowsRowTable.count_up.Goals as goal

pub returns : goal.returns
returns c = counted _ _ _ c.args.self.now.counts c.count_up.new.self c.args.row c.count_up.result c.count_up.ensures
