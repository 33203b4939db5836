-- Each turn adds one row and its charge, or ends.
use Rattle.std.proofs.Common.{arith}
use Rattle.std.proofs.lemmas.Result.{err_from_is_err_and}
use Rattle.rows.proofs.Adding.{one_charged}
use Rattle.range_rows.proofs.Adding.{one_added, fell_short}
use Rattle.range_rows.proofs.table.RangeRows.make_rows.Goals as goal

pub returns-in_err-make_row : goal.returns-in_err-make_row
returns-in_err-make_row c =
    let q = err_from_is_err_and c.from_residual.result c.from_residual.ensures.1 in
    let i = c.loop.invariant in
    let r = c.in_err-make_row.ensures in
    rw (q.1, q.2, r.0) (fell_short c.args.self.now c.loop.self c.args.limits.now c.loop.limits c.make_row.new.limits c.args.wanted c.in_err-make_row.field-0.0 i.added i.charged (omega arith) r.1)

pub loop-preserved : goal.loop-preserved
loop-preserved c =
    let i = c.loop.invariant in
    let r = c.in_ok-make_row.ensures in
    record {
      added = one_added c.args.self.now c.loop.self c.make_row.new.self i.added r.1;
      charged = one_charged c.args.limits.now c.loop.limits c.make_row.new.limits c.args.self.now.counts.rows c.loop.self.counts.rows c.make_row.new.self.rows i.charged r.2 r.1.rows;
      reached = omega (arith, r.1.rows);
      within = omega arith;
    }
