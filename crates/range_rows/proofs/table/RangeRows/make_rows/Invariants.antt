use Rattle.std.proofs.Common.{◌≡◌, ◌≤◌, max}
use Rattle.stack.specs.Calls.{Charged}
use Rattle.range_rows.specs.Shown.{Added}
use Rattle.range_rows.proofs.table.RangeRows.make_rows.Given as goal

abbrev pub invariant-loop : goal.invariant-loop
invariant-loop l = record {
  added : Added l.initial.self l.self;
  charged : Charged l.initial.limits l.limits l.initial.self.counts.rows l.self.counts.rows;
  reached : l.self.counts.rows ≡ l.counter;
  within : l.counter ≤ max l.initial.self.counts.rows l.wanted;
}
