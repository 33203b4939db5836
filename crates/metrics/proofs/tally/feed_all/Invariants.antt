use Rattle.std.proofs.Common.{◌≡◌, take}
use Rattle.metrics.specs.Tallies.{fed_all}
use Rattle.metrics.proofs.tally.feed_all.Given as goal

abbrev pub invariant-loop-val : goal.invariant-loop-val
invariant-loop-val g l =
    g.T.Tally.worth l.tally ≡ fed_all g.T.Tally.fed l.field_type (take l.val-index l.vals) (g.T.Tally.worth l.initial.tally)
