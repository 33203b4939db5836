-- The slots before the next are empty.
use Rattle.std.proofs.Common.{◌≡◌, ℕ, ◌<◌, get_or}
use Rattle.bottom.proofs.metric_collector.SegmentMetricCollectorSegmentAggregationCollector.reset.Given as goal

abbrev pub invariant-loop-slot : goal.invariant-loop-slot
invariant-loop-slot g l =
    let t = g.T.Tally in
    (k : ℕ) (d : _) → k < l.slot-index → t.worth (get_or l.slots k d) ≡ t.nothing
