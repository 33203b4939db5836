-- The values before `index` are fed.
use Rattle.std.proofs.Common.{◌≡◌, take}
use Rattle.metrics.specs.Tallies.{fed_all}
use Rattle.segments.specs.Segments.{values}
use Rattle.bottom.proofs.metric_collector.SegmentMetricCollector.feed_doc.Given as goal

abbrev pub invariant-loop-index : goal.invariant-loop-index
invariant-loop-index g l =
    let t = g.T.Tally in
    let vs = values (g.S.Segment.means l.seg) l.self.column l.doc in
    t.worth l.slot ≡ fed_all t.fed l.self.field_type (take l.index vs) (t.worth l.initial.slot)
