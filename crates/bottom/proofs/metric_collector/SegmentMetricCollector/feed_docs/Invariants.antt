-- The values of the documents before the next are fed.
use Rattle.std.proofs.Common.{◌≡◌, take}
use Rattle.metrics.specs.Tallies.{fed_all}
use Rattle.stack.specs.Levels.{values_of}
use Rattle.bottom.proofs.metric_collector.SegmentMetricCollector.feed_docs.Given as goal

abbrev pub invariant-loop-doc : goal.invariant-loop-doc
invariant-loop-doc g l =
    let t = g.T.Tally in
    let m = g.S.Segment.means l.seg in
    t.worth l.slot ≡ fed_all t.fed l.bottom.field_type (values_of m l.bottom.column (take l.doc-index l.docs)) (t.worth l.initial.slot)
