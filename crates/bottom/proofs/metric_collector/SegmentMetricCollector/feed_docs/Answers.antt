-- Each document's values come behind those of the documents before it.
use Rattle.std.proofs.Common.{ap, ◌∙◌}
use Rattle.std.proofs.lemmas.List.{take_all}
use Rattle.metrics.specs.Tallies.{fed_all}
use Rattle.stack.specs.Levels.{values_of}
use Rattle.bottom.proofs.Filling.{doc_fed}
use Rattle.bottom.proofs.metric_collector.SegmentMetricCollector.feed_docs.Goals as goal

pub loop-doc-preserved : goal.loop-doc-preserved
loop-doc-preserved g c =
    let t = g.T.Tally in
    let m = g.S.Segment.means c.args.seg.now in
    doc_fed t.fed c.args.self.now.field_type m c.args.self.now.column c.args.docs.now c.loop-doc.doc-index (t.worth c.args.slot.now) (t.worth c.loop-doc.slot) (t.worth c.feed_doc.new.slot) c.loop-doc-test.true c.loop-doc.invariant c.feed_doc.ensures

pub returns : goal.returns
returns g c =
    let t = g.T.Tally in
    let m = g.S.Segment.means c.args.seg.now in
    c.loop-doc.invariant
    ∙ ap (λ ds. fed_all t.fed c.args.self.now.field_type (values_of m c.args.self.now.column ds) (t.worth c.args.slot.now)) (take_all c.loop-doc.doc-index c.args.docs.now c.loop-doc-test.false)
