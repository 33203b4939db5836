-- Each index reads the next value, and the values read until the last are all of them.
use Rattle.std.proofs.Common.{◌≤◌, length, sym, ap, ◌∙◌, arith}
use Rattle.std.proofs.lemmas.List.{take_all}
use Rattle.metrics.specs.Tallies.{fed_all}
use Rattle.segments.specs.Segments.{values}
use Rattle.bottom.proofs.Filling.{value_fed, none_fed}
use Rattle.bottom.proofs.metric_collector.SegmentMetricCollector.feed_doc.Goals.{in-Some, in_default}
use Rattle.bottom.proofs.metric_collector.SegmentMetricCollector.feed_doc.Goals as goal

pub loop-index-preserved : goal.loop-index-preserved
loop-index-preserved g c =
    let t = g.T.Tally in
    let vs = values (g.S.Segment.means c.args.seg.now) c.args.self.now.column c.args.doc in
    let i = c.loop-index.index in
    let was = t.worth c.args.slot.now in
    elim c.match-value_at.branch [
      | in-Some w ↦ ap t.worth w.slot-is ∙ value_fed t.fed c.args.self.now.field_type vs i w.in-Some.val was (t.worth c.loop-index.slot) (t.worth w.feed.new.self) c.loop-index.invariant (sym c.value_at.ensures ∙ w.in-Some.is) w.feed.ensures
      | in_default w ↦ ap t.worth w.slot-is ∙ none_fed t.fed c.args.self.now.field_type vs i was (t.worth c.loop-index.slot) c.loop-index.invariant (sym c.value_at.ensures ∙ w.in_default.is)
    ]

pub returns : goal.returns
returns g c =
    let t = g.T.Tally in
    let vs = values (g.S.Segment.means c.args.seg.now) c.args.self.now.column c.args.doc in
    let past : length vs ≤ c.loop-index.index = omega (arith, c.num_values-index-end.ensures, c.loop-index-test.false) in
    c.loop-index.invariant ∙ ap (λ xs. fed_all t.fed c.args.self.now.field_type xs (t.worth c.args.slot.now)) (take_all c.loop-index.index vs past)
