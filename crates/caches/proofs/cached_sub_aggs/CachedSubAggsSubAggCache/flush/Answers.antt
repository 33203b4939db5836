use Rattle.caches.specs.Parts.{handled-on}
use Rattle.caches.proofs.cached_sub_aggs.CachedSubAggsSubAggCache.flush.Goals as goal

pub returns : goal.returns
returns g c =
    let level = g.L.SegmentAggregationCollector in
    let was = c.args.self.now in
    let half = c.hand_over.new in
    let end = c.flush.new in
    handled-on level.holds level.plan level.made (g.S.Segment.means c.args.seg.now)
    (was.below, c.args.slots.now, c.args.limits.now) (half.self.below, half.slots, half.limits) (g.B.Buffer.waiting was.buffer)
    c.in_ok-hand_over.ensures.0 c.hand_over.auto.slots (end.self, end.slots, end.limits) c.flush.result (λ settled. (c.in_ok-hand_over.ensures.1, settled)) c.flush.ensures
