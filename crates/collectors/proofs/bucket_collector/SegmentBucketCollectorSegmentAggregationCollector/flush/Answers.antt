use Rattle.std.proofs.lemmas.Result.{MatchResult-weaker}
use Rattle.stack.proofs.Delivering.{more_refl}
use Rattle.collectors.specs.Holding.{carried_went, carried_overran}
use Rattle.collectors.specs.Carrying.{waits_none, hand_went, hand_overran}
use Rattle.collectors.proofs.bucket_collector.SegmentBucketCollectorSegmentAggregationCollector.flush.Goals as goal

pub returns : goal.returns
returns g c =
    MatchResult-weaker c.flush.result c.flush.ensures
    (λ x h. (carried_went (g.S.Segment.means c.args.seg.now) (hand_went (waits_none (g.met.C.SubAggCache.waits c.flush.new.self) h.1.0) h.0), h.1))
    (λ f over. carried_overran (g.met.K.RowTable.sound c.args.self.now.inner) (hand_overran more_refl over))
