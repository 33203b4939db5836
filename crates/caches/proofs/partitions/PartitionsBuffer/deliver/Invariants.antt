use Rattle.std.proofs.Common.{take}
use Rattle.stack.specs.Overruns.{all_added}
use Rattle.stack.specs.Calls.{Accepted, Inside}
use Rattle.caches.specs.Grouping.{group_waits}
use Rattle.caches.proofs.partitions.PartitionsBuffer.deliver.Given as goal

abbrev pub invariant-loop-partition : goal.invariant-loop-partition
invariant-loop-partition g l =
    let level = g.L.SegmentAggregationCollector in
    Accepted level.holds level.plan level.made (g.S.Segment.means l.seg)
    (l.initial.below, l.initial.slots, l.initial.limits) (l.below, l.slots, l.limits)
    (Inside (group_waits l.self.partitions)) (λ D. all_added D (group_waits (take l.partition-index l.self.partitions)))
