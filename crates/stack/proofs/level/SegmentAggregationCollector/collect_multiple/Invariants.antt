-- The runs before `start` are delivered.
use Rattle.std.proofs.Common.{◌-◌, ◌≤◌}
use Rattle.stack.specs.Overruns.{all_added}
use Rattle.stack.specs.Calls.{Went, Inside, paired}
use Rattle.stack.proofs.Pairing.{before}
use Rattle.stack.proofs.level.SegmentAggregationCollector.collect_multiple.Given as goal

abbrev pub invariant-loop-start : goal.invariant-loop-start
invariant-loop-start g l =
    let level = g.Self.SegmentAggregationCollector in
    let seg = g.S.Segment.means l.seg in
    Went (level.holds l.initial.self l.initial.slots seg) (level.holds l.self l.slots seg)
    (Inside (paired l.bucket_ids l.docs)) (λ D. all_added D (before l.bucket_ids l.docs l.start))
    (level.plan l.initial.self) (level.plan l.self) l.initial.limits l.limits (level.made l.initial.self) (level.made l.self)
    × (l.start ≤ l.pairs)

abbrev pub decreases-loop-start : goal.decreases-loop-start
decreases-loop-start g l = l.pairs - l.start
