-- The documents before the one at hand are collected.
use Rattle.std.proofs.Common.{◌<◌, take}
use Rattle.stack.specs.Overruns.{added}
use Rattle.stack.specs.Calls.{Accepted}
use Rattle.collectors.specs.Calls.{held_in, plan_in, made_in}
use Rattle.collectors.proofs.bucket_collector.SegmentBucketCollectorSegmentAggregationCollector.collect.Given as goal

abbrev pub invariant-loop-doc : goal.invariant-loop-doc
invariant-loop-doc g l =
    let table = g.K.RowTable.table in
    let cache = g.C.SubAggCache in
    Accepted (held_in table cache.stored cache.waiting) (plan_in table cache.plan) (made_in table cache.made) (g.S.Segment.means l.seg)
    (l.initial.self, l.initial.slots, l.initial.limits) (l.self, l.slots, l.limits)
    (λ b. l.bucket < b) (λ D. added D l.bucket (take l.doc-index l.docs))
