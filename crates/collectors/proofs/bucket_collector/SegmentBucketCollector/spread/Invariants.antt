-- The values before i are placed.
use Rattle.std.proofs.Common.{take}
use Rattle.segments.specs.Segments.{values}
use Rattle.stack.specs.Levels.{step_of, steps_of_values}
use Rattle.collectors.specs.Filing.{placed_all}
use Rattle.collectors.specs.Calls.{FiledMore}
use Rattle.collectors.proofs.bucket_collector.SegmentBucketCollector.spread.Given as goal

abbrev pub invariant-loop-i : goal.invariant-loop-i
invariant-loop-i g l =
    let cache = g.C.SubAggCache in
    let seg = g.S.Segment.means l.seg in
    FiledMore g.K.RowTable.table cache.stored cache.waiting cache.plan cache.made seg
    (l.initial.self, l.initial.slots, l.initial.limits) (l.self, l.slots, l.limits)
    l.bucket (λ level F. placed_all F l.bucket l.doc (steps_of_values (step_of level) (take l.i (values seg l.column l.doc))))
