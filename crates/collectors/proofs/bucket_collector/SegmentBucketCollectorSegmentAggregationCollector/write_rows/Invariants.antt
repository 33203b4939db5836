-- The blocks of the rows before `index` are written, if there was room.
use Rattle.std.proofs.Common.{ℕ, suc, ◌+◌, ◌≤◌, List, length, take}
use Rattle.records.specs.Rows.{Entry}
use Rattle.segments.specs.Segments.{Seg}
use Rattle.stack.specs.Overruns.{Deliveries}
use Rattle.stack.specs.Writing.{above_steps, Put}
use Rattle.collectors.proofs.Writing.{BlocksOf}
use Rattle.collectors.proofs.bucket_collector.SegmentBucketCollectorSegmentAggregationCollector.write_rows.Given as goal

abbrev pub invariant-loop-index : goal.invariant-loop-index
invariant-loop-index g l =
    let rows = g.K.RowTable in
    let cache = g.C.SubAggCache in
    let tally = g.C.Fruit.Tally in
    let t = rows.table l.self.inner in
    let plan = cache.plan l.self.below in
    (seg : Seg) (n : ℕ) (E : Deliveries) → cache.rests l.self.below → cache.prepared l.self.below (length l.slots) t.rows → cache.stored l.self.below l.slots seg n t.rows E
    → length (above_steps l.above) + suc (length plan.levels) ≤ 3
    → (es : List (Entry tally.Worth)) × (BlocksOf (record { nothing = tally.nothing; fed = tally.fed }) plan seg t E (above_steps l.above) (take l.index (rows.listed l.self.inner l.bucket)) es
    × (l.at + length es ≤ length l.initial.out → Put tally.worth l.initial.out l.out l.at l.end es))
