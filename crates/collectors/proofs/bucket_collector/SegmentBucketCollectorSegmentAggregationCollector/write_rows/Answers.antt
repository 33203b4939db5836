-- Each turn writes one row with the rows below it; at the end all that are listed are written.
use Rattle.std.proofs.Common.{ℕ, suc, List, [], ◌∷◌, ◌++◌, take, sym, refl, subst, arith, length-append}
use Rattle.segments.proofs.Values.{more, past}
use Rattle.stack.specs.Writing.{above_steps, Feeding}
use Rattle.collectors.proofs.Writing.{BlocksOf, entry_at, blocks_more, put_none, put_then, put_size, listed_row, listed_few, level_put}
use Rattle.collectors.proofs.bucket_collector.SegmentBucketCollectorSegmentAggregationCollector.write_rows.Goals as goal

pub write_row-end-requires : goal.write_row-end-requires
write_row-end-requires g c =
    let inner = c.args.self.now.inner in
    listed_row (g.K.RowTable.table inner) c.args.bucket (g.K.RowTable.listed inner c.args.bucket) c.loop-index.index c.in-Some.row (g.met.K.RowTable.lists inner c.args.bucket) (sym c.in-Some.ensures)

pub loop-index-init : goal.loop-index-init
loop-index-init g c = λ seg n E rests prepared stored depth. ([], (refl, λ room. put_none g.C.Fruit.Tally.worth c.args.out.now c.args.at))

pub loop-index-preserved : goal.loop-index-preserved
loop-index-preserved g c = λ seg n E rests prepared stored depth.
    let rows = g.K.RowTable in
    let tally = g.C.Fruit.Tally in
    let t = rows.table c.args.self.now.inner in
    let plan = g.C.SubAggCache.plan c.args.self.now.below in
    let feeding : Feeding tally.Worth = record { nothing = tally.nothing; fed = tally.fed } in
    let above = above_steps c.args.above in
    let listed = rows.listed c.args.self.now.inner c.args.bucket in
    let i = c.loop-index.index in
    let k = c.in-Some.row in
    let read = sym c.in-Some.ensures in
    let there = listed_row t c.args.bucket listed i k (g.met.K.RowTable.lists c.args.self.now.inner c.args.bucket) read in
    let inv = c.loop-index.invariant seg n E rests prepared stored depth in
    let one = c.write_row-end.ensures seg n t.rows E rests prepared there stored (omega (arith, depth, length-append above (t.step k ∷ []))) in
    let es = inv.0 in
    let bs = one.0 in
    let entry = entry_at feeding plan seg t E above k in (
      es ++ (entry ∷ bs),
      (
        subst (λ (ks : List ℕ). BlocksOf feeding plan seg t E above ks (es ++ (entry ∷ bs))) (sym (more listed i k read)) (blocks_more feeding plan seg t E above (take i listed) es k bs inv.1.0 one.1.0),
        λ room.
            let size = length-append es (entry ∷ bs) in
            let first = inv.1.1 (omega (arith, room, size)) in
            let fill = put_size first in
            let second = one.1.1 (omega (arith, room, size, first.size, fill, c.loop-index.auto.out)) in
            let fill2 = put_size second in
            put_then (omega (arith, room, size, first.size, fill, second.size, fill2)) first second,
      ),
    )

pub returns-in_default : goal.returns-in_default
returns-in_default g c =
    let cache = g.C.SubAggCache in
    let tally = g.C.Fruit.Tally in
    let inner = c.args.self.now.inner in
    let was = c.args.self.now.below in
    level_put tally.nothing tally.fed (cache.plan was) (above_steps c.args.above) (cache.stored was c.args.slots.now) (g.met.K.RowTable.sound inner) (g.met.C.SubAggCache.waits was) (g.met.K.RowTable.lists inner c.args.bucket)
    c.loop-index.invariant (past (g.K.RowTable.listed inner c.args.bucket) c.loop-index.index (sym c.in_default.ensures))

pub returns-after-loop-index : goal.returns-after-loop-index
returns-after-loop-index g c =
    let cache = g.C.SubAggCache in
    let tally = g.C.Fruit.Tally in
    let inner = c.args.self.now.inner in
    let was = c.args.self.now.below in
    let lists = g.met.K.RowTable.lists inner c.args.bucket in
    level_put tally.nothing tally.fed (cache.plan was) (above_steps c.args.above) (cache.stored was c.args.slots.now) (g.met.K.RowTable.sound inner) (g.met.C.SubAggCache.waits was) lists
    c.loop-index.invariant (omega (arith, listed_few (g.K.RowTable.table inner) c.args.bucket (g.K.RowTable.listed inner c.args.bucket) lists, c.loop-index-test.false, c.num_rows-index-end.ensures))
