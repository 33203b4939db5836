-- The row itself, then the rows below it.
use Rattle.std.proofs.Common.{◌≡◌, ℕ, ◌+◌, ◌<◌, ◌≤◌, List, [], ◌∷◌, ◌++◌, length, ℤ, sym, ap, ◌∙◌, subst, arith, length-append, w64, SFits, rules}
use Rattle.std.proofs.lemmas.Int.{to_z-of_z}
use Rattle.records.specs.Paths.{steps_of}
use Rattle.records.specs.Rows.{Entry, entry_of}
use Rattle.records.specs.declared.row.Row.{Row}
use Rattle.stack.specs.Writing.{above_steps, Feeding, row_worth, Written, Put}
use Rattle.collectors.proofs.Writing.{put_then, put_one, put_size}
use Rattle.collectors.proofs.bucket_collector.SegmentBucketCollector.write_row.Goals as goal

pub returns : goal.returns
returns g c = λ seg n buckets E rests prepared inside stored depth.
    let rows = g.K.RowTable in
    let cache = g.C.SubAggCache in
    let tally = g.C.Fruit.Tally in
    let t = rows.table c.args.self.now.inner in
    let was = c.args.self.now.below in
    let slots = c.args.slots.now in
    let feeding : Feeding tally.Worth = record { nothing = tally.nothing; fed = tally.fed } in
    let column = (cache.plan was).column in
    let type = (cache.plan was).field_type in
    let ls = (cache.plan was).levels in
    let above = above_steps c.args.above in
    let fits : SFits w64 c.step_of.result = search rules in
    let path : steps_of c.in-Some.path ≡ above ++ (t.step c.args.row ∷ []) = c.in-Some.ensures ∙ ap (λ (s : ℤ). above ++ (s ∷ [])) (to_z-of_z w64 c.step_of.result fits ∙ c.step_of.ensures c.requires) in
    let size : length (steps_of c.in-Some.path) ≡ length above + 1 = ap length path ∙ length-append above (t.step c.args.row ∷ []) in
    let below = c.write_rows.ensures seg n buckets E rests prepared inside stored (omega (arith, size, depth, length-append above (t.step c.args.row ∷ []))) in
    let es = below.0 in
    let entry : Entry tally.Worth = record { path = above ++ (t.step c.args.row ∷ []); count = t.count c.args.row; worth = row_worth feeding ls column type seg (E c.args.row) } in (
      es,
      (
        subst (λ (p : List ℤ). Written feeding column type seg ls p (E c.args.row) es) path below.1.0,
        λ room.
            let worth : tally.worth c.tally_of-tally.result ≡ row_worth feeding ls column type seg (E c.args.row) = c.tally_of-tally.ensures seg n buckets E rests prepared inside stored in
            let row : Row g.row.C-Fruit.Denot = record { path = c.in-Some.path; count = c.count_of-count.result; tally = c.tally_of-tally.result } in
            let same : entry_of tally.worth row ≡ entry = λ i. record { path = path i; count = c.count_of-count.ensures c.requires i; worth = worth i } in
            let room1 : c.args.at < length c.args.out.now = omega (arith, room) in
            let wrote = c.put_row-next.ensures room1 in
            let room2 : c.put_row-next.result + length es ≤ length c.put_row-next.new.out = omega (arith, room, wrote.1, c.put_row-next.auto.out) in
            let rest = subst (λ (k : ℕ). Put tally.worth c.put_row-next.new.out c.write_rows.new.out k c.write_rows.result es) wrote.1 (below.1.1 room2) in
            put_then (omega (arith, room, rest.size, put_size rest))
            (subst (λ z. Put tally.worth c.args.out.now z c.args.at (c.args.at + 1) (entry ∷ [])) (sym wrote.0) (put_one row room1 same))
            rest,
      ),
    )
