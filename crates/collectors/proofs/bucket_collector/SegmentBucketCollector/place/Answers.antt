-- The value's row is found or made, counted up, and the document sent on.
use Rattle.std.proofs.lemmas.Result.{err_from_is_err_and, MatchResult-weaker}
use Rattle.collectors.specs.Sending.{place-sent, put-missed, row-missed}
use Rattle.collectors.proofs.bucket_collector.SegmentBucketCollector.place.Goals as goal

pub returns-in_err-row : goal.returns-in_err-row
returns-in_err-row g c =
    let q = err_from_is_err_and c.from_residual.result c.from_residual.ensures.1 in
    rw (q.1, q.2) (row-missed (g.met.K.RowTable.sound c.row_for.new.self) c.args.doc (g.met.C.SubAggCache.rows c.args.self.now.below c.args.slots.now (g.S.Segment.means c.args.seg.now)) c.in_err-row.ensures)

pub returns-in-Some : goal.returns-in-Some
returns-in-Some g c =
    let sound = g.met.K.RowTable.sound c.row_for.new.self in
    let found = rw c.in-Some.is at c.in_ok-row.ensures in
    let wider = g.met.C.SubAggCache.wider c.args.self.now.below c.args.slots.now (g.S.Segment.means c.args.seg.now) in
    MatchResult-weaker c.put.result c.put.ensures (λ x done. place-sent sound found wider c.args.doc done.0 done.1) (λ f refused. put-missed sound found wider refused)
