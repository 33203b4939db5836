-- The row's count and its documents grow together.
use Rattle.std.proofs.lemmas.Result.{MatchResult-weaker}
use Rattle.collectors.specs.Filing.{refused_below}
use Rattle.collectors.specs.Putting.{put_went, put_overran}
use Rattle.collectors.proofs.bucket_collector.SegmentBucketCollector.put.Goals as goal

pub returns : goal.returns
returns g c =
    let up = (c.in_ok-count_up.ensures).1 in
    MatchResult-weaker c.deliver.result c.deliver.ensures (λ x went. (up, put_went c.args.doc c.requires up.here up.elsewhere went)) (λ f over. refused_below up.same_rows (put_overran over))
