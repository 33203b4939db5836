-- No row lies below the last level: none is written.
use Rattle.std.proofs.Common.{[], sym, refl, arith}
use Rattle.std.proofs.lemmas.List.{take-append-drop}
use Rattle.bottom.proofs.metric_collector.SegmentMetricCollectorSegmentAggregationCollector.write_rows.Goals as goal

pub returns : goal.returns
returns g c seg n buckets D s p i h few =
    ([], (refl, λ room. record { rows = []; whole = sym (take-append-drop c.args.at c.args._out.now); size = omega arith; entries_are = refl }))
