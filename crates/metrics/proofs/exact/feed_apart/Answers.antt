use Rattle.metrics.proofs.Feeding.{fed_apart}
use Rattle.metrics.proofs.exact.feed_apart.Goals as goal

pub returns : goal.returns
returns g c =
    let both =
    fed_apart c.exact_below_stands.ensures c.args.field_type c.args.xs.now c.args.ys.now c.empty-tally.result c.empty-other.result c.feed_all.new.tally c.feed_all-2.new.tally c.merge_fruits.new.self c.empty-tally.ensures c.empty-other.ensures c.feed_all.ensures c.feed_all-2.ensures c.merge_fruits.ensures
    in
    record { together = both.0; turned = both.1 }
