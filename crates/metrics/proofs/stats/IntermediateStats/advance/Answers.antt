use Rattle.std.proofs.Common.{◌≡◌, true, rules}
use Rattle.std.specs.Bool.{passes}
use lib.Ieee.{binary64, fits}
use Rattle.metrics.proofs.Carrying.{carries}
use Rattle.metrics.proofs.stats.IntermediateStats.advance.Goals as goal

pub returns-clause-carried : goal.returns-clause-carried
returns-clause-carried c =
    let fit : fits binary64 c.args.y ≡ true = search rules in
    search (rules, carries c.args.self.now c.args.count c.args.y c.args.min c.args.max (passes _ fit))
