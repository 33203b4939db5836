use Rattle.stack.proofs.Overrunning.{overrun_more}
use Rattle.stack.proofs.model.overruns_stand.Goals as goal

pub returns : goal.returns
returns c = overrun_more
