use Rattle.buckets.proofs.Slots.{rising}
use Rattle.buckets.proofs.grid.slots_rise_stands.Goals as goal

pub returns : goal.returns
returns c = rising
