use Rattle.stack.proofs.Readings.{reading_laws}
use Rattle.stack.proofs.model.readings_stand.Goals as goal

pub returns : goal.returns
returns c = reading_laws
