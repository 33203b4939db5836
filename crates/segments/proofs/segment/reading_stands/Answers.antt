use Rattle.segments.proofs.Values.{reading}
use Rattle.segments.proofs.segment.reading_stands.Goals as goal

pub returns : goal.returns
returns c = reading
