use Rattle.buckets.proofs.Requests.{sound}
use Rattle.buckets.proofs.grid.accepted_grid_stands.Goals as goal

pub returns : goal.returns
returns c = sound
