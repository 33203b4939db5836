use Rattle.buckets.proofs.Requests.{nan_uncounted}
use Rattle.buckets.proofs.grid.nan_uncounted_stands.Goals as goal

pub returns : goal.returns
returns c = nan_uncounted
