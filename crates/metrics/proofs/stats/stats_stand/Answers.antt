use Rattle.std.proofs.Common.{refl}
use lib.Ieee.{add, sub, of_int, of_bits, le, lt, eq, is_nan}
use Rattle.std.specs.Float.{float_is_finite}
use Rattle.metrics.proofs.stats.stats_stand.Goals as goal

pub returns : goal.returns
unfolding add sub of_int of_bits float_is_finite le lt eq is_nan
returns c = record { kahan = refl; infinite = refl; least = refl }
