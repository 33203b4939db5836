-- What is kept of 0, +∞ and −∞ is the worth of stats of no value.
use Rattle.std.proofs.Common.{◌≡◌}
use lib.Ieee.{binary64, of_bits}
use Rattle.metrics.specs.Floats.{Keeps}
use Rattle.metrics.specs.Sums.{no_sums, stats_worth}
use Rattle.metrics.specs.declared.float_bits.FloatBits.{FloatBits}

pub starts : (a b c d : FloatBits) → Keeps a (of_bits binary64 0) → Keeps b (of_bits binary64 0) → Keeps c (of_bits binary64 0x7ff0_0000_0000_0000) → Keeps d (of_bits binary64 0xfff0_0000_0000_0000) → stats_worth (record { count = 0; sum = a; delta = b; min = c; max = d }) ≡ no_sums
unfolding of_bits
starts a b c d p q r s = λ i. record { count = 0; sum = p.float i; delta = q.float i; low = r.float i; high = s.float i }
