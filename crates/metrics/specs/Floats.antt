-- A float kept as bits: any NaN is one.
use Rattle.std.specs.Prelude.{◌≡◌, from_bits, to_bits, Float}
use Rattle.std.specs.Float.{binary64}
use Rattle.metrics.specs.declared.float_bits.FloatBits.{FloatBits}

-- the float that the bits stand for
abbrev pub float_of : FloatBits → Float
float_of b = from_bits binary64 b.bits

-- the bits that a float is kept as
abbrev pub bits_of : Float → FloatBits
bits_of x = record { bits = to_bits binary64 x }

-- b keeps x: it has the bits of x, and stands for x
pub record Keeps (b : FloatBits) (x : Float) : Type 0 where
  pub bits : b ≡ bits_of x
  pub float : float_of b ≡ x
