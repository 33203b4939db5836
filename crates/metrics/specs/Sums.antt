-- A running sum with its compensation, on the numbers themselves, and how IntermediateStats keeps them as bits.
use Rattle.std.specs.Prelude.{ℕ, ◌+◌, ◌-◌, ◌^◌, min, true, false, cond, pos, Some, None, Option, ◌==◌, from_bits, Float}
use Rattle.std.specs.Float.Ieee.{add, sub, div, of_int}
use Rattle.std.specs.Float.{float_is_finite, float_min, float_max, inf, binary64}
use Rattle.metrics.specs.Floats.{float_of, bits_of}
use Rattle.metrics.specs.declared.stats.IntermediateStats.{IntermediateStats}
use Rattle.metrics.specs.declared.stats.Stats.{Stats}

pub record Sums : Type 0 where
  pub count : ℕ
  pub sum : Float
  pub delta : Float
  pub low : Float
  pub high : Float

abbrev pub no_sums : Sums
no_sums = record { count = 0; sum = from_bits binary64 0; delta = from_bits binary64 0; low = inf false; high = inf true }

-- the compensation once y is added to a sum: what the rounded sum rose by, less y; 0 where the sum is not finite
abbrev pub excess : Float → Float → Float
excess s y =
    let t = add binary64 s y in
    cond (float_is_finite t) (sub binary64 (sub binary64 t s) y) (from_bits binary64 0)

-- n values more, y to be added, and the least and greatest of these values.
-- A NaN is never the least or the greatest, and of -0 and +0 the earlier stays.
abbrev pub advanced : Sums → ℕ → Float → Float → Float → Sums
advanced s n y l h =
    record {
      count = min (s.count + n) (2 ^ 64 - 1);
      sum = add binary64 s.sum y;
      delta = excess s.sum y;
      low = float_min s.low l;
      high = float_max s.high h;
    }

-- a value is added less the compensation
abbrev pub collected : Sums → Float → Sums
collected s v = advanced s 1 (sub binary64 v s.delta) v v

-- so is another sum, less both compensations
abbrev pub merged : Sums → Sums → Sums
merged s o = advanced s o.count (sub binary64 o.sum (add binary64 s.delta o.delta)) o.low o.high

-- what is printed; an average, a least and a greatest only where there is a value
abbrev pub if_any : Sums → Float → Option Float
if_any s x = cond (s.count == 0) None (Some x)

abbrev pub mean : Sums → Option Float
mean s = if_any s (div binary64 s.sum (of_int binary64 (pos s.count)))

abbrev pub finalized : Sums → Stats
finalized s = record { count = s.count; sum = s.sum; min = if_any s s.low; max = if_any s s.high; avg = mean s }

-- the numbers that the bits stand for: any NaN is one
abbrev pub stats_worth : IntermediateStats → Sums
stats_worth s = record { count = s.count; sum = float_of s.sum; delta = float_of s.delta; low = float_of s.min; high = float_of s.max }

abbrev pub stored : Sums → IntermediateStats
stored s = record { count = s.count; sum = bits_of s.sum; delta = bits_of s.delta; min = bits_of s.low; max = bits_of s.high }
