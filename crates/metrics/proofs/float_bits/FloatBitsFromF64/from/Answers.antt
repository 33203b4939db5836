use Rattle.std.proofs.Common.{◌≡◌, true, ap, ◌∙◌, rules}
use Rattle.std.specs.Bool.{passes}
use lib.Ieee.{binary64, fits, of_bits}
use lib.Ieee.Bits.{of_bits-to_bits}
use Rattle.metrics.proofs.float_bits.FloatBitsFromF64.from.Goals as goal

pub returns : goal.returns
returns c =
    let fit : fits binary64 c.args.x ≡ true = search rules in
    record {
      bits = search rules;
      float = ap (of_bits binary64) c.f64_to_bits_with_nan.ensures ∙ of_bits-to_bits binary64 c.args.x (passes _ fit);
    }
