-- What each column type sets: how its u64 values stand for numbers, and what a request's numbers are multiplied by.
use Rattle.std.specs.Prelude.{ℕ, ◌^◌, Some, None, Option, from_bits, Float}
use Rattle.std.specs.Float.{binary64}
use Rattle.std.specs.Float.Ieee.{mul}
use Rattle.records.specs.declared.column_type.ColumnType.{ColumnType}
use Rattle.records.specs.declared.column_type.ColumnType.TheVariants.{U64, I64, F64, DateTime}

-- a value v stands for the whole number v - shift, or for the float that its bits name, in an order-keeping form
pub data Form : Type 0 where
  whole : (shift : ℕ) → Form
  float : Form

pub record Rule : Type 0 where
  pub form : Form
  pub factor : Option Float

-- milliseconds to nanoseconds: 1,000,000.0
abbrev pub million : Float
million = from_bits binary64 0x412e_8480_0000_0000

abbrev pub rule : ColumnType → Rule
rule U64 = record { form = whole 0; factor = None }
rule I64 = record { form = whole (2 ^ 63); factor = None }
rule F64 = record { form = float; factor = None }
rule ColumnType.Bool = record { form = whole 0; factor = None }
rule DateTime = record { form = whole (2 ^ 63); factor = Some million }

-- a request's number in the column's unit
abbrev pub scaled : Option Float → Float → Float
scaled None x = x
scaled (Some f) x = mul binary64 x f
