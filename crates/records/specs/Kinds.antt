-- The numbers of the kinds of levels.
use Rattle.std.specs.Prelude.{ℕ}
use Rattle.records.specs.declared.kind.Kind.{Kind}
use Rattle.records.specs.declared.kind.Kind.TheVariants.{Range, Histogram}

abbrev pub kind_number : Kind → ℕ
kind_number Range = 1
kind_number Histogram = 2
