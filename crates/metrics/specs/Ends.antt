-- The smallest and the largest of some values, or none.
use Rattle.std.specs.Prelude.{◌≡◌, ℕ, ◌≤◌, min, max, List, [], Some, None, Option}
use mathlib.Core.List.{Memᴰ}
use Rattle.records.specs.declared.column_type.ColumnType.{ColumnType}
use Rattle.std.specs.List.{AllByRecursion}
use Rattle.metrics.specs.Tallies.{fed_all}

abbrev pub Ends : Type 0
Ends = Option (ℕ × ℕ)

-- the ends of the values of both
abbrev pub widened : Ends → Ends → Ends
widened None e = e
widened (Some p) None = Some p
widened (Some p) (Some q) = Some (min p.0 q.0, max p.1 q.1)

abbrev pub least_of : Ends → Option ℕ
least_of None = None
least_of (Some p) = Some p.0

abbrev pub greatest_of : Ends → Option ℕ
greatest_of None = None
greatest_of (Some p) = Some p.1

-- the ends once a value is fed
abbrev pub reaching : ColumnType → ℕ → Ends → Ends
reaching _ v e = widened e (Some (v, v))

-- the ends of a list: none where it is empty, else two of its values, with every value from the one to the other
abbrev pub EndsOf : List ℕ → Ends → Type 0
EndsOf vs None = vs ≡ []
EndsOf vs (Some p) = Memᴰ p.0 vs × Memᴰ p.1 vs × AllByRecursion (λ v. (p.0 ≤ v) × (v ≤ p.1)) vs

-- Extremes are worth the ends of the values fed
abbrev pub Reaches : Type 0
Reaches = (t : ColumnType) (vs : List ℕ) → EndsOf vs (fed_all reaching t vs None)
