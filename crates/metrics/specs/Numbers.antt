-- How many values there were, at most 2 ^ 64 - 1.
use Rattle.std.specs.Prelude.{◌≡◌, ℕ, ◌+◌, ◌-◌, ◌^◌, ◌≤◌, min, List, length}
use Rattle.std.proofs.Math.Nat.{min-le_right}
use Rattle.records.specs.declared.column_type.ColumnType.{ColumnType}
use Rattle.metrics.specs.Tallies.{fed_all}
use Rattle.metrics.specs.declared.number.Number.{Number}

pub record Counted : Type 0 where
  pub count : ℕ
  pub most : count ≤ 2 ^ 64 - 1

abbrev pub capped : ℕ → Counted
capped n = record { count = min n (2 ^ 64 - 1); most = min-le_right n (2 ^ 64 - 1) }

abbrev pub added : Counted → Counted → Counted
added c d = capped (c.count + d.count)

abbrev pub one_more : Counted → Counted
one_more c = added c (capped 1)

-- what a Number is worth
abbrev pub number_worth : Number → Counted
number_worth m = capped m.count

-- a Number is worth how many values it was fed
abbrev pub Counts : Type 0
Counts = (t : ColumnType) (vs : List ℕ) → fed_all (λ _ _. one_more) t vs (capped 0) ≡ capped (length vs)
