-- What a row says, whatever its tally holds: a path, a count and a worth.
use Rattle.std.specs.Prelude.{ℕ, List, map, ℤ}
use Rattle.records.specs.Paths.{steps_of}
use Rattle.records.specs.declared.row.Row.{Row}

pub record Entry (W : Type 0) : Type 0 where
  pub path : List ℤ
  pub count : ℕ
  pub worth : W

abbrev pub entry_of : {T W : Type 0} → (T → W) → Row T → Entry W
entry_of worth r = record { path = steps_of r.path; count = r.count; worth = worth r.tally }

abbrev pub entries : {T W : Type 0} → (T → W) → List (Row T) → List (Entry W)
entries worth rows = map (entry_of worth) rows
