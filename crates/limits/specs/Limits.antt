-- What a guard shows of its counter, what it gives back, and what a charge does.
use Rattle.std.specs.Prelude.{◌≡◌, ℕ, ◌+◌, ◌^◌, ◌<◌, ◌≤◌, Result, MatchResult}
use Rattle.std.specs.Borrow.{MutBor}
use Rattle.records.specs.declared.fault.Fault.{Fault}
use Rattle.records.specs.declared.fault.Refusal.TheVariants.{AllowanceExceeded}
use Rattle.limits.specs.declared.agg_limits.AggregationLimits.{AggregationLimits}
use Rattle.limits.specs.declared.agg_limits.AggregationLimitsGuard.{AggregationLimitsGuard}

-- the limit, and what is charged now, of the counter behind a guard
abbrev pub limit_of : AggregationLimitsGuard → ℕ
limit_of g = g.limits.now.limit

abbrev pub used_of : AggregationLimitsGuard → ℕ
used_of g = g.limits.now.used

-- the counter once the guard has ended
abbrev pub restored : AggregationLimitsGuard → AggregationLimits
restored g = record { limit = limit_of g; used = g.before }

-- a guard just opened on a counter: ending it at once would change nothing
pub record Opened (limits : MutBor AggregationLimits) (g : AggregationLimitsGuard) : Type 0 where
  pub counter : g.limits.ghost_name ≡ limits.ghost_name
  pub held : g.limits.now ≡ limits.now
  pub before : g.before ≡ limits.now.used

-- still the same guard: on the same counter, and ending it restores the same
pub record Same (g h : AggregationLimitsGuard) : Type 0 where
  pub counter : h.limits.ghost_name ≡ g.limits.ghost_name
  pub limit : limit_of h ≡ limit_of g
  pub before : h.before ≡ g.before

-- the fault of a refused charge
abbrev pub over_allowance : ℕ → Fault
over_allowance level = record { refusal = AllowanceExceeded; level = level; place = 0 }

-- an accepted charge is added, and the sum is not above the limit
pub record Charged (was : AggregationLimits) (n : ℕ) (is : AggregationLimits) : Type 0 where
  pub limit : is.limit ≡ was.limit
  pub used : is.used ≡ was.used + n
  pub within : was.used + n ≤ was.limit

-- the sum of a refused charge is above the limit; it stays added, unless it passes 2^64 - 1
pub record Refused (was : AggregationLimits) (n : ℕ) (is : AggregationLimits) : Type 0 where
  pub limit : is.limit ≡ was.limit
  pub above : was.limit < was.used + n
  pub added : was.used + n < 2 ^ 64 → is.used ≡ was.used + n
  pub not_added : 2 ^ 64 ≤ was.used + n → is.used ≡ was.used

-- the answer to a charge of n that the counter is asked for and that is taken back
abbrev pub Passes : AggregationLimits → (level n : ℕ) → Result (Unit {0}) Fault → Type 0
Passes limits level n r = MatchResult r (λ _. limits.used + n ≤ limits.limit) (λ f. (f ≡ over_allowance level) × (limits.limit < limits.used + n))
