-- Indices picked by a test.
use Rattle.std.specs.Prelude.{ℕ, zero, suc, Bool, false, cond, ◌||◌, Some, None, Option}

-- some index below n passes
abbrev pub any_below : (ℕ → Bool) → ℕ → Bool
any_below p zero = false
any_below p (suc n) = p n || any_below p n

-- the last index below n that passes, 0 where none does
abbrev pub last_below : (ℕ → Bool) → ℕ → ℕ
last_below p zero = 0
last_below p (suc n) = cond (p n) n (last_below p n)

-- the newcomer where nothing was found yet or it comes before that
abbrev pub sooner : (ℕ → ℕ → Bool) → ℕ → Option ℕ → ℕ
sooner before n None = n
sooner before n (Some k) = cond (before n k) n k

-- of the indices below n that pass, the one that comes before all others
abbrev pub first_below : (ℕ → Bool) → (ℕ → ℕ → Bool) → ℕ → Option ℕ
first_below p before zero = None
first_below p before (suc n) = cond (p n) (Some (sooner before n (first_below p before n))) (first_below p before n)
