-- What a call answers where its refusal is defined: that fault, or acceptance where there is none.
use Rattle.std.specs.Prelude.{◌≡◌, Some, None, Option, Result, MatchResult}

abbrev pub Answers : {T E : Type 0} → Result T E → Option E → Type 0
Answers r refusal = MatchResult r (λ _. refusal ≡ None) (λ f. refusal ≡ Some f)
