-- What a row more shows, what is charged where none is made, and what counting shows.
use Rattle.std.proofs.Common.{◌≡◌, ℕ, ◌+◌, ◌-◌, ◌^◌, ◌<◌, ◌⊎◌, ℤ, Result, MatchResult, get_or, set, sym, refl, ap, ◌∙◌, inl, inr, arith, get_or-set_same, get_or-set_other}
use Rattle.std.proofs.lemmas.Result.{MatchResult-weaker}
use Rattle.std.proofs.lemmas.Bool.{cases_lt}
use Rattle.records.specs.declared.fault.Fault.{Fault}
use Rattle.records.specs.declared.fault.Refusal.TheVariants.{TooManyRows, AllowanceExceeded, CountOverflow}
use Rattle.limits.specs.Limits as limits
use Rattle.limits.specs.declared.agg_limits.AggregationLimits.{AggregationLimits}
use Rattle.stack.specs.Overruns.{fault, numbered}
use Rattle.stack.specs.Calls.{Charged, Stopped, for_rows, and_one, at_most}
use Rattle.stack.specs.Levels.{Lvl}
use Rattle.rows.specs.Counting.{OneMore, NoMore, full, uncharged, OneUp, table_with}
use Rattle.rows.specs.Tables.{Counted}
use Rattle.rows.specs.declared.counts.Counts.{Counts}

-- A level's number is a u32, as a fault has it.
pub numbered_is : (n : ℕ) → n < 2 ^ 32 → numbered n ≡ n
numbered_is n h = omega arith

-- The rows before the one added keep their counts.
pub kept : (was is : Counts) (k : ℕ) → OneMore was is → k < was.rows → get_or is.counts k 0 ≡ get_or was.counts k 0
kept was is k m h = ap (λ cs. get_or cs k 0) m.counts ∙ get_or-set_other was.counts was.rows k 0 0 (λ e. omega arith)

-- Its own is 0.
pub empty : (was is : Counts) (k : ℕ) → OneMore was is → k ≡ was.rows → get_or is.counts k 0 ≡ 0
empty was is k m e =
    ap (λ cs. get_or cs k 0) m.counts ∙ ap (λ j. get_or (set was.counts was.rows 0) j 0) e ∙ get_or-set_same was.counts was.rows 0 0 (omega (arith, m.rows, was.whole, is.few))

-- Its charge comes on top of those before.
pub one_charged : (before mid after : AggregationLimits) (made makes more : ℕ) → Charged before mid made makes → limits.Charged mid 1 after → more ≡ makes + 1 → Charged before after made more
one_charged before mid after made makes more x p e = record {
  same_limit = p.limit ∙ x.same_limit;
  grown = omega (arith, x.grown);
  paid = omega (arith, p.used, x.paid);
  within = λ h. omega (arith, p.used, p.limit, p.within);
}

-- Where no row more is made, what was made before is charged, and the refused charge perhaps too.
pub stopped : (c : Counts) (before between after : AggregationLimits) (made makes : ℕ) (f : Fault) → Charged before between made makes → NoMore c between after f → Stopped before after made makes f
stopped c before between after made makes f p n = elim n [
  | full a b e ↦ record {
    same_limit = ap (λ z. z.limit) e ∙ p.same_limit;
    grown = p.grown;
    paid = for_rows (λ u. let z : TooManyRows ≡ AllowanceExceeded = sym (ap (λ g. g.refusal) a) ∙ u in let w : ◌≡◌ {A = ℕ} 0 1 = cc in omega arith) (omega (arith, ap (λ z. z.used) e, p.paid));
  }
  | uncharged a b r ↦ record {
    same_limit = r.limit ∙ p.same_limit;
    grown = p.grown;
    paid = elim (cases_lt (between.used + 1) (2 ^ 64)) [
      | inl l ↦ and_one (ap (λ g. g.refusal) a) (omega (arith, r.added l)) (omega (arith, r.added l, p.paid))
      | inr l ↦ at_most (ap (λ g. g.refusal) a) (omega (arith, r.not_added l)) (omega (arith, r.not_added l, p.paid))
    ];
  }
]

-- There are 512 rows, or one more charge would pass the limit.
pub reason : (c : Counts) (before between after : AggregationLimits) (made makes : ℕ) (f : Fault) → Charged before between made makes → NoMore c between after f → ((f ≡ fault TooManyRows c.level) × (c.rows ≡ 512)) ⊎ ((f ≡ fault AllowanceExceeded c.level) × (before.limit + made < before.used + makes + 1))
reason c before between after made makes f p n = elim n [
  | full a b e ↦ inl (a, b)
  | uncharged a b r ↦ inr (a, omega (arith, r.above, p.paid, p.same_limit))
]

-- A reading counted, or not, as the table has it.
pub counted : (l : Lvl) (bucket : ℕ → ℕ) (step : ℕ → ℤ) (was is : Counts) (row : ℕ) (r : Result (Unit {0}) Fault)
    → MatchResult r (λ _. (row < was.rows) × OneUp was is row) (λ f. (f ≡ fault CountOverflow was.level) × (is ≡ was) × (row < was.rows → get_or was.counts row 0 ≡ 2 ^ 64 - 1))
    → MatchResult r (λ _. (row < was.rows) × Counted (table_with l bucket step was) (table_with l bucket step is) row) (λ f. row < was.rows → (f ≡ fault CountOverflow was.level) × (get_or was.counts row 0 ≡ 2 ^ 64 - 1) × (table_with l bucket step is ≡ table_with l bucket step was))
counted l bucket step was is row r e = MatchResult-weaker r e
    (λ _ up. (
      up.0,
      record {
        same_level = refl;
        same_number = up.1.same_level;
        same_rows = up.1.same_rows;
        same_bucket = λ k h. refl;
        same_step = λ k h. refl;
        here = up.1.here;
        elsewhere = λ k h ne. up.1.elsewhere k ne;
      },
    ))
    (λ f no h. (no.0, no.2 h, ap (table_with l bucket step) no.1))

-- Where no row is made nothing is charged.
pub none_charged : (limits : AggregationLimits) (made : ℕ) → Charged limits limits made made
none_charged limits made = record { same_limit = refl; grown = omega arith; paid = refl; within = λ h. absurd (omega arith) }
