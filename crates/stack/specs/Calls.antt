-- What a call of a level or a cache promises, accepted or refused. `made` counts the rows made, here and below.
use Rattle.std.specs.Prelude.{◌≡◌, ℕ, ◌+◌, ◌-◌, ◌^◌, ◌<◌, ◌≤◌, Bool, true, false, cond, ◌≢◌, List, [], ◌∷◌, length, ◌==◌, slice_index, Result, MatchResult}
use Rattle.records.specs.declared.fault.Fault.{Fault}
use Rattle.records.specs.declared.fault.Refusal.TheVariants.{AllowanceExceeded}
use Rattle.limits.specs.declared.agg_limits.AggregationLimits.{AggregationLimits}
use Rattle.segments.specs.Segments.{Seg}
use Rattle.stack.specs.Levels.{Plan}
use Rattle.stack.specs.Overruns.{Deliveries, added, Overrun}

-- one is charged for each row made, and what is charged stays within the limit
pub record Charged (was is : AggregationLimits) (made makes : ℕ) : Type 0 where
  pub same_limit : is.limit ≡ was.limit
  pub grown : made ≤ makes
  pub paid : is.used + made ≡ was.used + makes
  pub within : made < makes → is.used ≤ is.limit

-- where a call is refused: the rows made are charged, and where the allowance refused, the refused charge of 1 too, unless
-- it would pass 2^64 - 1
pub data Paid (was is : AggregationLimits) (made makes : ℕ) (f : Fault) : Type 0 where
  for_rows : f.refusal ≢ AllowanceExceeded → is.used + made ≡ was.used + makes → Paid was is made makes f
  and_one : f.refusal ≡ AllowanceExceeded → is.used < 2 ^ 64 → is.used + made ≡ was.used + makes + 1 → Paid was is made makes f
  at_most : f.refusal ≡ AllowanceExceeded → is.used ≡ 2 ^ 64 - 1 → is.used + made ≡ was.used + makes → Paid was is made makes f

pub record Stopped (was is : AggregationLimits) (made makes : ℕ) (f : Fault) : Type 0 where
  pub same_limit : is.limit ≡ was.limit
  pub grown : made ≤ makes
  pub paid : Paid was is made makes f

-- An accepted call. What the level, numbered n and below so many buckets, held of the deliveries it now holds of the
-- deliveries grown by the call's own.
pub record Went (before after : (n buckets : ℕ) → Deliveries → Type 0) (inside : ℕ → Type 0) (grows : Deliveries → Deliveries) (planned plans : Plan) (was is : AggregationLimits) (made makes : ℕ) : Type 0 where
  pub keeps : (n buckets : ℕ) → inside buckets → (D : Deliveries) → before n buckets D → after n buckets (grows D)
  pub same_plan : plans ≡ planned
  pub charged : Charged was is made makes

-- A refused call. The deliveries with its own are an overrun, `others` being all else charged.
pub record Overran (from : ℕ) (plan : Plan) (slots : ℕ) (g : Seg) (before : (n buckets : ℕ) → Deliveries → Type 0) (inside : ℕ → Type 0) (grows : Deliveries → Deliveries) (was is : AggregationLimits) (made makes : ℕ) (f : Fault) : Type 0 where
  pub stopped : Stopped was is made makes f
  pub overrun : (n buckets others : ℕ) (D : Deliveries) → inside buckets → before n buckets D → was.used ≡ others + made → Overrun from plan.levels slots n g buckets (grows D) others was.limit f

-- ---- what a clause says of a call

-- a level or a cache, its slots and the limits, before or after the call
abbrev pub State : Type 0 → Type 0 → Type 0
State C T = C × List T × AggregationLimits

-- which deliveries a level or a cache holds, with these slots, numbered n and below so many buckets
abbrev pub Holds : Type 0 → Type 0 → Type 1
Holds C T = C → List T → Seg → ℕ → ℕ → Deliveries → Type 0

-- Went and Overran, of the states before and after
abbrev pub Accepted : {C T : Type 0} → Holds C T → (C → Plan) → (C → ℕ) → Seg → (was is : State C T) → (ℕ → Type 0) → (Deliveries → Deliveries) → Type 0
Accepted holds plan made g was is inside grows =
    Went (holds was.0 was.1 g) (holds is.0 is.1 g) inside grows (plan was.0) (plan is.0) was.2 is.2 (made was.0) (made is.0)

abbrev pub Refused : {C T : Type 0} → Holds C T → (C → Plan) → (C → ℕ) → Seg → (was is : State C T) → (ℕ → Type 0) → (Deliveries → Deliveries) → Fault → Type 0
Refused holds plan made g was is inside grows f =
    Overran 1 (plan was.0) (length was.1) g (holds was.0 was.1 g) inside grows was.2 is.2 (made was.0) (made is.0) f

-- The call is accepted, or refused with a fault. It may come below as many buckets as are `inside`, and what was delivered
-- before it grows as `grows` says.
abbrev pub Handled : {C T V : Type 0} → Result V Fault → Holds C T → (C → Plan) → (C → ℕ) → Seg → (was is : State C T) → (ℕ → Type 0) → (Deliveries → Deliveries) → Type 0
Handled result holds plan made g was is inside grows =
    MatchResult result (λ _. Accepted holds plan made g was is inside grows) (λ f. Refused holds plan made g was is inside grows f)

-- and if it is accepted, `also` holds
abbrev pub HandledAnd : {C T V : Type 0} → (also : Type 0) → Result V Fault → Holds C T → (C → Plan) → (C → ℕ) → Seg → (was is : State C T) → (ℕ → Type 0) → (Deliveries → Deliveries) → Type 0
HandledAnd also result holds plan made g was is inside grows =
    MatchResult result (λ _. Accepted holds plan made g was is inside grows × also) (λ f. Refused holds plan made g was is inside grows f)

-- the same of a call that is lent no segment: for every segment
abbrev pub HandledForAll : {C T V : Type 0} → (also : Type 0) → Result V Fault → Holds C T → (C → Plan) → (C → ℕ) → (was is : State C T) → (ℕ → Type 0) → (Deliveries → Deliveries) → Type 0
HandledForAll also result holds plan made was is inside grows =
    MatchResult result (λ _. ((g : Seg) → Accepted holds plan made g was is inside grows) × also) (λ f. (g : Seg) → Refused holds plan made g was is inside grows f)

-- If nothing waits and rows are made for every bucket, P holds of the documents delivered for this one, whatever is held.
abbrev pub Ready : {C T : Type 0} → Holds C T → (settled : C → Type 0) → (prepared : C → ℕ → ℕ → Type 0) → C → List T → (bucket : ℕ) → (P : Seg → List ℕ → Type 0) → Type 0
Ready holds settled prepared c slots bucket P =
    (g : Seg) (n buckets : ℕ) (D : Deliveries) → settled c → prepared c (length slots) buckets → bucket < buckets → holds c slots g n buckets D → P g (D bucket)

-- ---- pairs of a bucket number and a document

-- the documents paired with a bucket, in order
abbrev pub docs_for : ℕ → (buckets docs : List ℕ) → List ℕ
docs_for b [] docs = []
docs_for b (k ∷ ks) [] = []
docs_for b (k ∷ ks) (d ∷ ds) = cond (k == b) (d ∷ docs_for b ks ds) (docs_for b ks ds)

-- those of each bucket
abbrev pub paired : (buckets docs : List ℕ) → Deliveries
paired buckets docs b = docs_for b buckets docs

-- a run of equal bucket numbers, as long as it goes
pub record Run (buckets : List ℕ) (start pairs end : ℕ) : Type 0 where
  pub some : start < end
  pub within : end ≤ pairs
  pub equal : (k : ℕ) → start ≤ k → k < end → slice_index buckets k ≡ slice_index buckets start
  pub ends : end < pairs → slice_index buckets end ≢ slice_index buckets start

-- at most so many pairs wait, each for a bucket below 512, and these are their parts
pub record Waits (waiting : Deliveries) (pending : ℕ) : Type 0 where
  pub buckets : List ℕ
  pub docs : List ℕ
  pub paired : length buckets ≡ length docs
  pub count : length docs ≡ pending
  pub few : pending ≤ 2048
  pub parts : (b : ℕ) → waiting b ≡ docs_for b buckets docs
  pub inside : (b : ℕ) → 512 ≤ b → waiting b ≡ []

-- what waits is for buckets below a number
abbrev pub Inside : Deliveries → ℕ → Type 0
Inside waiting buckets = (b : ℕ) → buckets ≤ b → waiting b ≡ []

-- a pair is pushed behind the others of its bucket, or nothing changes
pub record Pushed (taken : Bool) (was : Deliveries) (count : ℕ) (is : Deliveries) (counts : ℕ) (bucket doc : ℕ) : Type 0 where
  pub waits : taken ≡ true → is ≡ added was bucket (doc ∷ [])
  pub one_more : taken ≡ true → counts ≡ count + 1
  pub unaltered : taken ≡ false → (is ≡ was) × (counts ≡ count)
