-- What a call of a level with rows promises, of the states before and after.
use Rattle.std.specs.Prelude.{◌≡◌, ℕ, suc, ◌+◌, ◌<◌, ◌≤◌, List, [], ◌∷◌, length, ℤ, Result, MatchResult}
use Rattle.records.specs.declared.column_type.ColumnType.{ColumnType}
use Rattle.records.specs.declared.fault.Fault.{Fault}
use Rattle.records.specs.Rows.{Entry}
use Rattle.records.specs.declared.row.Row.{Row}
use Rattle.segments.specs.Segments.{Seg}
use Rattle.stack.specs.Levels.{Lvl, Plan}
use Rattle.stack.specs.Overruns.{Deliveries, added}
use Rattle.stack.specs.Calls.{State, Holds, Accepted}
use Rattle.stack.specs.Writing.{tally_worth, Written, Put}
use Rattle.rows.specs.Tables.{Table, Counted}
use Rattle.collectors.specs.Filing.{Carries, Rows, Sorted, sorted, on_top, At, Sent, Missed, PutRefused}
use Rattle.collectors.specs.declared.bucket_collector.SegmentBucketCollector.{SegmentBucketCollector}

-- what a cache holds, with what waits in it
abbrev pub carried_in : {C T : Type 0} → Holds C T → (C → Deliveries) → Holds C T
carried_in stored waiting c slots g n buckets = Carries (stored c slots g n buckets) (waiting c)

-- the documents of a level's rows
abbrev pub rows_in : {K C T : Type 0} → (K → Table) → Holds C T → (C → Deliveries) → Holds (SegmentBucketCollector K C) T
rows_in table stored waiting c slots g n buckets = Rows (table c.inner).count buckets (carried_in stored waiting c.below slots g n buckets)

-- the documents filed in a level's rows
abbrev pub filed_in : {K C T : Type 0} → (K → Table) → Holds C T → (C → Deliveries) → SegmentBucketCollector K C → List T → Seg → (n buckets : ℕ) → Sorted → Type 0
filed_in table stored waiting c slots g = At (table c.inner) (stored c.below slots g) (waiting c.below)

-- a level's deliveries, filed in its rows
abbrev pub held_in : {K C T : Type 0} → (K → Table) → Holds C T → (C → Deliveries) → Holds (SegmentBucketCollector K C) T
held_in table stored waiting c slots g n buckets D = filed_in table stored waiting c slots g n buckets (sorted (table c.inner).level g D)

-- a level's plan, and how many rows were made, here and below
abbrev pub plan_in : {K C : Type 0} → (K → Table) → (C → Plan) → SegmentBucketCollector K C → Plan
plan_in table plan c = on_top (table c.inner).level (plan c.below)

abbrev pub made_in : {K C : Type 0} → (K → Table) → (C → ℕ) → SegmentBucketCollector K C → ℕ
made_in table made c = (table c.inner).rows + made c.below

-- A document is counted in a row and sent on, or refused.
abbrev pub PutIn : {K C T V : Type 0} → Result V Fault → (K → Table) → Holds C T → (C → Deliveries) → (C → Plan) → (C → ℕ) → Seg → (was is : State (SegmentBucketCollector K C) T) → (row doc : ℕ) → Type 0
PutIn result table stored waiting plan made g was is row doc =
    let t = table was.0.inner in
    let u = table is.0.inner in
    let held = rows_in table stored waiting in
    MatchResult result
    (λ _. Counted t u row × Accepted held (λ c. plan c.below) (λ c. made c.below) g was is (λ n. n ≡ t.rows) (λ E. added E row (doc ∷ [])))
    (λ f. PutRefused t u (plan was.0.below) (length was.1) g (held was.0 was.1 g) row doc was.2 is.2 (made was.0.below) (made is.0.below) f)

-- What a call files for a bucket, at the level, is filed with what was filed before.
abbrev pub FiledMore : {K C T : Type 0} → (K → Table) → Holds C T → (C → Deliveries) → (C → Plan) → (C → ℕ) → Seg → (was is : State (SegmentBucketCollector K C) T) → (bucket : ℕ) → (Lvl → Sorted → Sorted) → Type 0
FiledMore table stored waiting plan made g was is bucket grows =
    let l = (table was.0.inner).level in
    ((table is.0.inner).level ≡ l)
    × Sent (filed_in table stored waiting was.0 was.1 g) (filed_in table stored waiting is.0 is.1 g) (λ n. bucket < n) (grows l) (plan was.0.below) (plan is.0.below) was.2 is.2 (made_in table made was.0) (made_in table made is.0)

-- The same, or the call is refused.
abbrev pub Files : {K C T V : Type 0} → Result V Fault → (K → Table) → Holds C T → (C → Deliveries) → (C → Plan) → (C → ℕ) → Seg → (was is : State (SegmentBucketCollector K C) T) → (bucket : ℕ) → (Lvl → Sorted → Sorted) → Type 0
Files result table stored waiting plan made g was is bucket grows =
    let l = (table was.0.inner).level in
    MatchResult result
    (λ _. FiledMore table stored waiting plan made g was is bucket grows)
    (λ f. Missed (plan was.0.below) l (length was.1) g (filed_in table stored waiting was.0 was.1 g) (λ n. bucket < n) (grows l) was.2 is.2 (made_in table made was.0) (made_in table made is.0) f)

-- A row is put into a slice, and after it the rows below it, if there is room for them all.
abbrev pub PutRow : {T W : Type 0} → (T → W) → (nothing : W) (fed : ColumnType → ℕ → W → W) → Plan → Seg → (path : List ℤ) (count : ℕ) (docs : List ℕ) → (was is : List (Row T)) → (at end : ℕ) → Type 0
PutRow {T} {W} worth nothing fed plan g path count docs was is at end =
    (es : List (Entry W)) × (Written (record { nothing = nothing; fed = fed }) plan.column plan.field_type g plan.levels path docs es
    × (at + suc (length es) ≤ length was → Put worth was is at end (record { path = path; count = count; worth = tally_worth nothing fed plan g docs } ∷ es)))
