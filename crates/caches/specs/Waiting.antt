-- The pairs that wait in tables: a bucket number and, at the same place, a document.
use Rattle.std.specs.Prelude.{ℕ, zero, suc, ◌+◌, ◌-◌, ◌<◌, ◌≤◌, List, ◌∷◌, count_by, take, drop, ◌==◌, slice_index}
use Rattle.stack.specs.Overruns.{Deliveries}
use Rattle.stack.specs.Calls.{docs_for}

-- the documents of the first pairs that wait for each bucket
abbrev pub waits_in : (buckets docs : List ℕ) → ℕ → Deliveries
waits_in buckets docs len b = docs_for b (take len buckets) (take len docs)

-- the first bucket numbers are below 512
abbrev pub Low : List ℕ → ℕ → Type 0
Low buckets len = (k : ℕ) → k < len → slice_index buckets k < 512

-- ---- sorting by bucket number

-- how often a bucket is named
abbrev pub times : ℕ → List ℕ → ℕ
times b buckets = count_by (λ k. k == b) buckets

-- the sum of the first counts
unfoldable pub sum_below : (ℕ → ℕ) → ℕ → ℕ
sum_below count zero = 0
sum_below count (suc b) = sum_below count b + count b

-- where the documents of a bucket start if those of each bucket lie together, by rising number
abbrev pub start_of : List ℕ → ℕ → ℕ
start_of buckets b = sum_below (λ k. times k buckets) b

-- the part of each bucket, where the parts lie one behind the other and end at these places
abbrev pub part_of : (ends docs : List ℕ) → Deliveries
part_of ends docs b = take (slice_index ends b - slice_index (0 ∷ ends) b) (drop (slice_index (0 ∷ ends) b) docs)

-- the parts lie within so many documents, one behind the other
abbrev pub Parted : (ends : List ℕ) → ℕ → Type 0
Parted ends room = (b : ℕ) → b < 512 → (slice_index (0 ∷ ends) b ≤ slice_index ends b) × (slice_index ends b ≤ room)
