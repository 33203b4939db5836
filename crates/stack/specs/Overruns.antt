-- Which rows exist below buckets, and when they are too many. A level stands below numbered buckets; what was delivered
-- for bucket b are the documents D b, in order.
use Rattle.std.specs.Prelude.{◌≡◌, ℕ, zero, suc, ◌+◌, ◌-◌, ◌^◌, ◌<◌, ◌≤◌, min, cond, List, [], ◌∷◌, ◌++◌, length, ℤ, ◌==◌, ◌≢◌}
use Rattle.std.specs.List.{AllByRecursion}
use Rattle.records.specs.declared.fault.Fault.{Fault}
use Rattle.records.specs.declared.fault.Refusal.{Refusal}
use Rattle.records.specs.declared.fault.Refusal.TheVariants.{TooManyRows, AllowanceExceeded, CountOverflow}
use Rattle.segments.specs.Segments.{Seg}
use Rattle.stack.specs.Levels.{Lvl, There, Step, row_docs, readings}

-- what was delivered for each bucket
abbrev pub Deliveries : Type 0
Deliveries = ℕ → List ℕ

abbrev pub none_yet : Deliveries
none_yet b = []

-- with these documents behind those of one bucket
abbrev pub added : Deliveries → ℕ → List ℕ → Deliveries
added D b docs k = cond (k == b) (D k ++ docs) (D k)

-- with what waits for each bucket behind
abbrev pub all_added : Deliveries → Deliveries → Deliveries
all_added D waiting k = D k ++ waiting k

-- the later deliveries come behind the earlier
pub record More (D E : Deliveries) : Type 0 where
  pub rest : Deliveries
  pub is : (k : ℕ) → E k ≡ D k ++ rest k

-- ---- rows that exist

-- a row of some level: the bucket that it lies below, and the steps from there
abbrev pub Place : Type 0
Place = ℕ × List ℤ

abbrev pub Exists : List Lvl → Seg → ℕ → Deliveries → Place → Type 0
Exists ls g buckets D x = (x.0 < buckets) × There ls g (D x.0) x.1

abbrev pub All : (Place → Type 0) → List Place → Type 0
All P xs = AllByRecursion P xs

abbrev pub Distinct : List Place → Type 0
Distinct [] = Unit {0}
Distinct (x ∷ xs) = All (λ y. x ≢ y) xs × Distinct xs

-- at least m distinct rows exist, with as many steps as `long` says
pub record Crowd (ls : List Lvl) (g : Seg) (buckets : ℕ) (D : Deliveries) (long : ℕ → Type 0) (m : ℕ) : Type 0 where
  pub places : List Place
  pub there : All (λ x. Exists ls g buckets D x × long (length x.1)) places
  pub distinct : Distinct places
  pub many : m ≤ length places

-- ---- too many

-- a level's number as a fault has it: a u32
abbrev pub numbered : ℕ → ℕ
numbered n = min n (2 ^ 32 - 1)

abbrev pub fault : Refusal → ℕ → Fault
fault refusal n = record { refusal = refusal; level = numbered n; place = 0 }

-- how many steps a row of the level so far down has; the bottom keeps one tally for each row of the last level
abbrev pub depth_of : List Lvl → ℕ → ℕ
depth_of [] down = 0
depth_of (l ∷ ls) zero = 1
depth_of (l ∷ ls) (suc down) = suc (depth_of ls down)

-- how many rows that level may have: 512, and the bottom as many as it has slots for tallies
abbrev pub limit_of : List Lvl → ℕ → ℕ → ℕ
limit_of [] slots down = slots
limit_of (l ∷ ls) slots zero = 512
limit_of (l ∷ ls) slots (suc down) = limit_of ls slots down

-- more rows of one level exist than it may have
pub record TooMany (ls : List Lvl) (slots : ℕ) (g : Seg) (buckets : ℕ) (D : Deliveries) (down : ℕ) : Type 0 where
  pub within : down ≤ length ls
  pub crowd : Crowd ls g buckets D (λ m. m ≡ depth_of ls down) (suc (limit_of ls slots down))

-- the rows that exist, with all else charged, pass the limit
pub record PastLimit (from : ℕ) (ls : List Lvl) (g : Seg) (buckets : ℕ) (D : Deliveries) (others limit down : ℕ) : Type 0 where
  pub rows : ℕ
  pub within : down < length ls
  pub passes : limit < others + rows
  pub crowd : Crowd ls g buckets D (λ m. from ≤ m) rows

-- a path has 2^64 readings or more
pub record Full (from : ℕ) (ls : List Lvl) (g : Seg) (buckets : ℕ) (D : Deliveries) : Type 0 where
  pub bucket : ℕ
  pub path : List ℤ
  pub inside : bucket < buckets
  pub long : from ≤ length path
  pub many : 2 ^ 64 ≤ readings ls g (D bucket) path

-- A fault of the level numbered n, or of one below it, stands for an overrun. Rows with `from` steps and more count; a
-- level counts its own, with one step.
pub data Overrun (from : ℕ) (ls : List Lvl) (slots n : ℕ) (g : Seg) (buckets : ℕ) (D : Deliveries) (others limit : ℕ) (f : Fault) : Type 0 where
  too_many : (down : ℕ) → f ≡ fault TooManyRows (n + down) → TooMany ls slots g buckets D down → Overrun from ls slots n g buckets D others limit f
  past_limit : (down : ℕ) → f ≡ fault AllowanceExceeded (n + down) → PastLimit from ls g buckets D others limit down → Overrun from ls slots n g buckets D others limit f
  full : (down : ℕ) → f ≡ fault CountOverflow (n + down) → down < length ls → Full from ls g buckets D → Overrun from ls slots n g buckets D others limit f

-- ---- the opposite

-- no level has more rows than it may have
abbrev pub Bounded : List Lvl → ℕ → Seg → ℕ → Deliveries → Type 0
Bounded ls slots g buckets D = (down m : ℕ) → down ≤ length ls → Crowd ls g buckets D (λ k. k ≡ depth_of ls down) m → m ≤ limit_of ls slots down

-- and every row that exists was made
pub record Complete (ls : List Lvl) (slots : ℕ) (g : Seg) (buckets : ℕ) (D : Deliveries) (made : ℕ) : Type 0 where
  pub bounded : Bounded ls slots g buckets D
  pub all : (m : ℕ) → Crowd ls g buckets D (λ k. 1 ≤ k) m → m ≤ made

-- ---- how a level's table names its rows

-- row k is that of a bucket and a step: the names are apart, the rows exist, and have the documents of their step
pub record Names (l : Lvl) (g : Seg) (buckets rows : ℕ) (E D : Deliveries) : Type 0 where
  pub bucket : ℕ → ℕ
  pub step : ℕ → ℤ
  pub inside : (k : ℕ) → k < rows → bucket k < buckets
  pub stands : (k : ℕ) → k < rows → Step l g (D (bucket k)) (step k)
  pub docs : (k : ℕ) → k < rows → E k ≡ row_docs l g (step k) (D (bucket k))
  pub apart : (j k : ℕ) → j < rows → k < rows → bucket j ≡ bucket k → step j ≡ step k → j ≡ k

-- every step that exists below a bucket has a row of its own, with the documents of the step
pub record Numbers (l : Lvl) (g : Seg) (buckets rows : ℕ) (E D : Deliveries) : Type 0 where
  pub row : ℕ → ℤ → ℕ
  pub inside : (b : ℕ) (s : ℤ) → b < buckets → Step l g (D b) s → row b s < rows
  pub docs : (b : ℕ) (s : ℤ) → b < buckets → Step l g (D b) s → E (row b s) ≡ row_docs l g s (D b)
  pub apart : (b : ℕ) (s : ℤ) (c : ℕ) (t : ℤ) → b < buckets → Step l g (D b) s → c < buckets → Step l g (D c) t → row b s ≡ row c t → (b ≡ c) × (s ≡ t)

-- more deliveries never undo an overrun
abbrev pub OverrunStays : Type 0
OverrunStays = (from : ℕ) (ls : List Lvl) (slots n : ℕ) (g : Seg) (buckets : ℕ) (D E : Deliveries) (others limit : ℕ) (f : Fault) → More D E → Overrun from ls slots n g buckets D others limit f → Overrun from ls slots n g buckets E others limit f
