-- What a tiling is, and where a value lies in it. A tiling is the list of its tiles' starts.
use Rattle.std.specs.Prelude.{◌≡◌, ℕ, ◌+◌, ◌-◌, ◌^◌, ◌<◌, ◌≤◌, cond, ◌⊎◌, List, [], ◌∷◌, length, get_or, take, ◌==◌, nat_le, nat_lt, slice_index, slice_index_or}
use Rattle.buckets.specs.Picks.{last_below}
use Rattle.buckets.specs.declared.tiling.Tiling.{Tiling}

-- the starts of a tiling's tiles
abbrev pub starts_of : Tiling → List ℕ
starts_of t = take t.len t.starts

-- where the last tile ends
abbrev pub top : ℕ
top = 2 ^ 64 - 1

-- a tile ends where the next one starts, the last at the top
abbrev pub tile_end : List ℕ → ℕ → ℕ
tile_end starts k = slice_index_or starts (k + 1) top

-- the last tile whose start is not above v
abbrev pub tile_of : List ℕ → ℕ → ℕ
tile_of starts v = last_below (λ k. nat_le (slice_index starts k) v) (length starts)

-- the same in words
pub record LastNotAbove (starts : List ℕ) (v k : ℕ) : Type 0 where
  pub there : k < length starts
  pub not_above : get_or starts k 0 ≤ v
  pub last : (j : ℕ) → k < j → j < length starts → v < slice_index starts j

-- one tile starts at x
abbrev pub StartsAt : List ℕ → ℕ → Type 0
StartsAt starts x = (k : ℕ) × ((k < length starts) × (slice_index starts k ≡ x))

-- the starts of `old` and x besides, unless x is the top or there is no room
pub record WithStart (old : List ℕ) (x : ℕ) (new : List ℕ) : Type 0 where
  pub kept : (y : ℕ) → StartsAt old y → StartsAt new y
  pub added : x < top → length old < 33 → StartsAt new x
  pub no_more : (y : ℕ) → StartsAt new y → StartsAt old y ⊎ (y ≡ x)
  pub size : length new ≤ length old + 1

-- every tiling that exists: it starts at 0, rises strictly, and stays below the top, where its last tile ends
pub record Shape (starts : List ℕ) : Type 0 where
  pub some : 0 < length starts
  pub zero : get_or starts 0 0 ≡ 0
  pub rises : (k : ℕ) → k + 1 < length starts → slice_index starts k < slice_index starts (k + 1)
  pub below : (k : ℕ) → k < length starts → slice_index starts k < top

-- tile k runs from a to b
abbrev pub TileIs : List ℕ → ℕ → ℕ → ℕ → Type 0
TileIs starts k a b = (slice_index starts k ≡ a) × (tile_end starts k ≡ b)

-- of n ranges, the i-th from `from i` to `to i`, none meets tile k
abbrev pub Hole : ℕ → (ℕ → ℕ) → (ℕ → ℕ) → List ℕ → ℕ → Type 0
Hole n from to starts k = (i : ℕ) → i < n → (to i ≤ slice_index starts k) ⊎ (tile_end starts k ≤ from i)

-- the tiling of n ranges: each range is one tile, every other tile is a hole, and no two holes adjoin
pub record Tiles (n : ℕ) (from to : ℕ → ℕ) (starts : List ℕ) : Type 0 where
  pub ranges : (i : ℕ) → i < n → (k : ℕ) × ((k < length starts) × TileIs starts k (from i) (to i))
  pub others : (k : ℕ) → k < length starts → ((i : ℕ) × ((i < n) × TileIs starts k (from i) (to i))) ⊎ Hole n from to starts k
  pub apart : (k : ℕ) → k + 1 < length starts → Hole n from to starts k → Hole n from to starts (k + 1) → ⊥

-- these determine the tiling
abbrev pub TilingDetermined : Type 0
TilingDetermined = (n : ℕ) (from to : ℕ → ℕ) (xs ys : List ℕ) → Shape xs → Shape ys → Tiles n from to xs → Tiles n from to ys → xs ≡ ys

-- a rising list and x besides, unless x stands in it
abbrev pub put_in : ℕ → List ℕ → List ℕ
put_in x [] = x ∷ []
put_in x (y ∷ ys) = cond (nat_lt x y) (x ∷ y ∷ ys) (cond (x == y) (y ∷ ys) (y ∷ put_in x ys))

-- no tile starts at the top
abbrev pub put_start : ℕ → List ℕ → List ℕ
put_start x xs = cond (nat_lt x top) (put_in x xs) xs
