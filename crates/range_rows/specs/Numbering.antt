-- The rows of a range level as numbers: row k is that of bucket k / tiles and tile k % tiles.
use Rattle.std.specs.Prelude.{◌≡◌, ℕ, suc, ◌+◌, ◌-◌, ◌*◌, ◌/◌, ◌%◌, ◌<◌, ◌≤◌, min, ◌⊎◌, length, ltb, ℤ, pos, negsuc, Some, None, slice_index, refl}
use Rattle.std.proofs.Common.{sym, ap, ap₂, ◌∙◌, inl, inr, arith, mul-le-mul_right, suc-mul, add-mul, lt→ltb}
use Rattle.std.specs.Bool.{then_some}
use Rattle.std.specs.Int.Signed.{lt_z_yes}
use Rattle.std.specs.List.{slice_get}
use Rattle.std.proofs.lemmas.Nat.{div-add-mod', div-mul-add, mod-mul-add, div_below, mod_below}
use Rattle.std.proofs.lemmas.Bool.{cases_lt, lt-ltb, le-ltb}
use Rattle.std.proofs.lemmas.List.FromFn.{length-range_with_len, get_or-range_with_len}
use Rattle.std.proofs.lemmas.List.{length-take}
use Rattle.std.proofs.lemmas.Option.{slice_get-get_or, slice_get_past}
use Rattle.records.specs.declared.fault.Fault.{Fault}
use Rattle.limits.specs.declared.agg_limits.AggregationLimits.{AggregationLimits}
use Rattle.buckets.specs.Tilings.{starts_of, tile_of}
use Rattle.stack.specs.Levels.{range_level}
use Rattle.rows.specs.Tables.{Always, Has, Sound, Listed, Grew, Prepared, Unprepared, RowFor}
use Rattle.range_rows.specs.declared.table.RangeRows.{RangeRows}
use Rattle.range_rows.specs.Shown.{tiles_of, shown, rows_below, Added, Made, Short}

-- A tiling has a tile.
pub some_tile : (c : RangeRows) → 0 < tiles_of c
some_tile c = omega (arith, length-take c.tiling.len c.tiling.starts, c.tiling.whole, c.tiling.some)

-- Bucket and tile give the row's number back.
pub same_row : (t j k : ℕ) → j / t ≡ k / t → pos (j % t) ≡ pos (k % t) → j ≡ k
same_row t j k p q =
    let r : j % t ≡ k % t = cc in
    sym (div-add-mod' j t) ∙ ap (λ z. z * t + j % t) p ∙ ap (λ z. k / t * t + z) r ∙ div-add-mod' k t

pub sound : (c : RangeRows) → Sound (shown c)
sound c = record {
  few = c.counts.few;
  apart = λ j k h l p q. same_row (tiles_of c) j k p q;
  fits = λ k h. mod_below k (tiles_of c) (some_tile c);
}

-- A row of a bucket lies between the bucket's first and the next one's.
between_rows : (t k b : ℕ) → 0 < t → k / t ≡ b → (b * t + k % t ≡ k) × (k % t < t)
between_rows t k b h e = (ap (λ z. z * t + k % t) (sym e) ∙ div-add-mod' k t, mod_below k t h)

-- What is listed at an index.
listed_at : (c : RangeRows) (b i : ℕ) → i < length (rows_below c b) → (slice_index (rows_below c b) i ≡ b * tiles_of c + i) × (i < tiles_of c) × (b * tiles_of c + i < c.counts.rows)
listed_at c b i h =
    let n = min (tiles_of c) (c.counts.rows - b * tiles_of c) in
    let l : i < n = omega (arith, length-range_with_len (b * tiles_of c) n) in
    (get_or-range_with_len (b * tiles_of c) n i 0 l, omega arith, omega arith)

pub lists : (c : RangeRows) (b : ℕ) → Listed (shown c) b (rows_below c b)
lists c b = record {
  below = λ i h. let x = listed_at c b i h in
      (rw x.0 x.2, rw x.0 (div-mul-add b (tiles_of c) i x.1));
  rises = λ i j h l.
      let k : i < length (rows_below c b) = omega arith in
      let x = listed_at c b i k in
      let y = listed_at c b j l in
      rw (x.0, y.0, mod-mul-add b (tiles_of c) i x.1, mod-mul-add b (tiles_of c) j y.1) (lt_z_yes (lt→ltb i j h));
  all = λ k h e.
      let x = between_rows (tiles_of c) k b (some_tile c) e in
      let n = min (tiles_of c) (c.counts.rows - b * tiles_of c) in
      let l : k % tiles_of c < n = omega (arith, x.0, x.1) in
      (k % tiles_of c, (omega (arith, length-range_with_len (b * tiles_of c) n), get_or-range_with_len (b * tiles_of c) n (k % tiles_of c) 0 l ∙ x.0));
}

-- ---- rows made

same_tiles : (was is : RangeRows) → Added was is → tiles_of is ≡ tiles_of was
same_tiles was is x = ap (λ t. length (starts_of t)) x.same_tiling

pub grew : (was is : RangeRows) → Added was is → Grew (shown was) (shown is)
grew was is x = record {
  same_level = ap₂ range_level x.same_column (ap starts_of x.same_tiling);
  same_number = x.same_number;
  more = x.more;
  same_bucket = λ k h. ap (λ t. k / t) (same_tiles was is x);
  same_step = λ k h. ap (λ t. pos (k % t)) (same_tiles was is x);
  same_count = x.kept;
  new_count = x.empty;
}

-- Each new row is one of a tile, of a bucket below those wanted.
new_rows : (was is : RangeRows) (buckets k : ℕ) → Added was is → k < buckets * tiles_of was → (k / tiles_of is < buckets) × (k % tiles_of is < tiles_of is)
new_rows was is buckets k x h =
    let e = same_tiles was is x in
    (div_below k (tiles_of is) buckets (some_tile is) (rw e h), mod_below k (tiles_of is) (some_tile is))

-- A bucket's tile has its row, once the rows of the bucket are there.
has_row : (c : RangeRows) (b : ℕ) (s : ℤ) → b * tiles_of c + tiles_of c ≤ c.counts.rows → Always (shown c).level s → Has (shown c) b s
has_row c b (pos t) h a = (b * tiles_of c + t, (omega (arith, a), (div-mul-add b (tiles_of c) t a, ap pos (mod-mul-add b (tiles_of c) t a))))
has_row c b (negsuc t) h a = elim a [ ]

pub prepared : (was is : RangeRows) (before after : AggregationLimits) (buckets : ℕ) → Made was is before after (buckets * tiles_of was) → Prepared (shown was) (shown is) before after buckets
prepared was is before after buckets m = record {
  grew = grew was is m.added;
  charged = m.charged;
  new = λ k h l. new_rows was is buckets k m.added (omega (arith, m.rows));
  complete = λ b s h a.
      let e = same_tiles was is m.added in
      let up : suc b ≤ buckets = h in
      let wide : suc b * tiles_of was ≤ buckets * tiles_of was = mul-le-mul_right (tiles_of was) up in
      has_row is b s (rw e (omega (arith, wide, suc-mul b (tiles_of was), m.rows))) a;
}

-- The row that was wanted next is missing.
pub not_prepared : (was is : RangeRows) (before after : AggregationLimits) (buckets : ℕ) (f : Fault) → Short was is before after (buckets * tiles_of was) f → Unprepared (shown was) (shown is) before after buckets f
not_prepared was is before after buckets f x = record {
  bucket = is.counts.rows / tiles_of is;
  step = pos (is.counts.rows % tiles_of is);
  lacks = record {
    grew = grew was is x.added;
    stopped = x.stopped;
    missing = λ k h e. let same : k ≡ is.counts.rows = same_row (tiles_of is) k is.counts.rows e.0 e.1 in omega arith;
    reason = x.reason;
  };
  inside = (new_rows was is buckets is.counts.rows x.added x.fewer).0;
  always = let e = same_tiles was is x.added in omega (arith, e, (new_rows was is buckets is.counts.rows x.added x.fewer).1);
  new = λ k h l. new_rows was is buckets k x.added (omega (arith, x.fewer));
}

-- Where the rows are there nothing is made.
pub already : (c : RangeRows) (limits : AggregationLimits) (wanted : ℕ) → wanted ≤ c.counts.rows → Made c c limits limits wanted
already c limits wanted h = record {
  added = record { same_tiling = refl; same_column = refl; same_number = refl; more = omega arith; kept = λ k l. refl; empty = λ k l i. absurd (omega arith) };
  rows = omega arith;
  charged = record { same_limit = refl; grown = omega arith; paid = refl; within = λ l. absurd (omega arith) };
}

pub row_found : (was is : RangeRows) (before after : AggregationLimits) (b v r : ℕ) → Made was is before after (b * tiles_of was + tiles_of was) → r ≡ b * tiles_of is + tile_of (starts_of is.tiling) v → r < b * tiles_of is + tiles_of is → RowFor (shown was) (shown is) before after b v r
row_found was is before after b v r m e h =
    let same = same_tiles was is m.added in
    let tile = tile_of (starts_of is.tiling) v in
    let l : tile < tiles_of is = omega arith in
    record {
      grew = grew was is m.added;
      charged = m.charged;
      there = omega (arith, m.rows, ap (λ t. b * t + t) same);
      bucket = ap (λ k. k / tiles_of is) e ∙ div-mul-add b (tiles_of is) tile l;
      step = ap (λ t. Some (pos (tile_of (starts_of t) v))) (sym m.added.same_tiling) ∙ ap (λ k. Some (pos k)) (sym (ap (λ k. k % tiles_of is) e ∙ mod-mul-add b (tiles_of is) tile l));
      new = λ k i j. inr (let n = new_rows was is (b + 1) k m.added (omega (arith, m.rows, add-mul b 1 (tiles_of was))) in (omega (arith, n.0), n.1));
    }

-- ---- writing out

pub row_there : (c : RangeRows) (b i : ℕ) → i < tiles_of c → b * tiles_of c + i < c.counts.rows → Some (b * tiles_of c + i) ≡ slice_get (rows_below c b) i
row_there c b i h l =
    let n = min (tiles_of c) (c.counts.rows - b * tiles_of c) in
    let k : i < n = omega arith in
    let j : i < length (rows_below c b) = omega (arith, length-range_with_len (b * tiles_of c) n) in
    sym (slice_get-get_or (rows_below c b) i 0 j ∙ ap Some (get_or-range_with_len (b * tiles_of c) n i 0 k))

pub row_past : (c : RangeRows) (b i : ℕ) → (tiles_of c ≤ i) ⊎ (c.counts.rows ≤ b * tiles_of c + i) → None ≡ slice_get (rows_below c b) i
row_past c b i h =
    let n = min (tiles_of c) (c.counts.rows - b * tiles_of c) in
    let l : n ≤ i = elim h [ inl p ↦ omega arith | inr p ↦ omega arith ] in
    sym (slice_get_past (rows_below c b) i (omega (arith, length-range_with_len (b * tiles_of c) n)))

pub row_if_there : (c : RangeRows) (b i : ℕ) → i < tiles_of c → then_some (ltb (b * tiles_of c + i) c.counts.rows) (b * tiles_of c + i) ≡ slice_get (rows_below c b) i
row_if_there c b i h =
    let row = b * tiles_of c + i in
    elim (cases_lt row c.counts.rows) [
      | inl l ↦ ap (λ t. then_some t row) (lt-ltb row c.counts.rows l) ∙ row_there c b i h l
      | inr g ↦ ap (λ t. then_some t row) (le-ltb row c.counts.rows g) ∙ row_past c b i (inr g)
    ]
