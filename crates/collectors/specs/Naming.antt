-- A table's rows as rows of the deliveries, and what is overrun below as overrun here.
use Rattle.std.specs.Prelude.{◌≡◌, ℕ, suc, ◌+◌, ◌^◌, ◌<◌, ◌≤◌, cond, ◌⊎◌, List, [], ◌∷◌, ◌++◌, length, ℤ, pos, negsuc, nat_lt}
use Rattle.std.proofs.Common.{sym, ap, ◌∙◌, inl, inr, arith, length-append}
use Rattle.std.proofs.lemmas.List.{append-nil}
use Rattle.std.proofs.lemmas.Bool.{cases_lt, lt-ltb, le-ltb, cond-true, cond-false}
use Rattle.records.specs.declared.fault.Fault.{Fault}
use Rattle.records.specs.declared.fault.Refusal.TheVariants.{CountOverflow}
use Rattle.segments.specs.Segments.{Seg}
use Rattle.stack.specs.Levels.{Lvl, range_level, histogram_level, row_docs, Step}
use Rattle.stack.specs.Overruns.{Deliveries, More, Crowd, fault, Overrun, full, Names}
use Rattle.stack.proofs.Overrunning.{crowd_as, crowd-up, all_buckets, with_buckets, overrun_more, overrun_open, overrun-up}
use Rattle.stack.proofs.Readings.{readings_row}
use Rattle.rows.specs.Tables.{Always, Fits}
use Rattle.collectors.specs.Filing.{Stands}

-- a row that stands for documents that come first stands for all
pub stands_step : (l : Lvl) (g : Seg) (D : Deliveries) (b : ℕ) (s : ℤ) (docs : List ℕ) → (rest : List ℕ) × (row_docs l g s (D b) ≡ docs ++ rest) → Stands l docs s → Step l g (D b) s
stands_step (range_level column starts) g D b (pos k) docs w h = h
stands_step (range_level column starts) g D b (negsuc k) docs w h = h
stands_step (histogram_level column position) g D b s docs w h = omega (arith, ap length w.1, length-append docs w.0, h)

pub always_step : (l : Lvl) (g : Seg) (ds : List ℕ) (s : ℤ) → Always l s → Step l g ds s
always_step (range_level column starts) g ds (pos k) h = h
always_step (range_level column starts) g ds (negsuc k) h = h
always_step (histogram_level column position) g ds s h = absurd h

pub fits_step : (l : Lvl) (g : Seg) (ds : List ℕ) (s : ℤ) → Fits l s → 0 < length (row_docs l g s ds) → Step l g ds s
fits_step (range_level column starts) g ds (pos k) h some = h
fits_step (range_level column starts) g ds (negsuc k) h some = h
fits_step (histogram_level column position) g ds s h some = some

-- rows by bucket and step, R of them, with the documents delivered
module _ (l : Lvl) (ls : List Lvl) (g : Seg) (buckets R : ℕ) (bucket : ℕ → ℕ) (step : ℕ → ℤ) (D : Deliveries)
    (inside : (k : ℕ) → k < R → bucket k < buckets)
    (stands : (k : ℕ) → k < R → Step l g (D (bucket k)) (step k))
    (apart : (j k : ℕ) → j < R → k < R → bucket j ≡ bucket k → step j ≡ step k → j ≡ k) where
  all-docs : Deliveries
  all-docs k = cond (nat_lt k R) (row_docs l g (step k) (D (bucket k))) []

  docs-in : (k : ℕ) → k < R → all-docs k ≡ row_docs l g (step k) (D (bucket k))
  unfolding all-docs
  docs-in k h = cond-true (nat_lt k R) (row_docs l g (step k) (D (bucket k))) [] (lt-ltb k R h)

  docs-out : (k : ℕ) → R ≤ k → all-docs k ≡ []
  unfolding all-docs
  docs-out k h = cond-false (nat_lt k R) (row_docs l g (step k) (D (bucket k))) [] (le-ltb k R h)

  names : Names l g buckets R all-docs D
  names = record { bucket = bucket; step = step; inside = inside; stands = stands; docs = docs-in; apart = apart }

  -- documents that come first row by row
  docs-more : (E : Deliveries) → ((k : ℕ) → k < R → (rest : List ℕ) × (row_docs l g (step k) (D (bucket k)) ≡ E k ++ rest)) → ((k : ℕ) → R ≤ k → E k ≡ []) → More E all-docs
  docs-more E first none = record { rest = λ k. rest_of k (cases_lt k R); is = λ k. is-of k (cases_lt k R) }
    where
      rest_of : (k : ℕ) → (k < R) ⊎ (R ≤ k) → List ℕ
      rest_of k (inl h) = (first k h).0
      rest_of k (inr h) = []

      is-of : (k : ℕ) → (c : (k < R) ⊎ (R ≤ k)) → all-docs k ≡ E k ++ rest_of k c
      is-of k (inl h) = docs-in k h ∙ (first k h).1
      is-of k (inr h) = docs-out k h ∙ sym (append-nil (E k) ∙ none k h)

  module _ (E : Deliveries) (first : (k : ℕ) → k < R → (rest : List ℕ) × (row_docs l g (step k) (D (bucket k)) ≡ E k ++ rest)) (none : (k : ℕ) → R ≤ k → E k ≡ []) where
    -- what is overrun below is overrun here
    pub lifted : (slots n others limit : ℕ) (f : Fault) → Overrun 1 ls slots (suc n) g R E (others + R) limit f → Overrun 1 (l ∷ ls) slots n g buckets D others limit f
    lifted slots n others limit f o =
        overrun-up l ls g buckets R all-docs D names slots n others limit f
        (overrun_open ls slots (suc n) g R all-docs others limit f
        (overrun_more 1 ls slots (suc n) g R E all-docs (others + R) limit f (docs-more E first none) o))

    -- all rows, with those made below them
    pub rows-here : (m : ℕ) → Crowd ls g R E (λ k. 1 ≤ k) m → Crowd (l ∷ ls) g buckets D (λ k. 1 ≤ k) (R + m)
    rows-here m c =
        let P : ℕ → Type 0 = λ k. 1 ≤ k in
        crowd-up l ls g buckets R all-docs D names (λ k. 0 ≤ k) (λ k. 1 ≤ k) (R + m) (λ j p. omega arith)
        (with_buckets ls g R all-docs m (crowd_as ls g R R E all-docs P P m m (omega arith) (docs-more E first none) (λ j p. p) (omega arith) c))

  -- the rows alone
  pub rows-alone : Crowd (l ∷ ls) g buckets D (λ k. k ≡ 1) R
  rows-alone = crowd-up l ls g buckets R all-docs D names (λ k. k ≡ 0) (λ k. k ≡ 1) R (λ j p. ap suc p) (all_buckets ls g R all-docs R (omega arith))

-- a full count: with one document more the row has 2^64 readings
pub full_row : (l : Lvl) (ls : List Lvl) (slots n : ℕ) (g : Seg) (buckets : ℕ) (D : Deliveries) (others limit : ℕ) (f : Fault) (b : ℕ) (s : ℤ) → f ≡ fault CountOverflow n → b < buckets → 2 ^ 64 ≤ length (row_docs l g s (D b)) → Overrun 1 (l ∷ ls) slots n g buckets D others limit f
full_row l ls slots n g buckets D others limit f b s e h many =
    full 0 (e ∙ ap (fault CountOverflow) (omega arith)) (omega arith) record {
      bucket = b;
      path = s ∷ [];
      inside = h;
      long = omega arith;
      many = omega (arith, many, readings_row l ls g (D b) s);
    }
