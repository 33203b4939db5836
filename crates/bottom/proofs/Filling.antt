-- Feeding the slots, and refusing a bucket past them.
use Rattle.std.proofs.Common.{◌≡◌, ℕ, ◌+◌, ◌<◌, ◌≤◌, ◌≢◌, List, [], ◌∷◌, ◌++◌, length, get_or, take, Some, None, sym, refl, ap, ◌∙◌, subst, inl, inr, arith}
use Rattle.std.specs.List.{slice_get}
use Rattle.std.proofs.lemmas.List.{append-nil, take_more}
use Rattle.std.proofs.lemmas.Bool.{cases_eq}
use Rattle.records.specs.Refusals.{refusal_number}
use Rattle.records.specs.declared.column_type.ColumnType.{ColumnType}
use Rattle.records.specs.declared.fault.Fault.{Fault}
use Rattle.records.specs.declared.fault.Refusal.TheVariants.{TooManyRows, AllowanceExceeded}
use Rattle.limits.specs.declared.agg_limits.AggregationLimits.{AggregationLimits}
use Rattle.metrics.specs.Tallies.{fed_all}
use Rattle.metrics.proofs.Feeding.{fed-more}
use Rattle.segments.specs.Segments.{Seg, values}
use Rattle.segments.proofs.Values.{more, no_more}
use Rattle.stack.specs.Levels.{Plan, values_of}
use Rattle.stack.specs.Overruns.{Deliveries, added, numbered}
use Rattle.stack.specs.Calls.{for_rows, Overran}
use Rattle.stack.proofs.Delivering.{added_same, added_other}
use Rattle.stack.proofs.Overrunning.{bottom_over}
use Rattle.stack.proofs.Readings.{values-append}
use Rattle.bottom.specs.Bottoms.{bottom_plan, SlotFed, Slots}

-- One value more is fed: the one read at the next index.
pub value_fed : {W : Type 0} (fed : ColumnType → ℕ → W → W) (t : ColumnType) (vs : List ℕ) (i v : ℕ) (was w is : W) → w ≡ fed_all fed t (take i vs) was → slice_get vs i ≡ Some v → is ≡ fed t v w → is ≡ fed_all fed t (take (i + 1) vs) was
value_fed fed t vs i v was w is a r b =
    b ∙ ap (fed t v) a ∙ sym (fed-more fed t (take i vs) (v ∷ []) was) ∙ ap (λ xs. fed_all fed t xs was) (sym (more vs i v r))

-- No value is left to feed.
pub none_fed : {W : Type 0} (fed : ColumnType → ℕ → W → W) (t : ColumnType) (vs : List ℕ) (i : ℕ) (was w : W) → w ≡ fed_all fed t (take i vs) was → slice_get vs i ≡ None → w ≡ fed_all fed t (take (i + 1) vs) was
none_fed fed t vs i was w a r = a ∙ ap (λ xs. fed_all fed t xs was) (sym (no_more vs i r))

-- One document's values more are fed.
pub doc_fed : {W : Type 0} (fed : ColumnType → ℕ → W → W) (t : ColumnType) (g : Seg) (column : ℕ) (ds : List ℕ) (i : ℕ) (was w is : W) → i < length ds → w ≡ fed_all fed t (values_of g column (take i ds)) was → is ≡ fed_all fed t (values g column (get_or ds i 0)) w → is ≡ fed_all fed t (values_of g column (take (i + 1) ds)) was
doc_fed fed t g column ds i was w is h a b =
    let d = get_or ds i 0 in
    let vals = values_of g column in
    b ∙ ap (fed_all fed t (values g column d)) a
    ∙ sym (fed-more fed t (vals (take i ds)) (values g column d) was)
    ∙ ap (λ vs. fed_all fed t (vals (take i ds) ++ vs) was) (sym (append-nil (values g column d)))
    ∙ ap (λ vs. fed_all fed t vs was) (sym (values-append g column (take i ds) (d ∷ [])))
    ∙ ap (λ es. fed_all fed t (vals es) was) (sym (take_more ds i 0 h))

-- The slot of a bucket is fed its documents; every other slot is as it was.
pub slots_fed : {T W : Type 0} (worth : T → W) (nothing : W) (fed : ColumnType → ℕ → W → W) (plan : Plan) (g : Seg) (was is : List T) (b : ℕ) (ds : List ℕ)
    → SlotFed worth fed plan.field_type (values_of g plan.column ds) was is b → (D : Deliveries) → Slots worth nothing fed plan g was D → Slots worth nothing fed plan g is (added D b ds)
slots_fed worth nothing fed plan g was is b ds x D s =
    let t = plan.field_type in
    let vals = values_of g plan.column in
    let feeds : List ℕ → _ = λ docs. fed_all fed t (vals docs) nothing in
    record {
      inside = λ k d l. elim (cases_eq k b) [
        | inl q ↦ subst (λ (j : ℕ). worth (get_or is j d) ≡ feeds (added D b ds j)) (sym q)
            (x.here d
            ∙ ap (fed_all fed t (vals ds)) (s.inside b d x.within)
            ∙ sym (fed-more fed t (vals (D b)) (vals ds) nothing)
            ∙ ap (λ vs. fed_all fed t vs nothing) (sym (values-append g plan.column (D b) ds))
            ∙ ap feeds (sym (added_same D b ds)))
        | inr q ↦ ap worth (x.others k d q) ∙ s.inside k d (omega (arith, l, x.same_length)) ∙ ap feeds (sym (added_other D b k ds q))
      ];
      outside = λ k l. added_other D b k ds (λ q. omega (arith, q, l, x.same_length, x.within)) ∙ s.outside k (omega (arith, l, x.same_length));
    }

-- their numbers differ
apart : TooManyRows ≢ AllowanceExceeded
apart e = let n : 11 ≡ 12 = ap refusal_number e in omega (arith, n)

-- More buckets than slots are too many rows.
pub refused_past : (column : ℕ) (t : ColumnType) (slots past number : ℕ) (g : Seg) (holds : (n buckets : ℕ) → Deliveries → Type 0) (inside : ℕ → Type 0) (grows : Deliveries → Deliveries) (limits : AggregationLimits) (f : Fault)
    → slots < past → ((buckets : ℕ) → inside buckets → past ≤ buckets) → ((n buckets : ℕ) (D : Deliveries) → holds n buckets D → number ≡ numbered n)
    → f ≡ record { refusal = TooManyRows; level = number; place = 0 } → Overran 1 (bottom_plan column t) slots g holds inside grows limits limits 0 0 f
refused_past column t slots past number g holds inside grows limits f h i number_is e = record {
  stopped = record { same_limit = refl; grown = omega arith; paid = for_rows (λ q. apart (sym (ap (λ (x : Fault). x.refusal) e) ∙ q)) refl };
  overrun = λ n buckets others D w a u.
      bottom_over slots n buckets past g (grows D) others limits.limit f (e ∙ ap (λ (k : ℕ). record { refusal = TooManyRows; level = k; place = 0 }) (number_is n buckets D a)) h (i buckets w);
}
