-- What is read of a segment's lists, and that unknown columns and documents read as none.
use Rattle.std.proofs.Common.{◌≡◌, ℕ, zero, suc, ◌+◌, ◌*◌, ◌<◌, ◌≤◌, Bool, true, false, cond, List, [], ◌∷◌, ◌++◌, length, get_or, take, drop, is_some, Some, None, Option, sym, refl, ap, ◌∙◌, inl, inr, le_of_suc-le-suc, not-suc-le-zero, add_assoc, suc-add, zero-add, arith, le-ltb, lt-ltb}
use Rattle.std.specs.List.{slice_get}
use Rattle.std.specs.Option.{option_to_list}
use Rattle.std.proofs.lemmas.List.{take_all, take_more, drop_all, drop_more, length-take}
use Rattle.std.proofs.lemmas.Option.{slice_get-get_or, slice_get_past, slice_get_within, get_or_from_slice_get}
use Rattle.std.proofs.lemmas.Bool.{cond-true, cond-false, cases_lt}
use Rattle.records.specs.declared.column_type.ColumnType.{ColumnType}
use Rattle.records.specs.declared.column_type.ColumnType.TheVariants.{U64}
use Rattle.segments.specs.Segments.{Seg, values, dense, between, by_offsets, Reading}

-- Of a known column and document, what is stored is read.
pub known : (g : Seg) (c d : ℕ) (t : ColumnType) → g.column_type c ≡ Some t → d < g.docs → values g c d ≡ g.held c d
unfolding values
known g c d t h k = cond-true _ _ _ (ap is_some h) ∙ cond-true _ _ _ (lt-ltb d g.docs k)

-- An unknown column has no values.
pub no_column : (g : Seg) (c d : ℕ) → g.column_type c ≡ None → values g c d ≡ []
unfolding values
no_column g c d e = cond-false _ _ _ (ap is_some e)

either_none : (b : Bool) (xs : List ℕ) → xs ≡ [] → cond b xs [] ≡ []
either_none true xs e = e
either_none false xs e = refl

-- An unknown document has no values.
pub no_doc : (g : Seg) (c d : ℕ) → g.docs ≤ d → values g c d ≡ []
unfolding values
no_doc g c d h = either_none _ _ (cond-false _ _ _ (le-ltb d g.docs h))

-- What an index reads of the part of a list from a place on.
nth_take : {X : Type 0} (n : ℕ) (xs : List X) (i : ℕ) → i < n → slice_get (take n xs) i ≡ slice_get xs i
nth_take zero xs i h = absurd (not-suc-le-zero h)
nth_take (suc n) [] i h = refl
nth_take (suc n) (x ∷ xs) zero h = refl
nth_take (suc n) (x ∷ xs) (suc i) h = nth_take n xs i (le_of_suc-le-suc h)

nth_drop : {X : Type 0} (n : ℕ) (xs : List X) (i : ℕ) → slice_get (drop n xs) i ≡ slice_get xs (n + i)
nth_drop zero xs i = ap (slice_get xs) (sym (zero-add i))
nth_drop (suc n) [] i = refl
nth_drop (suc n) (x ∷ xs) i = nth_drop n xs i ∙ ap (slice_get (x ∷ xs)) (sym (suc-add n i))

nth_part : {X : Type 0} (s n : ℕ) (xs : List X) (i : ℕ) → i < n → slice_get (take n (drop s xs)) i ≡ slice_get xs (s + i)
nth_part s n xs i h = nth_take n (drop s xs) i h ∙ nth_drop s xs i

nth_after : {X : Type 0} (s n : ℕ) (xs : List X) (i : ℕ) → n ≤ i → slice_get (take n (drop s xs)) i ≡ None
nth_after s n xs i h = slice_get_past (take n (drop s xs)) i (simp length-take (omega arith))

-- The part of length 1 at a place is what is read there.
pub part_one : (xs : List ℕ) (i : ℕ) → take 1 (drop i xs) ≡ option_to_list (slice_get xs i)
part_one xs i =
    elim (cases_lt i (length xs)) [
      | inl h ↦ ap (take 1) (drop_more xs i 0 h) ∙ sym (ap option_to_list (slice_get-get_or xs i 0 h))
      | inr h ↦ ap (take 1) (drop_all i xs h) ∙ sym (ap option_to_list (slice_get_past xs i h))
    ]

-- The column's part of a dense slice holds the values of every document.
pub dense_column : (docs : ℕ) (types : List ColumnType) (stored : List ℕ) (c : ℕ) → c < length types → (d : ℕ) → option_to_list (slice_get (take docs (drop (c * docs) stored)) d) ≡ values (dense docs types stored) c d
dense_column docs types stored c h d =
    elim (cases_lt d docs) [
      | inl k ↦ ap option_to_list (nth_part (c * docs) docs stored d k) ∙ sym (known (dense docs types stored) c d (get_or types c U64) (slice_get-get_or types c U64 h) k)
      | inr m ↦ ap option_to_list (nth_after (c * docs) docs stored d m) ∙ sym (no_doc (dense docs types stored) c d m)
    ]

-- Without the second offset there are no values.
pub no_end : (start : Option ℕ) (xs : List ℕ) → between start None xs ≡ []
no_end None xs = refl
no_end (Some s) xs = refl

-- The column's part of the offsets holds those of every document.
pub offset_column : (docs : ℕ) (types : List ColumnType) (offsets stored : List ℕ) (c : ℕ) → c < length types → (d : ℕ) → between (slice_get (take (docs + 1) (drop (c * (docs + 1)) offsets)) d) (slice_get (take (docs + 1) (drop (c * (docs + 1)) offsets)) (d + 1)) stored ≡ values (by_offsets docs types offsets stored) c d
offset_column docs types offsets stored c h d =
    let w = docs + 1 in
    let p = c * w in
    let own = slice_get (take w (drop p offsets)) d in
    let g = by_offsets docs types offsets stored in
    elim (cases_lt d docs) [
      | inl k ↦
          (let s : own ≡ slice_get offsets (p + d) = nth_part p w offsets d (omega arith) in
          let e : slice_get (take w (drop p offsets)) (d + 1) ≡ slice_get offsets (p + d + 1) =
          nth_part p w offsets (d + 1) (omega arith) ∙ ap (slice_get offsets) (sym (add_assoc p d 1)) in
          (λ j. between (s j) (e j) stored) ∙ sym (known g c d (get_or types c U64) (slice_get-get_or types c U64 h) k))
      | inr m ↦
          (ap (λ e. between own e stored) (nth_after p w offsets (d + 1) (omega arith)) ∙ no_end own stored ∙ sym (no_doc g c d m))
    ]

pub more : (xs : List ℕ) (i v : ℕ) → slice_get xs i ≡ Some v → take (i + 1) xs ≡ take i xs ++ (v ∷ [])
more xs i v e =
    take_more xs i 0 (slice_get_within xs i v e) ∙ ap (λ w. take i xs ++ (w ∷ [])) (get_or_from_slice_get xs i v 0 e)

-- Where an index reads no value, it is past the end.
pub past : (xs : List ℕ) (i : ℕ) → slice_get xs i ≡ None → length xs ≤ i
past xs i e =
    elim (cases_lt i (length xs)) [
      | inl h ↦ (let g = slice_get-get_or xs i 0 h in let z : ◌≡◌ {A = ℕ} 0 1 = cc in omega arith)
      | inr h ↦ h
    ]

pub no_more : (xs : List ℕ) (i : ℕ) → slice_get xs i ≡ None → take (i + 1) xs ≡ take i xs
no_more xs i e = take_all (i + 1) xs (omega (arith, past xs i e)) ∙ sym (take_all i xs (past xs i e))

pub all : (xs : List ℕ) (i : ℕ) → slice_get xs i ≡ None → take i xs ≡ xs
all xs i e = take_all i xs (past xs i e)

pub reading : Reading
reading = record { no_column = no_column; no_doc = no_doc; more = more; no_more = no_more; all = all }
