-- What a segment means, and what the dense and the offset segment mean by their slices.
use Rattle.std.specs.Prelude.{◌≡◌, ℕ, ◌+◌, ◌-◌, ◌*◌, ◌≤◌, cond, List, [], ◌∷◌, ◌++◌, length, take, drop, is_some, Some, None, Option, nat_le, nat_lt}
use Rattle.std.specs.List.{slice_get}
use Rattle.std.specs.Option.{option_to_list}
use Rattle.records.specs.declared.column_type.ColumnType.{ColumnType}
use Rattle.segments.specs.declared.dense.DenseSegment.{DenseSegment}
use Rattle.segments.specs.declared.offset.OffsetSegment.{OffsetSegment}

-- A segment: so many documents, numbered from 0 and fewer than 2^32, as a u32 answers their number; columns, known if
-- they have a type; and what is stored for a column and a document.
pub record Seg : Type 0 where
  pub docs : ℕ
  pub column_type : ℕ → Option ColumnType
  pub held : (column doc : ℕ) → List ℕ

-- the values of a document in a column: what is stored, and none for an unknown column or document
unfoldable pub values : Seg → (column doc : ℕ) → List ℕ
values g column doc = cond (is_some (g.column_type column)) (cond (nat_lt doc g.docs) (g.held column doc) []) []

-- Dense: the columns lie one after another, one value for each document; a place past the end has none.
abbrev pub dense : ℕ → List ColumnType → List ℕ → Seg
dense docs types stored = record {
  docs = docs;
  column_type = slice_get types;
  held = λ column doc. option_to_list (slice_get stored (column * docs + doc));
}

abbrev pub of_dense : DenseSegment → Seg
of_dense s = dense s.num_docs s.column_types.now s.values.now

-- the values between two offsets; none where an offset is missing, where the offsets fall (`-` stops at 0) or where
-- they pass the end
abbrev pub between : Option ℕ → Option ℕ → List ℕ → List ℕ
between None end stored = []
between (Some start) None stored = []
between (Some start) (Some end) stored = cond (nat_le end (length stored)) (take (end - start) (drop start stored)) []

-- Offsets: each column has one offset for each document and one more, column after column; a document's values lie
-- between its offset and the next.
abbrev pub by_offsets : ℕ → List ColumnType → List ℕ → List ℕ → Seg
by_offsets docs types offsets stored = record {
  docs = docs;
  column_type = slice_get types;
  held = λ column doc.
      between
      (slice_get offsets (column * (docs + 1) + doc))
      (slice_get offsets (column * (docs + 1) + doc + 1))
      stored;
}

abbrev pub of_offset : OffsetSegment → Seg
of_offset s = by_offsets s.num_docs s.column_types.now s.offsets.now s.values.now

-- Unknown columns and documents have no values; and reading a list by index from 0 until none is left reads it whole.
pub record Reading : Type 0 where
  pub no_column : (g : Seg) (column doc : ℕ) → g.column_type column ≡ None → values g column doc ≡ []
  pub no_doc : (g : Seg) (column doc : ℕ) → g.docs ≤ doc → values g column doc ≡ []
  pub more : (xs : List ℕ) (i v : ℕ) → slice_get xs i ≡ Some v → take (i + 1) xs ≡ take i xs ++ (v ∷ [])
  pub no_more : (xs : List ℕ) (i : ℕ) → slice_get xs i ≡ None → take (i + 1) xs ≡ take i xs
  pub all : (xs : List ℕ) (i : ℕ) → slice_get xs i ≡ None → take i xs ≡ xs
