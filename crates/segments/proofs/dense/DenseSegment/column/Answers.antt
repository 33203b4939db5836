-- A known column has its part of the slice; an unknown one has no values.
use Rattle.std.proofs.Common.{length, sym, ap, ◌∙◌, inl, inr}
use Rattle.std.specs.List.{slice_get}
use Rattle.std.specs.Option.{option_to_list}
use Rattle.std.proofs.lemmas.Option.{slice_get_past}
use Rattle.std.proofs.lemmas.Bool.{cases_lt}
use Rattle.segments.proofs.Values.{no_column, dense_column}
use Rattle.segments.proofs.dense.DenseSegment.column.Goals as goal

pub returns : goal.returns
returns c =
    λ doc. elim (cases_lt c.args.column (length c.args.self.now.column_types.now)) [
      | inl h ↦ ap (λ xs. option_to_list (slice_get xs doc)) (c.column_in.ensures.known h) ∙ dense_column _ _ _ _ h doc
      | inr h ↦ ap (λ xs. option_to_list (slice_get xs doc)) (c.column_in.ensures.unknown h) ∙ sym (no_column _ _ _ (slice_get_past _ _ h))
    ]
