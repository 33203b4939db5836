-- The tiling made is that of the ranges asked for, where they are accepted.
use Rattle.std.proofs.Common.{◌≡◌, ℕ, None, unwrap_or, refl, ap, ◌∙◌, subst}
use Rattle.records.specs.declared.column_type.ColumnType.TheVariants.{U64}
use Rattle.buckets.specs.Ranges.{range_fault, tiling_of}
use Rattle.buckets.specs.Tilings.{starts_of}
use Rattle.stack.specs.Levels.{range_level}
use Rattle.range_rows.specs.Requests.{own_ranges, request_fault, level_asked}
use Rattle.range_rows.proofs.Requesting.{where_accepted}
use Rattle.range_rows.proofs.row_table.RangeRowsRowTable.reset.Goals as goal

pub returns : goal.returns
unfolding request_fault level_asked
returns g c =
    let q = c.args.request.now in
    let own = own_ranges q c.args.ranges.now in
    let type-of = (g.S.Segment.means c.args.seg.now).column_type q.column in
    let starts = starts_of c.extend_ranges-self.result in
    let e = c.unwrap_or-field_type.ensures ∙ ap (λ o. unwrap_or o U64) c.column_type.ensures in
    let made = subst (λ rs. (level : ℕ) → range_fault level c.unwrap_or-field_type.result rs ≡ None → starts ≡ tiling_of c.unwrap_or-field_type.result rs) c.ranges-2.ensures c.extend_ranges-self.ensures.value in
    record {
      plans = λ h. ap (range_level q.column) (where_accepted type-of own c.args.level starts h (subst (λ t. (level : ℕ) → range_fault level t own ≡ None → starts ≡ tiling_of t own) e made));
      empties = c.reset.ensures;
    }
