-- The column's type says which refusal applies.
use Rattle.std.proofs.Common.{◌≡◌, Some, None, sym, ap, ◌∙◌, subst, arith}
use Rattle.std.proofs.lemmas.Result.{err_from_is_err_and}
use Rattle.records.specs.Faults.{Answers}
use Rattle.records.specs.declared.fault.Refusal.TheVariants.{UnknownColumn}
use Rattle.rows.proofs.Adding.{numbered_is}
use Rattle.range_rows.specs.Requests.{own_ranges, fault_on, request_fault}
use Rattle.range_rows.proofs.row_table.RangeRowsRowTable.check.Goals as goal

pub returns-in_err-field_type : goal.returns-in_err-field_type
unfolding request_fault
returns-in_err-field_type g c =
    let q = err_from_is_err_and c.from_residual.result c.from_residual.ensures.1 in
    let none : c.column_type.result ≡ None = grind arith in
    let is : record { refusal = UnknownColumn; level = c.args.level; place = 0 } ≡ c.in_err-field_type.field-0.0 = grind arith in
    rw (q.1, q.2)
    (ap (λ t. fault_on t (own_ranges c.args.request.now c.args.ranges.now) c.args.level) (sym c.column_type.ensures ∙ none)
    ∙ ap (λ n. Some (record { refusal = UnknownColumn; level = n; place = 0 })) (numbered_is c.args.level (omega arith))
    ∙ ap Some is)

pub returns : goal.returns
unfolding request_fault
returns g c =
    let r = c.validate_ranges.result in
    let n = c.args.level in
    let own = own_ranges c.args.request.now c.args.ranges.now in
    let some : c.column_type.result ≡ Some c.in_ok-field_type.field_type = grind arith in
    subst (λ t. Answers r (fault_on t own n)) (sym some ∙ c.column_type.ensures)
    (subst (λ rs. Answers r (fault_on (Some c.in_ok-field_type.field_type) rs n)) c.ranges-2.ensures c.validate_ranges.ensures.answer)
