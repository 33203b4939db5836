-- Rows made one at a time.
use Rattle.std.proofs.Common.{◌≡◌, ℕ, ◌<◌, ap, ◌∙◌, subst, inl, inr, arith}
use Rattle.std.proofs.lemmas.Bool.{cases_eq}
use Rattle.records.specs.declared.fault.Fault.{Fault}
use Rattle.records.specs.declared.fault.Refusal.TheVariants.{TooManyRows, AllowanceExceeded}
use Rattle.limits.specs.declared.agg_limits.AggregationLimits.{AggregationLimits}
use Rattle.stack.specs.Overruns.{fault}
use Rattle.stack.specs.Calls.{Charged}
use Rattle.rows.specs.Counting.{OneMore, NoMore}
use Rattle.rows.specs.declared.counts.Counts.{Counts}
use Rattle.rows.proofs.Adding as rows
use Rattle.range_rows.specs.declared.table.RangeRows.{RangeRows}
use Rattle.range_rows.specs.Shown.{Added, Short}

-- The row added behind those made has count 0.
pub one_added : (was mid : RangeRows) (counts : Counts) → Added was mid → OneMore mid.counts counts → Added was (record { counts = counts; tiling = mid.tiling; column = mid.column })
one_added was mid counts x o = record {
  same_tiling = x.same_tiling;
  same_column = x.same_column;
  same_number = o.same_level ∙ x.same_number;
  more = omega (arith, o.rows, x.more);
  kept = λ k h. rows.kept mid.counts counts k o (omega (arith, x.more)) ∙ x.kept k h;
  empty = λ k h l. elim (cases_eq k mid.counts.rows) [
    | inl e ↦ rows.empty mid.counts counts k o e
    | inr n ↦ let m : k < mid.counts.rows = omega (arith, o.rows) in rows.kept mid.counts counts k o m ∙ x.empty k h m
  ];
}

-- Where no row more is made, what was made before is charged.
pub fell_short : (was mid : RangeRows) (before between after : AggregationLimits) (wanted : ℕ) (f : Fault) → Added was mid → Charged before between was.counts.rows mid.counts.rows → mid.counts.rows < wanted → NoMore mid.counts between after f → Short was mid before after wanted f
fell_short was mid before between after wanted f x p h n = record {
  added = x;
  fewer = h;
  stopped = rows.stopped mid.counts before between after was.counts.rows mid.counts.rows f p n;
  reason = elim (rows.reason mid.counts before between after was.counts.rows mid.counts.rows f p n) [
    | inl r ↦ inl (r.0 ∙ ap (fault TooManyRows) x.same_number, r.1)
    | inr r ↦ inr (r.0 ∙ ap (fault AllowanceExceeded) x.same_number, r.1)
  ];
}
