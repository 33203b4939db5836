-- A range of numbers holds what lies at or above its start and at or below its end.
use Rattle.std.proofs.Common.{◌≡◌, Bool, true, false, cond, ◌&&◌, ◌||◌, Some, None, refl, ◌∙◌}
use lib.Ieee.{Float, lt, eq, le}
use Rattle.std.specs.declared.cmp.Ordering.TheVariants.{Less, Equal, Greater}
use Rattle.std.specs.Ordering.{partial_le, is_some_and, is_le, float_partial_cmp}
use Rattle.buckets.proofs.histogram.HistogramBounds.contains.Goals as goal

by_cases : (l e g : Bool) → is_some_and is_le (cond l (Some Less) (cond e (Some Equal) (cond g (Some Greater) None))) ≡ (l || e)
by_cases true e g = refl
by_cases false true g = refl
by_cases false false true = refl
by_cases false false false = refl

at_most : (x y : Float) → partial_le float_partial_cmp x y ≡ le x y
unfolding le
at_most x y = by_cases (lt x y) (eq x y) (lt y x)

pub returns : goal.returns
returns c =
    let b = c.args.self.now in
    let v = c.args.val in
    c.contains.ensures.value
    ∙ (rw c.new.ensures.start (rw c.new.ensures.end (rw c.new.ensures.exhausted (λ i. at_most b.min v i && at_most v b.max i))))
