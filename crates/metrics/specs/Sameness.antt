-- When two tallies compare equal: exactly where they are worth the same.
use Rattle.std.specs.Prelude.{◌≡◌, ◌&&◌, Some, None, refl, Decides, ◌==◌}
use Rattle.std.specs.Option.{option_eq, is_some, unwrap_or}
use Rattle.std.specs.Float.{binary64}
use Rattle.std.proofs.Common.{ap, sym, ◌∙◌, true≢false}
use lib.Ieee.{of_bits, to_bits}
use lib.Ieee.Bits.{of_bits-to_bits, of_bits-fits}
use Rattle.std.proofs.lemmas.Bool.Decides.{Decides-and, Decides-eqb, Decides-like}
use Rattle.metrics.specs.Counting.{counted_is}
use Rattle.metrics.specs.Ends.{Ends}
use Rattle.metrics.specs.Floats.{float_of, bits_of}
use Rattle.metrics.specs.Numbers.{number_worth}
use Rattle.metrics.specs.Sums.{stats_worth}
use Rattle.metrics.specs.declared.float_bits.FloatBits.{FloatBits}
use Rattle.metrics.specs.declared.number.Number.{Number}
use Rattle.metrics.specs.declared.stats.IntermediateStats.{IntermediateStats}

pub same_number : (x y : Number) → Decides ((number_worth x).count == (number_worth y).count) (number_worth x ≡ number_worth y)
same_number x y = Decides-like _ (counted_is _ _) (λ e. ap (λ c. c.count) e) (Decides-eqb _ _)

pub same_ends : (x y : Ends) → Decides (option_eq (λ p q. (p.0 == q.0) && (p.1 == q.1)) x y) (x ≡ y)
same_ends None None = (λ e. refl, λ e. refl)
same_ends None (Some q) = (λ e. absurd (true≢false (sym e)), λ e. absurd (true≢false (sym (ap is_some e))))
same_ends (Some p) None = (λ e. absurd (true≢false (sym e)), λ e. absurd (true≢false (ap is_some e)))
same_ends (Some p) (Some q) =
    let inner : Some p ≡ Some q → p ≡ q = λ e. ap (λ o. unwrap_or o p) e in
    Decides-like _
    (λ h i. Some (h.0 i, h.1 i))
    (λ e. (ap (λ r. r.0) (inner e), ap (λ r. r.1) (inner e)))
    (Decides-and _ _ (Decides-eqb p.0 q.0) (Decides-eqb p.1 q.1))

-- what is read of a pattern is read of what it is kept as
same_float : (a b : FloatBits) → Decides ((bits_of (float_of a)).bits == (bits_of (float_of b)).bits) (float_of a ≡ float_of b)
same_float a b =
    let back : (x : FloatBits) → float_of (bits_of (float_of x)) ≡ float_of x =
    λ x. of_bits-to_bits binary64 (float_of x) (of_bits-fits binary64 x.bits)
    in
    Decides-like _
    (λ e. sym (back a) ∙ ap (of_bits binary64) e ∙ back b)
    (λ e. ap (to_bits binary64) e)
    (Decides-eqb _ _)

pub same_stats : (x y : IntermediateStats) → Decides ((x.count == y.count) && (((bits_of (float_of x.sum)).bits == (bits_of (float_of y.sum)).bits) && (((bits_of (float_of x.delta)).bits == (bits_of (float_of y.delta)).bits) && (((bits_of (float_of x.min)).bits == (bits_of (float_of y.min)).bits) && ((bits_of (float_of x.max)).bits == (bits_of (float_of y.max)).bits))))) (stats_worth x ≡ stats_worth y)
same_stats x y =
    let f = same_float in
    Decides-like _
    (λ h i. record { count = h.0 i; sum = h.1.0 i; delta = h.1.1.0 i; low = h.1.1.1.0 i; high = h.1.1.1.1 i })
    (λ e. (ap (λ s. s.count) e, (ap (λ s. s.sum) e, (ap (λ s. s.delta) e, (ap (λ s. s.low) e, ap (λ s. s.high) e)))))
    (Decides-and _ _ (Decides-eqb _ _) (Decides-and _ _ (f x.sum y.sum) (Decides-and _ _ (f x.delta y.delta) (Decides-and _ _ (f x.min y.min) (f x.max y.max)))))
