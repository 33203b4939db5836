-- The laws of counting: two numbers of values are equal where their counts are, and a sum capped early or late is the same.
use Rattle.std.specs.Prelude.{◌≡◌, ℕ, ◌+◌, ◌-◌, ◌^◌, ◌<◌, ◌≤◌, List, [], ◌∷◌, length, Decides, ◌==◌}
use Rattle.std.proofs.Common.{ap, ◌∙◌, arith}
use mathlib.Core.HLevel.{is_prop→PathP}
use Rattle.std.proofs.Math.Bridge.{le_prop}
use Rattle.records.specs.declared.column_type.ColumnType.{ColumnType}
use Rattle.std.proofs.lemmas.Bool.Decides.{Decides-eqb, Decides-like}
use Rattle.metrics.specs.Numbers.{Counted, capped, one_more, added, Counts}
use Rattle.metrics.specs.Tallies.{Exactly, fed_all}

-- the bound has one proof at most
pub counted_is : (a b : Counted) → a.count ≡ b.count → a ≡ b
counted_is a b p =
    λ i. record {
      count = p i;
      most = is_prop→PathP (λ i. p i ≤ 2 ^ 64 - 1) (λ i. le_prop) a.most b.most i;
    }

pub number_laws : Exactly (capped 0) (λ _ _. one_more) added
number_laws = record {
  assoc = λ a b c. counted_is _ _ (omega arith);
  comm = λ a b. counted_is _ _ (omega arith);
  neutral = λ a. counted_is _ a (omega (arith, a.most));
  feeding = λ t v a. counted_is _ _ (omega arith);
}

-- below the cap nothing is cut off
pub same_count : (a b : ℕ) → a < 2 ^ 64 → b < 2 ^ 64 → Decides (a == b) (capped a ≡ capped b)
same_count a b h k =
    Decides-like (a == b) (λ e. ap capped e) (λ e. omega (arith, ap (λ c. c.count) e)) (Decides-eqb a b)

-- by recursion, from any number on
counts_on : (t : ColumnType) (vs : List ℕ) (c : Counted) → fed_all (λ _ _. one_more) t vs c ≡ capped (c.count + length vs)
counts_on t [] c = counted_is _ _ (omega (arith, c.most))
counts_on t (v ∷ vs) c = counts_on t vs (one_more c) ∙ counted_is _ _ (omega arith)

pub counts : Counts
counts t vs = counts_on t vs (capped 0) ∙ counted_is _ _ (omega arith)
