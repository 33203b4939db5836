-- Worths that say the same: a worth says the same as itself, and the laws of an exact tally go over to what says the same.
use Rattle.std.proofs.Common.{◌≡◌, ℕ, sym, refl, ap, ◌∙◌}
use Rattle.records.specs.declared.column_type.ColumnType.{ColumnType}
use Rattle.metrics.specs.Tallies.{Exactly, SameWorth, SameRules, ExactBelow}

pub alike : {S W : Type 0} (worth : S → W) → SameWorth worth worth
alike worth = record { to = λ w. w; back = λ w. w; back_to = λ w. refl; to_back = λ w. refl; same = λ s. refl }

pub rules_alike : {S W : Type 0} (worth : S → W) (nothing : W) (fed : ColumnType → ℕ → W → W) (joined : W → W → W) → SameRules worth nothing fed worth joined worth nothing fed joined
unfolding alike
rules_alike worth nothing fed joined = record {
  tally = alike worth;
  empty = refl;
  feeds = λ t v w. refl;
  joinable = alike worth;
  joins = λ a b. refl;
}

module _ {S V U W : Type 0} {t-worth : S → V} {t-nothing : V} {t-fed : ColumnType → ℕ → V → V} {j-worth : S → U} {j-joined : U → U → U} {worth : S → W} {nothing : W} {fed : ColumnType → ℕ → W → W} {joined : W → W → W} where
  -- worths are joined by reading them over, joining there and reading back
  pub below : SameRules t-worth t-nothing t-fed j-worth j-joined worth nothing fed joined → Exactly nothing fed joined → ExactBelow t-worth t-nothing t-fed j-worth j-joined
  below r l =
      let t = r.tally in
      let j = r.joinable in
      let join : V → V → V = λ a b. t.back (joined (t.to a) (t.to b)) in
      let over : (a b : V) → t.to (join a b) ≡ joined (t.to a) (t.to b) = λ a b. t.to_back _ in
      record {
        joined = join;
        laws = record {
          assoc = λ a b c.
              ap (λ x. t.back (joined x (t.to c))) (over a b)
              ∙ ap t.back (l.assoc (t.to a) (t.to b) (t.to c))
              ∙ sym (ap (λ x. t.back (joined (t.to a) x)) (over b c));
          comm = λ a b. ap t.back (l.comm (t.to a) (t.to b));
          neutral = λ a.
              ap (λ x. t.back (joined x (t.to a))) r.empty ∙ ap t.back (l.neutral (t.to a)) ∙ t.back_to a;
          feeding = λ c v a.
              sym (t.back_to (t-fed c v a))
              ∙ ap t.back (r.feeds c v a ∙ l.feeding c v (t.to a))
              ∙ sym (ap (λ x. t.back (joined (t.to a) x)) (r.feeds c v t-nothing ∙ ap (fed c v) r.empty));
        };
        joinable = record {
          to = λ v. j.back (t.to v);
          back = λ u. t.back (j.to u);
          back_to = λ v. ap t.back (j.to_back (t.to v)) ∙ t.back_to v;
          to_back = λ u. ap j.back (t.to_back (j.to u)) ∙ j.back_to u;
          same = λ s. ap j.back (t.same s ∙ sym (j.same s)) ∙ j.back_to (j-worth s);
        };
        joins = λ a b.
            ap j.back (over a b)
            ∙ sym (ap j.back (r.joins (j.back (t.to a)) (j.back (t.to b)) ∙ ap (λ x. joined x (j.to (j.back (t.to b)))) (j.to_back (t.to a)) ∙ ap (joined (t.to a)) (j.to_back (t.to b))))
            ∙ j.back_to _;
      }

-- merging joins the worths of the tally too: what is read over equal is equal
pub merged_below : {S V U : Type 0} {worth : S → V} {nothing : V} {fed : ColumnType → ℕ → V → V} {j-worth : S → U} {j-joined : U → U → U} (b : ExactBelow worth nothing fed j-worth j-joined) (x y r : S) → j-worth r ≡ j-joined (j-worth x) (j-worth y) → worth r ≡ b.joined (worth x) (worth y)
merged_below {worth = worth} {j-joined = j-joined} b x y r e =
    let j = b.joinable in
    let over : j.to (worth r) ≡ j.to (b.joined (worth x) (worth y)) =
    j.same r
    ∙ e
    ∙ sym (ap (λ u. j-joined u (j.to (worth y))) (j.same x) ∙ ap (j-joined _) (j.same y))
    ∙ sym (b.joins (worth x) (worth y))
    in
    sym (j.back_to (worth r)) ∙ ap j.back over ∙ j.back_to _
