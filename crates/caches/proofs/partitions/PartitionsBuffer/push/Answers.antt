use Rattle.std.proofs.Common.{◌≡◌, ℕ, ◌+◌, ◌%◌, ◌≤◌, not, List, [], ◌∷◌, length, get_or, slice_get, slice_set, Some, sym, refl, ap, ◌∙◌, subst, arith}
use Rattle.std.proofs.lemmas.Nat.{mod_below}
use Rattle.std.proofs.lemmas.List.{length-set}
use Rattle.std.proofs.lemmas.Option.{slice_get-get_or}
use Rattle.std.proofs.lemmas.Bool.{ne_eqb, true≢false}
use Rattle.stack.specs.Overruns.{added}
use Rattle.caches.specs.declared.pairs.Pairs.{Pairs}
use Rattle.caches.specs.declared.partitions.Partitions.{Partitions}
use Rattle.caches.specs.Grouping.{part_waits, group_waits, group_len, AllHome}
use Rattle.caches.specs.Groups.{part-few, len-set, home-push, group-push, home-kept, group-kept}
use Rattle.caches.proofs.partitions.PartitionsBuffer.push.Goals as goal

-- what the partitions are with q for p, the partition of bucket b: with the pairs that p had, or with one more
record Replaced (self : Partitions) (b doc : ℕ) (p q : Pairs) (is : List Pairs) : Type 0 where
  sixteen : length is ≡ 16
  total : group_len is + p.len ≡ self.len + q.len
  short : p.len ≤ self.len
  same : part_waits q ≡ part_waits p → AllHome is × (group_waits is ≡ group_waits self.partitions)
  more : part_waits q ≡ added (part_waits p) b (doc ∷ []) → AllHome is × (group_waits is ≡ added (group_waits self.partitions) b (doc ∷ []))

replaced : (self : Partitions) (b doc : ℕ) (d q : Pairs) (ps : List Pairs) → ps ≡ self.partitions → Replaced self b doc (get_or ps (b % 16) d) q (slice_set ps (b % 16) q)
replaced self b doc d q ps value =
    let p = get_or ps (b % 16) d in
    let there = slice_get-get_or ps (b % 16) d (omega (arith, ap length value, self.sixteen, mod_below b 16 (omega arith))) in
    let home = subst AllHome (sym value) self.home in
    record {
      sixteen = length-set ps (b % 16) q ∙ ap length value ∙ self.sixteen;
      total = omega (arith, len-set ps (b % 16) p there q, ap group_len value, self.total);
      short = omega (arith, part-few ps (b % 16) p there, ap group_len value, self.total);
      same = λ e. (home-kept ps (b % 16) p q there e home, group-kept ps (b % 16) p q there e ∙ ap group_waits value);
      more = λ e. (
        home-push ps b doc p q there home e,
        subst (λ (rs : List Pairs). group_waits (slice_set ps (b % 16) q) ≡ added (group_waits rs) b (doc ∷ [])) value (group-push ps b doc p q there home e),
      );
    }

pub invariant_of-self : goal.invariant_of-self
invariant_of-self c =
    let r = replaced c.args.self.now c.args.bucket c.args.doc c.index-partitions-bucket.result c.push.new.self c.as_mut_slice-partitions.result.now c.as_mut_slice-partitions.ensures.value in
    let kept = c.push.ensures.after.unaltered c.if-not-push.true in
    record { few = c.args.self.now.few; total = omega (arith, r.total, kept.1); home = (r.same kept.0).0; sixteen = r.sixteen }

pub returns-then-not-push-clause-answer : goal.returns-then-not-push-clause-answer
returns-then-not-push-clause-answer c =
    let r = replaced c.args.self.now c.args.bucket c.args.doc c.index-partitions-bucket.result c.push.new.self c.as_mut_slice-partitions.result.now c.as_mut_slice-partitions.ensures.value in
    let p = get_or c.as_mut_slice-partitions.result.now (c.args.bucket % 16) c.index-partitions-bucket.result in
    let full : (◌≡◌ {A = ℕ} p.len 2048) → ⊥ = λ e. omega (arith, e, r.short, c.args.self.now.few, c.if-self-eq-CAPACITY.false) in
    (λ h. absurd (true≢false (ap not (sym (ne_eqb p.len 2048 full)) ∙ sym (c.push.ensures.answer.0 h) ∙ c.if-not-push.true)), λ h. refl)

pub returns-then-not-push-clause-after : goal.returns-then-not-push-clause-after
returns-then-not-push-clause-after c =
    let r = replaced c.args.self.now c.args.bucket c.args.doc c.index-partitions-bucket.result c.push.new.self c.as_mut_slice-partitions.result.now c.as_mut_slice-partitions.ensures.value in
    let kept = c.push.ensures.after.unaltered c.if-not-push.true in
    record {
      waits = λ e. absurd (true≢false (sym e));
      one_more = λ e. absurd (true≢false (sym e));
      unaltered = λ e. ((r.same kept.0).1, refl);
    }

pub invariant_of-self-2 : goal.invariant_of-self-2
invariant_of-self-2 c =
    let r = replaced c.args.self.now c.args.bucket c.args.doc c.index-partitions-bucket.result c.push.new.self c.as_mut_slice-partitions.result.now c.as_mut_slice-partitions.ensures.value in
    let after = c.push.ensures.after in
    let taken = c.if-not-push.false in
    record {
      few = omega (arith, c.args.self.now.few, c.if-self-eq-CAPACITY.false);
      total = omega (arith, r.total, after.one_more taken);
      home = (r.more (after.waits taken)).0;
      sixteen = r.sixteen;
    }

pub returns-clause-after : goal.returns-clause-after
returns-clause-after c =
    let r = replaced c.args.self.now c.args.bucket c.args.doc c.index-partitions-bucket.result c.push.new.self c.as_mut_slice-partitions.result.now c.as_mut_slice-partitions.ensures.value in
    record {
      waits = λ e. (r.more (c.push.ensures.after.waits c.if-not-push.false)).1;
      one_more = λ e. refl;
      unaltered = λ e. absurd (true≢false e);
    }
