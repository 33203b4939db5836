-- No level has more rows than its table: distinct places below a number of buckets are at most that many, and the rows of
-- a level are the buckets of the level below.
use Rattle.std.proofs.Common.{◌≡◌, ℕ, zero, suc, ◌+◌, ◌<◌, ◌≤◌, Bool, true, false, not, eqb, filter, ◌≢◌, List, [], ◌∷◌, map, length, get_or, drop, ℤ, pos, sym, refl, ap, ◌∙◌, subst, ap₂, inl, inr, arith}
use Rattle.std.specs.List.{list_any, IsDistinct}
use Rattle.std.proofs.lemmas.List.{length-map}
use Rattle.std.proofs.lemmas.List.Filters.{length-filter_both}
use Rattle.std.proofs.lemmas.Map.Steps.{length-le_from_distinct_below}
use Rattle.std.proofs.lemmas.Bool.{cond_both, both_ways, or_cases, ne_eqb, eqb-true}
use Rattle.segments.specs.Segments.{Seg}
use Rattle.stack.specs.Levels.{Lvl, There}
use Rattle.stack.specs.Overruns.{Deliveries, More, Place, Exists, All, Distinct, Crowd, depth_of, Bounded, Complete, Numbers}
use Rattle.stack.proofs.Overrunning.{all_imp, all_map, all_both, crowd_as}

-- ---- distinct buckets below a number are at most that many

-- a bucket below n, with no step
abbrev Low : ℕ → Place → Type 0
Low n x = (x.0 < n) × (length x.1 ≡ 0)

-- the buckets of places
abbrev buckets : List Place → List ℕ
buckets xs = map (λ (x : Place). x.0) xs

nil_of : (p : List ℤ) → length p ≡ 0 → p ≡ []
nil_of [] e = refl
nil_of (s ∷ p) e = absurd (omega arith)

low_same : (n : ℕ) (x y : Place) → Low n x → Low n y → x.0 ≡ y.0 → x ≡ y
low_same n x y a b e = ap₂ (λ i j. (i, j)) e (nil_of x.1 a.1 ∙ sym (nil_of y.1 b.1))

buckets-apart : (n : ℕ) (xs : List Place) → All (Low n) xs → Distinct xs → IsDistinct eqb (buckets xs)
unfolding IsDistinct
buckets-apart n [] a d = tt
buckets-apart n (x ∷ xs) a d = (
  all_map (λ y. (x ≢ y) × Low n y) (λ k. eqb x.0 k ≡ false) (λ y. y.0) xs (λ y h. ne_eqb x.0 y.0 (λ e. h.0 (low_same n x y a.0 h.1 e))) (all_both (λ y. x ≢ y) (Low n) xs d.0 a.1),
  buckets-apart n xs a.1 d.1,
)

bucket_low : (n b : ℕ) (xs : List Place) → All (Low n) xs → list_any (eqb b) (buckets xs) ≡ true → b < n
bucket_low n b [] a e = absurd (both_ways false refl e)
bucket_low n b (x ∷ xs) a e = elim (or_cases (eqb b x.0) (list_any (eqb b) (buckets xs)) e) [
  | inl h ↦ subst (λ (k : ℕ). k < n) (sym (eqb-true b x.0 h)) a.0.0
  | inr h ↦ bucket_low n b xs a.1 h
]

low_few : (n : ℕ) (xs : List Place) → All (Low n) xs → Distinct xs → length xs ≤ n
low_few n xs a d = omega (arith, length-le_from_distinct_below (buckets xs) n (buckets-apart n xs a d) (λ b e. bucket_low n b xs a e), length-map xs (λ (x : Place). x.0))

pub crowd_few : (ls : List Lvl) (g : Seg) (nb : ℕ) (D : Deliveries) (m : ℕ) → Crowd ls g nb D (λ k. k ≡ 0) m → m ≤ nb
crowd_few ls g nb D m c = omega (arith, c.many, low_few nb c.places (all_imp (λ x. Exists ls g nb D x × (length x.1 ≡ 0)) (Low nb) c.places (λ x h. (h.0.0, h.1)) c.there) c.distinct)

-- ---- the places with no step, and the others
abbrev here : Place → Bool
here x = eqb (length x.1) 0

abbrev further : Place → Bool
further x = not (here x)

some_step : (n : ℕ) → not (eqb n 0) ≡ true → 1 ≤ n
some_step zero e = absurd (both_ways false refl e)
some_step (suc n) e = omega arith

all_filter : (p : Place → Bool) (P Q : Place → Type 0) (xs : List Place) → ((x : Place) → p x ≡ true → P x → Q x) → All P xs → All Q (filter p xs)
all_filter p P Q [] f a = tt
all_filter p P Q (x ∷ xs) f a = let rest = all_filter p P Q xs f a.1 in cond_both (p x) (x ∷ filter p xs) (filter p xs) (All Q) (λ e. (f x e a.0, rest)) (λ _. rest)

distinct_filter : (p : Place → Bool) (xs : List Place) → Distinct xs → Distinct (filter p xs)
distinct_filter p [] d = tt
distinct_filter p (x ∷ xs) d =
    let rest = distinct_filter p xs d.1 in
    cond_both (p x) (x ∷ filter p xs) (filter p xs) Distinct (λ _. (all_filter p (λ y. x ≢ y) (λ y. x ≢ y) xs (λ y _ h. h) d.0, rest)) (λ _. rest)

crowd_part : (p : Place → Bool) (Q : ℕ → Type 0) → ((x : Place) → p x ≡ true → Q (length x.1)) → (ls : List Lvl) (g : Seg) (nb : ℕ) (D : Deliveries) (m : ℕ) (c : Crowd ls g nb D (λ k. 0 ≤ k) m) → Crowd ls g nb D Q (length (filter p c.places))
crowd_part p Q f ls g nb D m c = record {
  places = filter p c.places;
  there = all_filter p (λ x. Exists ls g nb D x × (0 ≤ length x.1)) (λ x. Exists ls g nb D x × Q (length x.1)) c.places (λ x e h. (h.0, f x e)) c.there;
  distinct = distinct_filter p c.places c.distinct;
  many = omega arith;
}

-- ---- below the last level there is no step
no_step : (g : Seg) (ds : List ℕ) (p : List ℤ) → 1 ≤ length p → There [] g ds p → ⊥
no_step g ds [] h t = omega (arith, h)
no_step g ds (s ∷ p) h t = t

pub none_there : (g : Seg) (nb : ℕ) (D : Deliveries) (xs : List Place) → All (λ x. Exists [] g nb D x × (1 ≤ length x.1)) xs → length xs ≡ 0
none_there g nb D [] a = refl
none_there g nb D (x ∷ xs) a = absurd (no_step g (D x.0) x.1 a.0.1 a.0.0.1)

-- ---- rows here and below, as places of the level below: the first step goes, with the bucket, into the row's number
module _ (l : Lvl) (ls : List Lvl) (g : Seg) (nb rows : ℕ) (E D : Deliveries) (a : Numbers l g nb rows E D) where
  down : Place → Place
  down x = (a.row x.0 (get_or x.1 0 (pos 0)), drop 1 x.1)

  down-exists : (b : ℕ) (p : List ℤ) → 1 ≤ length p → Exists (l ∷ ls) g nb D (b, p) → Exists ls g rows E (down (b, p))
  unfolding down
  down-exists b [] h x = absurd (omega arith)
  down-exists b (s ∷ p) h x = (a.inside b s x.0 x.1.0, subst (λ t. There ls g t p) (sym (a.docs b s x.0 x.1.0)) x.1.1)

  down-apart : (b : ℕ) (p : List ℤ) (c : ℕ) (q : List ℤ) → 1 ≤ length p → Exists (l ∷ ls) g nb D (b, p) → 1 ≤ length q → Exists (l ∷ ls) g nb D (c, q) → down (b, p) ≡ down (c, q) → ◌≡◌ {A = Place} (b, p) (c, q)
  unfolding down
  down-apart b [] c q h x i y e = absurd (omega (arith, h))
  down-apart b (s ∷ p) c [] h x i y e = absurd (omega (arith, i))
  down-apart b (s ∷ p) c (t ∷ q) h x i y e =
      let both = a.apart b s c t x.0 x.1.0 y.0 y.1.0 (ap (λ z. z.0) e) in
      let rest : p ≡ q = ap (λ z. z.1) e in
      ap₂ (λ u v. (u, v)) both.0 (ap₂ (λ u v. u ∷ v) both.1 rest)

  down-distinct : (xs : List Place) → All (λ x. Exists (l ∷ ls) g nb D x × (1 ≤ length x.1)) xs → Distinct xs → Distinct (map down xs)
  down-distinct [] b d = tt
  down-distinct (x ∷ xs) b d = (
    all_map (λ y. (x ≡ y → ⊥) × (Exists (l ∷ ls) g nb D y × (1 ≤ length y.1))) (λ y. down x ≡ y → ⊥) down xs
        (λ y h e. h.0 (down-apart x.0 x.1 y.0 y.1 b.0.1 b.0.0 h.1.1 h.1.0 e))
        (all_both (λ y. x ≡ y → ⊥) (λ y. Exists (l ∷ ls) g nb D y × (1 ≤ length y.1)) xs d.0 b.1),
    down-distinct xs b.1 d.1,
  )

  drop-length : (p : List ℤ) → 1 ≤ length p → suc (length (drop 1 p)) ≡ length p
  drop-length [] h = absurd (omega arith)
  drop-length (s ∷ p) h = refl

  pub crowd-down : (P Q : ℕ → Type 0) (m : ℕ) → ((j : ℕ) → P j → 1 ≤ j) → ((j : ℕ) → P (suc j) → Q j) → Crowd (l ∷ ls) g nb D P m → Crowd ls g rows E Q m
  unfolding down
  crowd-down P Q m long f c = record {
    places = map down c.places;
    there = all_map (λ x. Exists (l ∷ ls) g nb D x × P (length x.1)) (λ x. Exists ls g rows E x × Q (length x.1)) down c.places
        (λ x h. let some = long (length x.1) h.1 in (down-exists x.0 x.1 some h.0, f (length (drop 1 x.1)) (subst P (sym (drop-length x.1 some)) h.1))) c.there;
    distinct = down-distinct c.places (all_imp (λ x. Exists (l ∷ ls) g nb D x × P (length x.1)) (λ x. Exists (l ∷ ls) g nb D x × (1 ≤ length x.1)) c.places (λ x h. (h.0, long (length x.1) h.1)) c.there) c.distinct;
    many = omega (arith, c.many, length-map c.places down);
  }

  down_to : (k m : ℕ) → Crowd (l ∷ ls) g nb D (λ j. j ≡ suc k) m → Crowd ls g rows E (λ j. j ≡ k) m
  down_to k m c = crowd-down (λ j. j ≡ suc k) (λ j. j ≡ k) m (λ j p. omega (arith, p)) (λ j p. omega (arith, p)) c

  -- a level is bounded where its table and what lies below it are
  pub bounded-up : (slots : ℕ) → rows ≤ 512 → Bounded ls slots g rows E → Bounded (l ∷ ls) slots g nb D
  bounded-up slots h below zero m i c = omega (arith, crowd_few ls g rows E m (down_to 0 m c))
  bounded-up slots h below (suc j) m i c = below j m (omega (arith, i)) (down_to (depth_of ls j) m c)

  -- the rows that exist are those of the table and those below it
  pub complete-up : (slots made : ℕ) → rows ≤ 512 → Complete ls slots g rows E made → Complete (l ∷ ls) slots g nb D (rows + made)
  complete-up slots made h below = record {
    bounded = bounded-up slots h below.bounded;
    all = λ m c.
        let d = crowd-down (λ j. 1 ≤ j) (λ j. 0 ≤ j) m (λ j p. p) (λ j p. omega arith) c in
        let few = crowd_few ls g rows E (length (filter here d.places)) (crowd_part here (λ k. k ≡ 0) (λ x e. eqb-true (length x.1) 0 e) ls g rows E m d) in
        let rest = below.all (length (filter further d.places)) (crowd_part further (λ k. 1 ≤ k) (λ x e. some_step (length x.1) e) ls g rows E m d) in
        omega (arith, d.many, few, rest, length-filter_both here further (λ x. refl) d.places);
  }

-- ---- fewer buckets and deliveries have fewer rows
pub bounded_as : (ls : List Lvl) (slots : ℕ) (g : Seg) (nb mb : ℕ) (D E : Deliveries) → nb ≤ mb → More D E → Bounded ls slots g mb E → Bounded ls slots g nb D
bounded_as ls slots g nb mb D E h more b j m i c = let P : ℕ → Type 0 = λ k. k ≡ depth_of ls j in b j m i (crowd_as ls g nb mb D E P P m m h more (λ k p. p) (omega arith) c)

pub complete_as : (ls : List Lvl) (slots : ℕ) (g : Seg) (nb mb : ℕ) (D E : Deliveries) (made : ℕ) → nb ≤ mb → More D E → Complete ls slots g mb E made → Complete ls slots g nb D made
complete_as ls slots g nb mb D E made h more b = record {
  bounded = bounded_as ls slots g nb mb D E h more b.bounded;
  all = λ m c. let P : ℕ → Type 0 = λ k. 1 ≤ k in b.all m (crowd_as ls g nb mb D E P P m m h more (λ k p. p) (omega arith) c);
}

-- ---- the bottom has a tally for each bucket, and no rows of its own
pub complete_bottom : (slots : ℕ) (g : Seg) (nb : ℕ) (D : Deliveries) → nb ≤ slots → Complete [] slots g nb D 0
complete_bottom slots g nb D h = record {
  bounded = λ j m i c. omega (arith, crowd_few [] g nb D m c);
  all = λ m c. omega (arith, c.many, none_there g nb D c.places c.there);
}
