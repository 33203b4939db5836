-- More deliveries never undo an overrun, and what is overrun below is overrun here.
use Rattle.std.proofs.Common.{◌≡◌, ℕ, zero, suc, ◌+◌, ◌<◌, ◌≤◌, List, [], ◌∷◌, ◌++◌, map, length, get_or, drop, pos, sym, refl, ap, ◌∙◌, subst, ap₂, arith}
use Rattle.std.specs.List.{AllByRecursion}
use Rattle.std.proofs.lemmas.List.{length-append, length-map}
use Rattle.records.specs.declared.fault.Fault.{Fault}
use Rattle.records.specs.declared.fault.Refusal.TheVariants.{TooManyRows, AllowanceExceeded, CountOverflow}
use Rattle.segments.specs.Segments.{Seg}
use Rattle.stack.specs.Levels.{Lvl, There, readings}
use Rattle.stack.specs.Overruns.{Deliveries, More, Place, Exists, All, Distinct, Crowd, fault, depth_of, limit_of, Overrun, too_many, past_limit, full, Names}
use Rattle.stack.proofs.Delivering.{more_refl}
use Rattle.stack.proofs.Readings.{readings-append, readings_down, there_stays}

-- ---- lists of places
pub all_imp : (P Q : Place → Type 0) (xs : List Place) → ((x : Place) → P x → Q x) → All P xs → All Q xs
all_imp P Q [] f a = tt
all_imp P Q (x ∷ xs) f a = (f x a.0, all_imp P Q xs f a.1)

pub all_map : {B : Type 0} (P : Place → Type 0) (Q : B → Type 0) (h : Place → B) (xs : List Place) → ((x : Place) → P x → Q (h x)) → All P xs → AllByRecursion Q (map h xs)
all_map P Q h [] f a = tt
all_map P Q h (x ∷ xs) f a = (f x a.0, all_map P Q h xs f a.1)

pub all_both : (P Q : Place → Type 0) (xs : List Place) → All P xs → All Q xs → All (λ x. P x × Q x) xs
all_both P Q [] a b = tt
all_both P Q (x ∷ xs) a b = ((a.0, b.0), all_both P Q xs a.1 b.1)

pub all_append : (P : Place → Type 0) (xs ys : List Place) → All P xs → All P ys → All P (xs ++ ys)
all_append P [] ys a b = b
all_append P (x ∷ xs) ys a b = (a.0, all_append P xs ys a.1 b)

pub distinct_append : (xs ys : List Place) → Distinct xs → Distinct ys → All (λ x. All (λ y. x ≡ y → ⊥) ys) xs → Distinct (xs ++ ys)
distinct_append [] ys a b c = b
distinct_append (x ∷ xs) ys a b c = (all_append (λ y. x ≡ y → ⊥) xs ys a.0 c.0, distinct_append xs ys a.1 b c.1)

-- ---- more deliveries
pub crowd_as : (ls : List Lvl) (g : Seg) (nb mb : ℕ) (D E : Deliveries) (P Q : ℕ → Type 0) (m k : ℕ) → nb ≤ mb → More D E → ((j : ℕ) → P j → Q j) → k ≤ m → Crowd ls g nb D P m → Crowd ls g mb E Q k
crowd_as ls g nb mb D E P Q m k w more f h c = record {
  places = c.places;
  there = all_imp (λ x. Exists ls g nb D x × P (length x.1)) (λ x. Exists ls g mb E x × Q (length x.1)) c.places
      (λ x a. ((omega (arith, a.0.0), subst (λ t. There ls g t x.1) (sym (more.is x.0)) (there_stays ls g (D x.0) (more.rest x.0) x.1 a.0.1)), f (length x.1) a.1)) c.there;
  distinct = c.distinct;
  many = omega (arith, c.many);
}

pub overrun_more : (from : ℕ) (ls : List Lvl) (slots n : ℕ) (g : Seg) (nb : ℕ) (D E : Deliveries) (others limit : ℕ) (f : Fault) → More D E → Overrun from ls slots n g nb D others limit f → Overrun from ls slots n g nb E others limit f
overrun_more from ls slots n g nb D E others limit f more (too_many down e o) =
    let P : ℕ → Type 0 = λ m. m ≡ depth_of ls down in
    let c = suc (limit_of ls slots down) in
    too_many down e record { within = o.within; crowd = crowd_as ls g nb nb D E P P c c (omega arith) more (λ j p. p) (omega arith) o.crowd }
overrun_more from ls slots n g nb D E others limit f more (past_limit down e o) =
    let P : ℕ → Type 0 = λ m. from ≤ m in
    past_limit down e record { rows = o.rows; within = o.within; passes = o.passes; crowd = crowd_as ls g nb nb D E P P o.rows o.rows (omega arith) more (λ j p. p) (omega arith) o.crowd }
overrun_more from ls slots n g nb D E others limit f more (full down e w o) =
    full down e w record {
      bucket = o.bucket;
      path = o.path;
      inside = o.inside;
      long = o.long;
      many = omega (arith, o.many, ap (λ t. readings ls g t o.path) (more.is o.bucket), readings-append ls g (D o.bucket) (more.rest o.bucket) o.path);
    }

-- ---- the buckets above as places with no step
places_below : ℕ → List Place
places_below zero = []
places_below (suc n) = (n, []) ∷ places_below n

below_length : (n : ℕ) → length (places_below n) ≡ n
unfolding places_below
below_length zero = refl
below_length (suc n) = ap suc (below_length n)

below_all : (P : Place → Type 0) (n : ℕ) → ((k : ℕ) → k < n → P (k, [])) → All P (places_below n)
unfolding places_below
below_all P zero f = tt
below_all P (suc n) f = (f n (omega arith), below_all P n (λ k h. f k (omega arith)))

below_distinct : (n : ℕ) → Distinct (places_below n)
unfolding places_below
below_distinct zero = tt
below_distinct (suc n) = (below_all (λ y. (n, []) ≡ y → ⊥) n (λ k h e. let q : n ≡ k = ap (λ x. x.0) e in omega arith), below_distinct n)

pub all_buckets : (ls : List Lvl) (g : Seg) (nb : ℕ) (D : Deliveries) (m : ℕ) → m ≤ nb → Crowd ls g nb D (λ k. k ≡ 0) m
all_buckets ls g nb D m h = record {
  places = places_below m;
  there = below_all (λ x. Exists ls g nb D x × (length x.1 ≡ 0)) m (λ k i. ((omega arith, tt), refl));
  distinct = below_distinct m;
  many = omega (arith, below_length m);
}

-- the buckets, and the rows below them
pub with_buckets : (ls : List Lvl) (g : Seg) (nb : ℕ) (D : Deliveries) (m : ℕ) → Crowd ls g nb D (λ k. 1 ≤ k) m → Crowd ls g nb D (λ k. 0 ≤ k) (nb + m)
with_buckets ls g nb D m c =
    let b = all_buckets ls g nb D nb (omega arith) in
    record {
      places = b.places ++ c.places;
      there = all_append (λ x. Exists ls g nb D x × (0 ≤ length x.1)) b.places c.places
          (all_imp (λ x. Exists ls g nb D x × (length x.1 ≡ 0)) (λ x. Exists ls g nb D x × (0 ≤ length x.1)) b.places (λ x a. (a.0, omega arith)) b.there)
          (all_imp (λ x. Exists ls g nb D x × (1 ≤ length x.1)) (λ x. Exists ls g nb D x × (0 ≤ length x.1)) c.places (λ x a. (a.0, omega arith)) c.there);
      distinct = distinct_append b.places c.places b.distinct c.distinct
          (all_imp (λ x. Exists ls g nb D x × (length x.1 ≡ 0)) (λ x. All (λ y. x ≡ y → ⊥) c.places) b.places
          (λ x a. all_imp (λ y. Exists ls g nb D y × (1 ≤ length y.1)) (λ y. x ≡ y → ⊥) c.places (λ y h e. omega (arith, a.1, h.1, ap (λ z. length z.1) e)) c.there)
          b.there);
      many = omega (arith, b.many, c.many, length-append b.places c.places);
    }

-- the buckets counted as rows too
pub overrun_open : (ls : List Lvl) (slots n : ℕ) (g : Seg) (nb : ℕ) (D : Deliveries) (others limit : ℕ) (f : Fault) → Overrun 1 ls slots n g nb D (others + nb) limit f → Overrun 0 ls slots n g nb D others limit f
overrun_open ls slots n g nb D others limit f (too_many down e o) = too_many down e o
overrun_open ls slots n g nb D others limit f (past_limit down e o) =
    past_limit down e record { rows = nb + o.rows; within = o.within; passes = omega (arith, o.passes); crowd = with_buckets ls g nb D o.rows o.crowd }
overrun_open ls slots n g nb D others limit f (full down e w o) =
    full down e w record { bucket = o.bucket; path = o.path; inside = o.inside; long = omega arith; many = o.many }

-- ---- a row's number is its bucket and step
module _ (l : Lvl) (ls : List Lvl) (g : Seg) (nb rows : ℕ) (E D : Deliveries) (a : Names l g nb rows E D) where
  up : Place → Place
  up x = (a.bucket x.0, a.step x.0 ∷ x.1)

  up-exists : (x : Place) → Exists ls g rows E x → Exists (l ∷ ls) g nb D (up x)
  unfolding up
  up-exists x h = (a.inside x.0 h.0, (a.stands x.0 h.0, subst (λ t. There ls g t x.1) (a.docs x.0 h.0) h.1))

  up_apart : (x y : Place) → x.0 < rows → y.0 < rows → (x ≡ y → ⊥) → up x ≡ up y → ⊥
  unfolding up
  up_apart x y h i ne e =
      let k : x.0 ≡ y.0 = a.apart x.0 y.0 h i (ap (λ z. z.0) e) (ap (λ z. get_or z.1 0 (pos 0)) e) in
      let p : x.1 ≡ y.1 = ap (λ z. drop 1 z.1) e in
      ne (ap₂ (λ i j. (i, j)) k p)

  up-distinct : (xs : List Place) → All (λ x. x.0 < rows) xs → Distinct xs → Distinct (map up xs)
  up-distinct [] b d = tt
  up-distinct (x ∷ xs) b d = (
    all_map (λ y. (x ≡ y → ⊥) × (y.0 < rows)) (λ y. up x ≡ y → ⊥) up xs (λ y h e. up_apart x y b.0 h.1 h.0 e) (all_both (λ y. x ≡ y → ⊥) (λ y. y.0 < rows) xs d.0 b.1),
    up-distinct xs b.1 d.1,
  )

  pub crowd-up : (P Q : ℕ → Type 0) (m : ℕ) → ((j : ℕ) → P j → Q (suc j)) → Crowd ls g rows E P m → Crowd (l ∷ ls) g nb D Q m
  unfolding up
  crowd-up P Q m f c = record {
    places = map up c.places;
    there = all_map (λ x. Exists ls g rows E x × P (length x.1)) (λ x. Exists (l ∷ ls) g nb D x × Q (length x.1)) up c.places
        (λ x h. (up-exists x h.0, f (length x.1) h.1)) c.there;
    distinct = up-distinct c.places (all_imp (λ x. Exists ls g rows E x × P (length x.1)) (λ x. x.0 < rows) c.places (λ x h. h.0.0) c.there) c.distinct;
    many = omega (arith, c.many, length-map c.places up);
  }

  pub overrun-up : (slots n others limit : ℕ) (f : Fault) → Overrun 0 ls slots (suc n) g rows E others limit f → Overrun 1 (l ∷ ls) slots n g nb D others limit f
  overrun-up slots n others limit f (too_many down e o) =
      too_many (suc down) (e ∙ ap (fault TooManyRows) (omega arith)) record {
        within = omega (arith, o.within);
        crowd = crowd-up (λ m. m ≡ depth_of ls down) (λ m. m ≡ suc (depth_of ls down)) (suc (limit_of ls slots down)) (λ j p. ap suc p) o.crowd;
      }
  overrun-up slots n others limit f (past_limit down e o) =
      past_limit (suc down) (e ∙ ap (fault AllowanceExceeded) (omega arith)) record {
        rows = o.rows;
        within = omega (arith, o.within);
        passes = o.passes;
        crowd = crowd-up (λ m. 0 ≤ m) (λ m. 1 ≤ m) o.rows (λ j p. omega arith) o.crowd;
      }
  overrun-up slots n others limit f (full down e w o) =
      full (suc down) (e ∙ ap (fault CountOverflow) (omega arith)) (omega arith) record {
        bucket = a.bucket o.bucket;
        path = a.step o.bucket ∷ o.path;
        inside = a.inside o.bucket o.inside;
        long = omega arith;
        many = omega (arith, o.many, ap (λ t. readings ls g t o.path) (a.docs o.bucket o.inside), readings_down l ls g (D (a.bucket o.bucket)) (a.step o.bucket) o.path);
      }

-- a bucket past the slots of the bottom
pub bottom_over : (slots n nb b : ℕ) (g : Seg) (D : Deliveries) (others limit : ℕ) (f : Fault) → f ≡ fault TooManyRows n → slots < b → b ≤ nb → Overrun 1 [] slots n g nb D others limit f
bottom_over slots n nb b g D others limit f e h l =
    let P : ℕ → Type 0 = λ m. m ≡ 0 in
    too_many 0 (e ∙ ap (fault TooManyRows) (omega arith)) record {
      within = omega arith;
      crowd = crowd_as [] g nb nb D D P P b (suc slots) (omega arith) (more_refl D) (λ j p. p) (omega arith) (all_buckets [] g nb D b l);
    }
