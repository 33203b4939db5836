-- Readings, by the documents of rows.
use Rattle.std.proofs.Common.{◌≡◌, ℕ, zero, suc, ◌+◌, ◌*◌, Bool, true, false, cond, ◌&&◌, List, [], ◌∷◌, ◌++◌, map, length, take, replicate, ℤ, pos, negsuc, sym, refl, ap, ◌∙◌, subst, inl, inr, append_assoc, arith, length-append}
use Rattle.std.proofs.lemmas.List.{map-append, append-nil}
use Rattle.std.proofs.lemmas.Bool.{cases_Bool, eqb-true, eq-eqb}
use Rattle.segments.specs.Segments.{Seg, values}
use Rattle.stack.specs.Levels.{Lvl, range_level, histogram_level, steps, each, chains, Chain, chains_of, same_step, same_path, on_path, readings, values_of, named, fed_values, occurrences, row_docs, Step, There, chain_count, ReadingLaws}

-- ---- lists of chains
on_append : (p : List ℤ) (cs ds : List Chain) → on_path p (cs ++ ds) ≡ on_path p cs ++ on_path p ds
on_append p [] ds = refl
on_append p (c ∷ cs) ds = go (same_path c.1 p) (on_append p cs ds)
  where
    go : (b : Bool) → on_path p (cs ++ ds) ≡ on_path p cs ++ on_path p ds → cond b (c ∷ on_path p (cs ++ ds)) (on_path p (cs ++ ds)) ≡ cond b (c ∷ on_path p cs) (on_path p cs) ++ on_path p ds
    go true ih = ap (λ (xs : List Chain). c ∷ xs) ih
    go false ih = ih

chains-append : (ls : List Lvl) (g : Seg) (ds es : List ℕ) → chains_of ls g (ds ++ es) ≡ chains_of ls g ds ++ chains_of ls g es
chains-append ls g [] es = refl
chains-append ls g (d ∷ ds) es = ap (λ (xs : List Chain). map (λ p. (d, p)) (chains ls g d) ++ xs) (chains-append ls g ds es) ∙ sym (append_assoc (map (λ p. (d, p)) (chains ls g d)) (chains_of ls g ds) (chains_of ls g es))

-- the chains on a path, of two lists of namings
on_both : (ls : List Lvl) (g : Seg) (ds es : List ℕ) (p : List ℤ) → on_path p (chains_of ls g (ds ++ es)) ≡ on_path p (chains_of ls g ds) ++ on_path p (chains_of ls g es)
on_both ls g ds es p = ap (on_path p) (chains-append ls g ds es) ∙ on_append p (chains_of ls g ds) (chains_of ls g es)

pub readings-append : (ls : List Lvl) (g : Seg) (ds es : List ℕ) (p : List ℤ) → readings ls g (ds ++ es) p ≡ readings ls g ds p + readings ls g es p
unfolding readings
readings-append ls g ds es p = ap length (on_both (take (length p) ls) g ds es p) ∙ length-append (on_path p (chains_of (take (length p) ls) g ds)) (on_path p (chains_of (take (length p) ls) g es))

-- the values of one list of documents, then of the other
pub values-append : (g : Seg) (column : ℕ) (ds es : List ℕ) → values_of g column (ds ++ es) ≡ values_of g column ds ++ values_of g column es
values-append g column [] es = refl
values-append g column (d ∷ ds) es = ap (λ (xs : List ℕ). values g column d ++ xs) (values-append g column ds es) ∙ sym (append_assoc (values g column d) (values_of g column ds) (values_of g column es))

pub fed_append : (ls : List Lvl) (column : ℕ) (g : Seg) (ds es : List ℕ) (p : List ℤ) → fed_values ls column g (ds ++ es) p ≡ fed_values ls column g ds p ++ fed_values ls column g es p
unfolding fed_values
fed_append ls column g ds es p =
    ap (λ (cs : List Chain). values_of g column (named cs)) (on_both ls g ds es p)
    ∙ ap (values_of g column) (map-append (λ (c : Chain). c.0) (on_path p (chains_of ls g ds)) (on_path p (chains_of ls g es)))
    ∙ values-append g column (named (on_path p (chains_of ls g ds))) (named (on_path p (chains_of ls g es)))

-- ---- steps
pub step_same : (s : ℤ) → same_step s s ≡ true
step_same (pos a) = eq-eqb a a refl
step_same (negsuc a) = eq-eqb a a refl

pub step_true : (s t : ℤ) → same_step s t ≡ true → s ≡ t
step_true (pos a) (pos b) e = ap pos (eqb-true a b e)
step_true (pos a) (negsuc b) e = let z : ◌≡◌ {A = ℕ} 0 1 = cc in absurd (let y : ⊥ = omega arith in y)
step_true (negsuc a) (pos b) e = let z : ◌≡◌ {A = ℕ} 0 1 = cc in absurd (let y : ⊥ = omega arith in y)
step_true (negsuc a) (negsuc b) e = ap negsuc (eqb-true a b e)

-- ---- one naming: what lies on s ∷ p of the chains that begin with t
hit : (d : ℕ) (s t : ℤ) (qs : List (List ℤ)) (p : List ℤ) → same_step t s ≡ true → named (on_path (s ∷ p) (map (λ q. (d, q)) (map (λ q. t ∷ q) qs))) ≡ named (on_path p (map (λ q. (d, q)) qs))
hit d s t [] p e = refl
hit d s t (q ∷ qs) p e = go (same_step t s) (same_path q p) (hit d s t qs p e) e
  where
    go : (a b : Bool) → named (on_path (s ∷ p) (map (λ q. (d, q)) (map (λ q. t ∷ q) qs))) ≡ named (on_path p (map (λ q. (d, q)) qs)) → a ≡ true → named (cond (a && b) ((d, t ∷ q) ∷ on_path (s ∷ p) (map (λ q. (d, q)) (map (λ q. t ∷ q) qs))) (on_path (s ∷ p) (map (λ q. (d, q)) (map (λ q. t ∷ q) qs)))) ≡ named (cond b ((d, q) ∷ on_path p (map (λ q. (d, q)) qs)) (on_path p (map (λ q. (d, q)) qs)))
    go true true ih h = ap (λ (xs : List ℕ). d ∷ xs) ih
    go true false ih h = ih
    go false b ih h = let z : ◌≡◌ {A = ℕ} 0 1 = cc in absurd (let y : ⊥ = omega arith in y)

miss : (d : ℕ) (s t : ℤ) (qs : List (List ℤ)) (p : List ℤ) → same_step t s ≡ false → on_path (s ∷ p) (map (λ q. (d, q)) (map (λ q. t ∷ q) qs)) ≡ []
miss d s t [] p e = refl
miss d s t (q ∷ qs) p e = go (same_step t s) (same_path q p) (miss d s t qs p e) e
  where
    go : (a b : Bool) → on_path (s ∷ p) (map (λ q. (d, q)) (map (λ q. t ∷ q) qs)) ≡ [] → a ≡ false → cond (a && b) ((d, t ∷ q) ∷ on_path (s ∷ p) (map (λ q. (d, q)) (map (λ q. t ∷ q) qs))) (on_path (s ∷ p) (map (λ q. (d, q)) (map (λ q. t ∷ q) qs))) ≡ []
    go false b ih h = ih
    go true b ih h = let z : ◌≡◌ {A = ℕ} 0 1 = cc in absurd (let y : ⊥ = omega arith in y)

-- the same list several times
copies : ℕ → List ℕ → List ℕ
copies zero xs = []
copies (suc n) xs = xs ++ copies n xs

-- a naming's chains on s ∷ p: those on p, once for each time that s occurs
one_naming : (d : ℕ) (s : ℤ) (ts : List ℤ) (qs : List (List ℤ)) (p : List ℤ) → named (on_path (s ∷ p) (map (λ q. (d, q)) (each ts qs))) ≡ copies (occurrences s ts) (named (on_path p (map (λ q. (d, q)) qs)))
unfolding copies
one_naming d s [] qs p = refl
one_naming d s (t ∷ ts) qs p =
    ap (λ (cs : List Chain). named (on_path (s ∷ p) cs)) (map-append (λ q. (d, q)) (map (λ q. t ∷ q) qs) (each ts qs))
    ∙ ap named (on_append (s ∷ p) (map (λ q. (d, q)) (map (λ q. t ∷ q) qs)) (map (λ q. (d, q)) (each ts qs)))
    ∙ map-append (λ (c : Chain). c.0) (on_path (s ∷ p) (map (λ q. (d, q)) (map (λ q. t ∷ q) qs))) (on_path (s ∷ p) (map (λ q. (d, q)) (each ts qs)))
    ∙ elim (cases_Bool (same_step t s)) [
      | inl e ↦
          (λ i. hit d s t qs p e i ++ one_naming d s ts qs p i)
          ∙ sym (ap (λ (b : Bool). copies (cond b (suc (occurrences s ts)) (occurrences s ts)) (named (on_path p (map (λ q. (d, q)) qs)))) e)
      | inr e ↦
          (λ i. named (miss d s t qs p e i) ++ one_naming d s ts qs p i)
          ∙ sym (ap (λ (b : Bool). copies (cond b (suc (occurrences s ts)) (occurrences s ts)) (named (on_path p (map (λ q. (d, q)) qs)))) e)
    ]

-- naming a document several times copies its chains
several : (ls : List Lvl) (g : Seg) (n d : ℕ) (p : List ℤ) → named (on_path p (chains_of ls g (replicate n d))) ≡ copies n (named (on_path p (map (λ q. (d, q)) (chains ls g d))))
unfolding copies
several ls g zero d p = refl
several ls g (suc n) d p =
    ap named (on_append p (map (λ q. (d, q)) (chains ls g d)) (chains_of ls g (replicate n d)))
    ∙ map-append (λ (c : Chain). c.0) (on_path p (map (λ q. (d, q)) (chains ls g d))) (on_path p (chains_of ls g (replicate n d)))
    ∙ ap (λ (xs : List ℕ). named (on_path p (map (λ q. (d, q)) (chains ls g d))) ++ xs) (several ls g n d p)

-- the documents named on s ∷ p are those named on p among the row's documents
pub named_down : (l : Lvl) (ls : List Lvl) (g : Seg) (ds : List ℕ) (s : ℤ) (p : List ℤ) → named (on_path (s ∷ p) (chains_of (l ∷ ls) g ds)) ≡ named (on_path p (chains_of ls g (row_docs l g s ds)))
named_down l ls g [] s p = refl
named_down l ls g (d ∷ ds) s p =
    let n = occurrences s (steps l g d) in
    ap named (on_append (s ∷ p) (map (λ q. (d, q)) (chains (l ∷ ls) g d)) (chains_of (l ∷ ls) g ds))
    ∙ map-append (λ (c : Chain). c.0) (on_path (s ∷ p) (map (λ q. (d, q)) (chains (l ∷ ls) g d))) (on_path (s ∷ p) (chains_of (l ∷ ls) g ds))
    ∙ (λ i. one_naming d s (steps l g d) (chains ls g d) p i ++ named_down l ls g ds s p i)
    ∙ sym (ap (λ (xs : List ℕ). xs ++ named (on_path p (chains_of ls g (row_docs l g s ds)))) (several ls g n d p))
    ∙ sym (map-append (λ (c : Chain). c.0) (on_path p (chains_of ls g (replicate n d))) (on_path p (chains_of ls g (row_docs l g s ds))))
    ∙ sym (ap named (on_both ls g (replicate n d) (row_docs l g s ds) p))

named-length : (cs : List Chain) → length (named cs) ≡ length cs
named-length [] = refl
named-length (c ∷ cs) = ap suc (named-length cs)

pub readings_down : (l : Lvl) (ls : List Lvl) (g : Seg) (ds : List ℕ) (s : ℤ) (p : List ℤ) → readings (l ∷ ls) g ds (s ∷ p) ≡ readings ls g (row_docs l g s ds) p
unfolding readings
readings_down l ls g ds s p =
    let ks = take (length p) ls in
    sym (named-length (on_path (s ∷ p) (chains_of (l ∷ ks) g ds)))
    ∙ ap length (named_down l ks g ds s p)
    ∙ named-length (on_path p (chains_of ks g (row_docs l g s ds)))

pub fed_down : (l : Lvl) (ls : List Lvl) (column : ℕ) (g : Seg) (ds : List ℕ) (s : ℤ) (p : List ℤ) → fed_values (l ∷ ls) column g ds (s ∷ p) ≡ fed_values ls column g (row_docs l g s ds) p
unfolding fed_values
fed_down l ls column g ds s p = ap (values_of g column) (named_down l ls g ds s p)

-- with no level left every naming is one chain, on the empty path
all_named : (g : Seg) (ds : List ℕ) → named (on_path [] (chains_of [] g ds)) ≡ ds
all_named g [] = refl
all_named g (d ∷ ds) = ap (λ (xs : List ℕ). d ∷ xs) (all_named g ds)

pub readings_here : (ls : List Lvl) (g : Seg) (ds : List ℕ) → readings ls g ds [] ≡ length ds
unfolding readings
readings_here ls g ds = sym (named-length (on_path [] (chains_of [] g ds))) ∙ ap length (all_named g ds)

pub fed_here : (column : ℕ) (g : Seg) (ds : List ℕ) → fed_values [] column g ds [] ≡ values_of g column ds
unfolding fed_values
fed_here column g ds = ap (values_of g column) (all_named g ds)

pub readings_row : (l : Lvl) (ls : List Lvl) (g : Seg) (ds : List ℕ) (s : ℤ) → readings (l ∷ ls) g ds (s ∷ []) ≡ length (row_docs l g s ds)
readings_row l ls g ds s = readings_down l ls g ds s [] ∙ readings_here ls g (row_docs l g s ds)

-- where no level is left there is no longer path
pub readings-past : (g : Seg) (ds : List ℕ) (s : ℤ) (p : List ℤ) → readings [] g ds (s ∷ p) ≡ 0
unfolding readings
readings-past g [] s p = refl
readings-past g (d ∷ ds) s p = readings-past g ds s p

pub readings_none : (ls : List Lvl) (g : Seg) (p : List ℤ) → readings ls g [] p ≡ 0
unfolding readings
readings_none ls g p = refl

readings_copies : (ls : List Lvl) (g : Seg) (n d : ℕ) (p : List ℤ) → readings ls g (replicate n d) p ≡ n * readings ls g (d ∷ []) p
readings_copies ls g zero d p = readings_none ls g p ∙ omega arith
readings_copies ls g (suc n) d p = readings-append ls g (d ∷ []) (replicate n d) p ∙ ap (λ (m : ℕ). readings ls g (d ∷ []) p + m) (readings_copies ls g n d p) ∙ omega arith

product : (ls : List Lvl) (g : Seg) (d : ℕ) (p : List ℤ) → readings ls g (d ∷ []) p ≡ chain_count ls g d p
product ls g d [] = readings_here ls g (d ∷ [])
product [] g d (s ∷ p) = readings-past g (d ∷ []) s p
product (l ∷ ls) g d (s ∷ p) =
    readings_down l ls g (d ∷ []) s p ∙ ap (λ (xs : List ℕ). readings ls g xs p) (append-nil (replicate (occurrences s (steps l g d)) d))
    ∙ readings_copies ls g (occurrences s (steps l g d)) d p ∙ ap (λ (m : ℕ). occurrences s (steps l g d) * m) (product ls g d p)

-- ---- rows
pub rows_append : (l : Lvl) (g : Seg) (s : ℤ) (ds es : List ℕ) → row_docs l g s (ds ++ es) ≡ row_docs l g s ds ++ row_docs l g s es
rows_append l g s [] es = refl
rows_append l g s (d ∷ ds) es =
    ap (λ (xs : List ℕ). replicate (occurrences s (steps l g d)) d ++ xs) (rows_append l g s ds es)
    ∙ sym (append_assoc (replicate (occurrences s (steps l g d)) d) (row_docs l g s ds) (row_docs l g s es))

pub step_stays : (l : Lvl) (g : Seg) (ds es : List ℕ) (s : ℤ) → Step l g ds s → Step l g (ds ++ es) s
step_stays (range_level column starts) g ds es (pos k) h = h
step_stays (range_level column starts) g ds es (negsuc k) h = h
step_stays (histogram_level column position) g ds es s h =
    let l = histogram_level column position in
    let e : length (row_docs l g s (ds ++ es)) ≡ length (row_docs l g s ds) + length (row_docs l g s es) = ap length (rows_append l g s ds es) ∙ length-append (row_docs l g s ds) (row_docs l g s es) in
    omega (arith, e, h)

pub there_stays : (ls : List Lvl) (g : Seg) (ds es : List ℕ) (p : List ℤ) → There ls g ds p → There ls g (ds ++ es) p
there_stays ls g ds es [] h = tt
there_stays [] g ds es (s ∷ p) h = h
there_stays (l ∷ ls) g ds es (s ∷ p) h =
    (step_stays l g ds es s h.0, subst (λ (xs : List ℕ). There ls g xs p) (sym (rows_append l g s ds es)) (there_stays ls g (row_docs l g s ds) (row_docs l g s es) p h.1))

pub reading_laws : ReadingLaws
reading_laws = record {
  sums = readings-append;
  feeds = fed_append;
  product = product;
  down = readings_down;
  down_fed = fed_down;
  row = readings_row;
  bottom = fed_here;
  stays = there_stays;
}
