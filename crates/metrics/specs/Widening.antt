-- The laws of widening: those of the smaller and the larger of two numbers, end by end.
use Rattle.std.specs.Prelude.{◌≡◌, ℕ, ◌≤◌, min, max, ◌⊎◌, List, [], ◌∷◌, ◌++◌, Some, None, refl}
use Rattle.std.proofs.Common.{sym, subst, inl, inr, ⊎_elim, le_refl, arith}
use mathlib.Core.List.Memᴰ
use mathlib.Core.List.{append_assoc, append-nil, Memᴰ}
use Rattle.records.specs.declared.column_type.ColumnType.{ColumnType}
use Rattle.std.proofs.ByRecursion.{All-push, All-weaker}
use Rattle.std.proofs.lemmas.Bool.Decides.{leb_tells}
use Rattle.metrics.specs.Ends.{Ends, EndsOf, Reaches, widened, reaching}
use Rattle.metrics.specs.Tallies.{Exactly, fed_all}

ends_are : (a b c d : ℕ) → a ≡ c → b ≡ d → ◌≡◌ {A = Ends} (Some (a, b)) (Some (c, d))
ends_are a b c d p q = λ i. Some (p i, q i)

assoc : (a b c : Ends) → widened (widened a b) c ≡ widened a (widened b c)
assoc None b c = refl
assoc (Some a) None c = refl
assoc (Some a) (Some b) None = refl
assoc (Some a) (Some b) (Some c) = ends_are _ _ _ _ (omega arith) (omega arith)

comm : (a b : Ends) → widened a b ≡ widened b a
comm None None = refl
comm None (Some b) = refl
comm (Some a) None = refl
comm (Some a) (Some b) = ends_are _ _ _ _ (omega arith) (omega arith)

pub widening_laws : Exactly None reaching widened
widening_laws = record { assoc = assoc; comm = comm; neutral = λ a. refl; feeding = λ t v a. refl }

-- the smaller of two numbers is one of them, and so is the larger
lesser : (a v : ℕ) → (min a v ≡ a) ⊎ (min a v ≡ v)
lesser a v = ⊎_elim (λ h. inl (omega (arith, h.1))) (λ h. inr (omega (arith, h.1))) (leb_tells a v)

larger : (a v : ℕ) → (max a v ≡ a) ⊎ (max a v ≡ v)
larger a v = ⊎_elim (λ h. inr (omega (arith, h.1))) (λ h. inl (omega (arith, h.1))) (leb_tells a v)

-- what is one of the list or the value after it stands in the longer list
among : (us : List ℕ) (v a n : ℕ) → Memᴰ a us → (n ≡ a) ⊎ (n ≡ v) → Memᴰ n (us ++ (v ∷ []))
among us v a n m (inl e) = Memᴰ.cast e (Memᴰ.append_left (v ∷ []) m)
among us v a n m (inr e) = Memᴰ.cast e (Memᴰ.append_right us (Memᴰ.head refl))

reaches_more : (t : ColumnType) (us : List ℕ) (v : ℕ) (e : Ends) → EndsOf us e → EndsOf (us ++ (v ∷ [])) (reaching t v e)
reaches_more t us v None h =
    subst (λ (l : List ℕ). EndsOf (l ++ (v ∷ [])) (Some (v, v))) (sym h) (Memᴰ.head refl, Memᴰ.head refl, ((le_refl v, le_refl v), tt))
reaches_more t us v (Some p) h = (
  among us v p.0 (min p.0 v) h.0 (lesser p.0 v),
  among us v p.1 (max p.1 v) h.1 (larger p.1 v),
  All-push (λ n. (min p.0 v ≤ n) × (n ≤ max p.1 v)) us v (All-weaker (λ n. (p.0 ≤ n) × (n ≤ p.1)) (λ n. (min p.0 v ≤ n) × (n ≤ max p.1 v)) (λ n k. (omega (arith, k.0), omega (arith, k.1))) us h.2) (omega arith, omega arith),
)

-- by recursion on the values still to be fed
reaches_on : (t : ColumnType) (vs us : List ℕ) (e : Ends) → EndsOf us e → EndsOf (us ++ vs) (fed_all reaching t vs e)
reaches_on t [] us e h = rw append-nil h
reaches_on t (v ∷ vs) us e h =
    subst (λ (l : List ℕ). EndsOf l (fed_all reaching t vs (reaching t v e))) (append_assoc us (v ∷ []) vs) (reaches_on t vs (us ++ (v ∷ [])) (reaching t v e) (reaches_more t us v e h))

pub reaches : Reaches
reaches t vs = reaches_on t vs [] None refl
