-- Rows written block by block.
use Rattle.std.proofs.Common.{◌≡◌, ℕ, suc, ◌+◌, ◌<◌, ◌≤◌, List, [], ◌∷◌, ◌++◌, map, length, get_or, take, drop, set, eqb, ℤ, ◌<ℤ◌, Some, sym, refl, ap, ◌∙◌, subst, ap₂, append_assoc, arith, length-append}
use Rattle.std.specs.List.{slice_get}
use Rattle.std.proofs.lemmas.Option.{slice_get_within, get_or_from_slice_get}
use Rattle.std.proofs.lemmas.Bool.{eqb-true}
use Rattle.std.proofs.lemmas.Bool.Decides.{Decides-eqb}
use Rattle.std.proofs.lemmas.Grind.{get_or_default_zero}
use Rattle.std.proofs.lemmas.List.Folds.{Any-from_list_any}
use Rattle.std.proofs.lemmas.Map.Made.{IsDistinct-from_AllPairs}
use Rattle.std.proofs.lemmas.Map.Steps.{length-le_from_distinct_below}
use lib.Signed.{<ℤ_irrefl}
use Rattle.std.proofs.lemmas.List.{length-map, get_or-map, append-nil, map-append, length-take-le, take_all, take_at, drop_at, take-append-drop, set_split, drop-drop}
use Rattle.records.specs.Rows.{Entry, entry_of}
use Rattle.records.specs.declared.column_type.ColumnType.{ColumnType}
use Rattle.records.specs.declared.row.Row.{Row}
use Rattle.segments.specs.Segments.{Seg}
use Rattle.stack.specs.Levels.{Plan, row_docs, Step}
use Rattle.stack.specs.Overruns.{Deliveries}
use Rattle.stack.specs.Calls.{Waits}
use Rattle.stack.specs.Writing.{Feeding, row_worth, tally_worth, Blocks, StepsAre, Written, Put, PutBelow}
use Rattle.rows.specs.Tables.{Table, Has, Sound, Listed}
use Rattle.collectors.specs.Carrying.{waits_none, carry_none}
use Rattle.collectors.specs.Filing.{At, Filed, Standing, sorted, on_top}
use Rattle.collectors.specs.Holding.{steps-held, has_step}

-- nothing put
pub put_none : {T W : Type 0} (worth : T → W) (was : List (Row T)) (at : ℕ) → Put worth was was at at []
put_none worth was at = record { rows = []; whole = sym (take-append-drop at was); size = omega arith; entries_are = refl }

-- one part after another
pub put_then : {T W : Type 0} {worth : T → W} {was mid is : List (Row T)} {at to end : ℕ} {xs ys : List (Entry W)} → end ≤ length was → Put worth was mid at to xs → Put worth mid is to end ys → Put worth was is at end (xs ++ ys)
put_then {T} {W} {worth} {was} {mid} {is} {at} {to} {end} {xs} {ys} room p q =
    let sp = p.size in
    let sq = q.size in
    let ends : length (take at was ++ p.rows) ≡ to = length-append (take at was) p.rows ∙ (let z : length (take at was) + length p.rows ≡ to = omega (arith, length-take-le at was (omega arith)) in z) in
    let m : mid ≡ (take at was ++ p.rows) ++ drop to was = p.whole ∙ sym (append_assoc (take at was) p.rows (drop to was)) in
    let front : take to mid ≡ take at was ++ p.rows = ap (take to) m ∙ take_at (take at was ++ p.rows) (drop to was) to ends in
    let back : drop end mid ≡ drop end was =
    ap (drop end) m ∙ ap (λ (n : ℕ). drop n ((take at was ++ p.rows) ++ drop to was)) (let z : end ≡ to + length q.rows = sq in z)
    ∙ sym (drop-drop (length q.rows) to ((take at was ++ p.rows) ++ drop to was))
    ∙ ap (drop (length q.rows)) (drop_at (take at was ++ p.rows) (drop to was) to ends)
    ∙ drop-drop (length q.rows) to was
    ∙ ap (λ (n : ℕ). drop n was) (sym sq) in
    record {
      rows = p.rows ++ q.rows;
      whole = q.whole ∙ (λ i. front i ++ (q.rows ++ back i)) ∙ append_assoc (take at was) p.rows (q.rows ++ drop end was) ∙ ap (λ z. take at was ++ z) (sym (append_assoc p.rows q.rows (drop end was)));
      size = omega (arith, length-append p.rows q.rows);
      entries_are = map-append (entry_of worth) p.rows q.rows ∙ ap₂ (λ u v. u ++ v) p.entries_are q.entries_are;
    }

-- one row
pub put_one : {T W : Type 0} {worth : T → W} {was : List (Row T)} {at : ℕ} (row : Row T) {e : Entry W} → at < length was → entry_of worth row ≡ e → Put worth was (set was at row) at (at + 1) (e ∷ [])
put_one {T} {W} {worth} {was} {at} row {e} h same = record {
  rows = row ∷ [];
  whole = set_split was at row h ∙ ap (λ (n : ℕ). take at was ++ (row ∷ drop n was)) (let z : suc at ≡ at + 1 = omega arith in z);
  size = refl;
  entries_are = ap (λ z. z ∷ []) same;
}

-- as many rows as entries
pub put_size : {T W : Type 0} {worth : T → W} {was is : List (Row T)} {at end : ℕ} {es : List (Entry W)} (p : Put worth was is at end es) → length p.rows ≡ length es
put_size {T} {W} {worth} {was} {is} {at} {end} {es} p = sym (length-map p.rows (entry_of worth)) ∙ ap length p.entries_are

-- the entry of a row by number, with documents E
abbrev pub entry_at : {W : Type 0} → Feeding W → Plan → Seg → Table → Deliveries → List ℤ → ℕ → Entry W
entry_at f plan g t E above k = record { path = above ++ (t.step k ∷ []); count = t.count k; worth = tally_worth f.nothing f.fed plan g (E k) }

-- the blocks of rows by number, with documents E
abbrev pub BlocksOf : {W : Type 0} → Feeding W → Plan → Seg → Table → Deliveries → List ℤ → List ℕ → List (Entry W) → Type 0
BlocksOf f plan g t E above [] es = es ≡ []
BlocksOf f plan g t E above (k ∷ ks) es =
    (bs : List _) × ((rest : List _) × ((es ≡ entry_at f plan g t E above k ∷ (bs ++ rest))
    × (Written f plan.column plan.field_type g plan.levels (above ++ (t.step k ∷ [])) (E k) bs × BlocksOf f plan g t E above ks rest)))

pub blocks_more : {W : Type 0} (f : Feeding W) (plan : Plan) (g : Seg) (t : Table) (E : Deliveries) (above : List ℤ) (ks : List ℕ) (es : List (Entry W)) (k : ℕ) (bs : List (Entry W)) → BlocksOf f plan g t E above ks es → Written f plan.column plan.field_type g plan.levels (above ++ (t.step k ∷ [])) (E k) bs
    → BlocksOf f plan g t E above (ks ++ (k ∷ [])) (es ++ (entry_at f plan g t E above k ∷ bs))
blocks_more {W} f plan g t E above [] es k bs e x =
    (bs, ([], (ap (λ z. z ++ (entry_at f plan g t E above k ∷ bs)) e ∙ ap (λ z. entry_at f plan g t E above k ∷ z) (sym (append-nil bs)), (x, refl))))
blocks_more {W} f plan g t E above (j ∷ ks) es k bs (cs, (rest, (e, (y, z)))) x =
    let own : Entry W = entry_at f plan g t E above k in
    (cs, (rest ++ (own ∷ bs), (ap (λ v. v ++ (own ∷ bs)) e ∙ ap (λ v. entry_at f plan g t E above j ∷ v) (append_assoc cs rest (own ∷ bs)), (y, blocks_more f plan g t E above ks rest k bs z x))))

-- a row that is listed is one of the table's, and no more are listed than there are
pub listed_row : (t : Table) (b : ℕ) (ks : List ℕ) (i k : ℕ) → Listed t b ks → slice_get ks i ≡ Some k → k < t.rows
listed_row t b ks i k l e = subst (λ (j : ℕ). j < t.rows) (get_or_from_slice_get ks i k 0 e) (l.below i (slice_get_within ks i k e)).0

pub listed_few : (t : Table) (b : ℕ) (ks : List ℕ) → Listed t b ks → length ks ≤ t.rows
listed_few t b ks l =
    length-le_from_distinct_below ks t.rows
    (IsDistinct-from_AllPairs Decides-eqb ks (λ i j d a h e.
    let same : get_or ks i 0 ≡ get_or ks j 0 = sym (get_or_default_zero ks i d (omega (arith, a, h))) ∙ e ∙ get_or_default_zero ks j d h in
    <ℤ_irrefl (subst (λ (k : ℕ). t.step (get_or ks i 0) <ℤ t.step k) (sym same) (l.rises i j a h))))
    (λ q e.
    let found = Any-from_list_any (eqb q) ks e in
    let h = found.2 in
    subst (λ (k : ℕ). k < t.rows) (sym (get_or_default_zero ks found.0 found.1 h) ∙ found.3 ∙ sym (eqb-true q found.1 found.4)) (l.below found.0 h).0)

-- ---- the rows listed are those that exist
module _ {W : Type 0} (f : Feeding W) (plan : Plan) (g : Seg) (t : Table) (E : Deliveries) (above : List ℤ) (docs : List ℕ) where
  pub blocks-written : (ks : List ℕ) (es : List (Entry W)) → ((i : ℕ) → i < length ks → (E (get_or ks i 0) ≡ row_docs t.level g (t.step (get_or ks i 0)) docs) × (t.count (get_or ks i 0) ≡ length (E (get_or ks i 0)))) → BlocksOf f plan g t E above ks es
      → Blocks (λ s. record { path = above ++ (s ∷ []); count = length (row_docs t.level g s docs); worth = row_worth f plan.levels plan.column plan.field_type g (row_docs t.level g s docs) })
      (λ s bs. Written f plan.column plan.field_type g plan.levels (above ++ (s ∷ [])) (row_docs t.level g s docs) bs) (map t.step ks) es
  blocks-written [] es h e = e
  blocks-written (k ∷ ks) es h (bs, (rest, (e, (x, y)))) =
      let here = h 0 (omega arith) in (
        bs,
        (
          rest,
          (
            e ∙ (λ i. record { path = above ++ (t.step k ∷ []); count = (here.1 ∙ ap length here.0) i; worth = row_worth f plan.levels plan.column plan.field_type g (here.0 i) } ∷ (bs ++ rest)),
            (
              subst (λ (ds : List ℕ). Written f plan.column plan.field_type g plan.levels (above ++ (t.step k ∷ [])) ds bs) here.0 x,
              blocks-written ks rest (λ i l. h (suc i) (omega arith)) y,
            ),
          ),
        ),
      )

pub steps_listed : (t : Table) (g : Seg) (b : ℕ) (docs ks : List ℕ) → Listed t b ks → ((k : ℕ) → k < t.rows → t.bucket k ≡ b → Step t.level g docs (t.step k)) → ((s : ℤ) → Step t.level g docs s → Has t b s) → StepsAre t.level g docs (map t.step ks)
steps_listed t g b docs ks l stands has = record {
  rises = λ i j d a h.
      let size = length-map ks t.step in
      let hj : j < length ks = omega (arith, size) in
      let hi : i < length ks = omega arith in
      subst (λ (x : ℤ). x <ℤ get_or (map t.step ks) j d) (sym (get_or-map t.step ks i 0 d hi)) (subst (λ (y : ℤ). t.step (get_or ks i 0) <ℤ y) (sym (get_or-map t.step ks j 0 d hj)) (l.rises i j a hj));
  exist = λ s among.
      let h : among.0 < length ks = omega (arith, length-map ks t.step, among.1.0) in
      let k = get_or ks among.0 0 in
      let e : t.step k ≡ s = sym (get_or-map t.step ks among.0 0 s h) ∙ among.1.1 s in
      let low = l.below among.0 h in
      subst (Step t.level g docs) e (stands k low.0 low.1);
  all = λ s st.
      let k = has s st in
      let i = l.all k.0 k.1.0 k.1.1.0 in
      (i.0, (omega (arith, length-map ks t.step, i.1.0), λ d. get_or-map t.step ks i.0 0 d i.1.0 ∙ ap t.step i.1.1 ∙ k.1.1.1));
}

-- where every row that is listed is put, the level's are
pub all_put : {T W : Type 0} {worth : T → W} (f : Feeding W) (plan : Plan) (g : Seg) (t : Table) → Sound t → {carried : Deliveries → Type 0} {buckets b : ℕ} (D : Deliveries) (y : Filed t buckets carried (sorted t.level g D)) → Standing t buckets → b < buckets
    → {ks : List ℕ} → Listed t b ks → (above : List ℤ) {was is : List (Row T)} {at end i : ℕ} → length ks ≤ i
    → (es : List (Entry W)) × (BlocksOf f plan g t y.docs_of above (take i ks) es × (at + length es ≤ length was → Put worth was is at end es))
    → PutBelow worth f.nothing f.fed (on_top t.level plan) g above (D b) was is at end
all_put {T} {W} {worth} f plan g t sound {carried} {buckets} {b} D y standing below {ks} lists above {was} {is} {at} {end} {i} all (es, (blocks, put)) = (
  es,
  (
    (
      map t.step ks,
      (
        steps_listed t g b (D b) ks lists
            (λ k h e. subst (λ (j : ℕ). Step t.level g (D j) (t.step k)) e (steps-held t sound g 0 buckets carried D y k h))
            (λ s st. has_step t g buckets buckets carried D y standing b s below st),
        blocks-written f plan g t y.docs_of above (D b) ks es
            (λ j h. let low = lists.below j h in (y.docs (get_or ks j 0) low.0 ∙ ap (λ (k : ℕ). row_docs t.level g (t.step (get_or ks j 0)) (D k)) low.1, y.of_rows.counted (get_or ks j 0) low.0))
            (subst (λ (js : List ℕ). BlocksOf f plan g t y.docs_of above js es) (take_all i ks all) blocks),
      ),
    ),
    put,
  ),
)

-- the same, by what the loop over the listed rows has put so far, for whatever is held where nothing waits
pub level_put : {T W : Type 0} {worth : T → W} (nothing : W) (fed : ColumnType → ℕ → W → W) (plan : Plan) {t : Table} (above : List ℤ) (stored : Seg → (n buckets : ℕ) → Deliveries → Type 0) {waiting : Deliveries} {pending : ℕ} {rests prepared : Type 0}
    → Sound t → Waits waiting pending → {b : ℕ} {ks : List ℕ} → Listed t b ks → {was is : List (Row T)} {at end i : ℕ}
    → ((g : Seg) (n : ℕ) (E : Deliveries) → rests → prepared → stored g n t.rows E → length above + suc (length plan.levels) ≤ 3
    → (es : List (Entry W)) × (BlocksOf (record { nothing = nothing; fed = fed }) plan g t E above (take i ks) es × (at + length es ≤ length was → Put worth was is at end es)))
    → length ks ≤ i
    → (g : Seg) (n buckets : ℕ) (D : Deliveries) → (pending ≡ 0) × rests → Standing t buckets × prepared → b < buckets → At t (stored g) waiting n buckets (sorted t.level g D)
    → length above + suc (length plan.levels) ≤ 3 → PutBelow worth nothing fed (on_top t.level plan) g above (D b) was is at end
level_put {T} {W} {worth} nothing fed plan {t} above stored sound waits lists loop all g n buckets D settled prepared below held depth =
    let y = held.filed in
    all_put (record { nothing = nothing; fed = fed }) plan g t sound D y prepared.0 below lists above all
    (loop g (suc n) y.docs_of settled.1 prepared.1 (carry_none (waits_none waits settled.0) y.of_rows.carries) depth)
