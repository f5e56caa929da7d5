-- Laws of maps from cells to owners, and of what is kept of cells.
use Rattle.std.proofs.Common.{◌≡◌, ℕ, ◌+◌, ◌<◌, Bool, true, false, cond, List, [], ◌∷◌, ◌++◌, Option, Some, None, is_some, take, get_or}
use Rattle.std.{proofs.Common.{length, refl, sym, ap, ◌∙◌, true≢false, subst, inl, inr, ◌||◌}, specs.Prelude.{unwrap_or}}
use Rattle.std.{proofs.lemmas.{List.{take_more}, Bool.{or_cases}}, specs.{List.{AllByRecursion, list_any}, BTreeMap.{BTreeMap, get, is_at}}}
use Rattle.title_land.specs.{Depth.{depth}, declared.survey.{Cell.{Cell}, Township.{Township}}, CellLists.{same_cell, cells_of}}
use Rattle.title_land.specs.{declared.tract.Land.{Land}, Orders.{cell_cmp}, Laws.CellMembers.{list_has_the_cells}}
use Rattle.title_land.specs.Laws.Keys.{cell_is, cell_at}
use Rattle.title_instrument.specs.{declared.{owners.Owners.{Owners}, instrument.Instrument.{Instrument}}, Owners.{opening_owners}}
use Rattle.title_instrument.specs.Effect.{cell_effect}
use Rattle.title_cell_store.specs.{declared.kept.Kept.{Kept}, CellMaps.{kept_at, kept_cells, keep_from}}
use Rattle.title_store.specs.Laws.Each.{each_append}
use Rattle.title_store.specs.Plants.{Plant, Failing, is_cell_of, first_failing, refusal_of, refused_in, done_or, plant_effect}

-- the second map is the first with these owners written at a cell
abbrev pub Writes : BTreeMap Cell Owners → BTreeMap Cell Owners → Cell → Owners → Type 0
Writes m n k w = (q : Cell) → get cell_cmp n q ≡ cond (is_at (cell_cmp k) q) (Some w) (get cell_cmp m q)

abbrev pub in_map : BTreeMap Cell Owners → Plant
in_map m c = unwrap_or (get cell_cmp m c) opening_owners

abbrev pub holds : BTreeMap Cell Owners → Cell → Bool
holds m c = is_some (get cell_cmp m c)

-- opening owners at a cell that the map doesn't hold change nothing
pub slot_content : (m n : BTreeMap Cell Owners) (k : Cell) → Writes m n k opening_owners → holds m k ≡ false → (q : Cell)
    → in_map n q ≡ in_map m q
slot_content m n k h none q = ap (λ (o : Option Owners). unwrap_or o opening_owners) (h q) ∙ go (is_at (cell_cmp k) q) refl
  where
    absent : (o : Option Owners) → is_some o ≡ false → unwrap_or o opening_owners ≡ opening_owners
    absent None e = refl
    absent (Some w) e = absurd (true≢false e)

    go : (b : Bool) → is_at (cell_cmp k) q ≡ b → unwrap_or (cond b (Some opening_owners) (get cell_cmp m q)) opening_owners ≡ in_map m q
    go true e = sym (absent (get cell_cmp m q) (ap (holds m) (cell_is q k (sym (cell_at k q) ∙ e)) ∙ none))
    go false e = refl

pub written_stays : (m n : BTreeMap Cell Owners) (k : Cell) (w : Owners) → Writes m n k w → (q : Cell) → holds m q ≡ true → holds n q ≡ true
written_stays m n k w h q there = ap is_some (h q) ∙ go (is_at (cell_cmp k) q)
  where
    go : (b : Bool) → is_some (cond b (Some w) (get cell_cmp m q)) ≡ true
    go true = refl
    go false = there

-- a fact at each of a list's first elements, and at the next
pub each_more : (P : Cell → Type 0) (cells : List Cell) (i : ℕ) (d : Cell) → i < length cells → P (get_or cells i d)
    → AllByRecursion P (take i cells) → AllByRecursion P (take (i + 1) cells)
each_more P cells i d low here before = rw (take_more cells i d low)
    (each_append P (take i cells) (get_or cells i d ∷ []) before (here, tt))

-- what the last of a list keeps counts only where no earlier one does
pub kept_last : (ks : List Kept) (k : Kept) (c : Cell) (z : Owners)
    → unwrap_or (kept_at (ks ++ k ∷ []) c) z ≡ unwrap_or (kept_at ks c) (cond (same_cell c k.cell) k.owners z)
kept_last [] k c z = go (same_cell c k.cell)
  where
    go : (b : Bool) → unwrap_or (cond b (Some k.owners) None) z ≡ cond b k.owners z
    go true = refl
    go false = refl
kept_last (x ∷ ks) k c z = go (same_cell c x.cell) (kept_last ks k c z)
  where
    go : (b : Bool) → unwrap_or (kept_at (ks ++ k ∷ []) c) z ≡ unwrap_or (kept_at ks c) (cond (same_cell c k.cell) k.owners z)
        → unwrap_or (cond b (Some x.owners) (kept_at (ks ++ k ∷ []) c)) z
        ≡ unwrap_or (cond b (Some x.owners) (kept_at ks c)) (cond (same_cell c k.cell) k.owners z)
    go true rest = refl
    go false rest = rest

-- a write of the last of a list
pub write_last : (m n : BTreeMap Cell Owners) (ks : List Kept) (k : Kept) → Writes m n k.cell k.owners → (c : Cell) →
    unwrap_or (kept_at (ks ++ k ∷ []) c) (in_map m c) ≡ unwrap_or (kept_at ks c) (in_map n c)
write_last m n ks k h c =
    kept_last ks k c (in_map m c)
    ∙ ap (unwrap_or (kept_at ks c)) (sym (ap (λ (o : Option Owners). unwrap_or o opening_owners) (h c)
    ∙ ap (λ (b : Bool). unwrap_or (cond b (Some k.owners) (get cell_cmp m c)) opening_owners) (cell_at k.cell c) ∙ go (same_cell c k.cell)))
  where
    go : (b : Bool) → unwrap_or (cond b (Some k.owners) (get cell_cmp m c)) opening_owners ≡ cond b k.owners (in_map m c)
    go true = refl
    go false = refl

-- the cells of a list with one more at its end, each with a fact
pub kept_front : (P : Cell → Type 0) (ks : List Kept) (k : Kept) → AllByRecursion P (kept_cells (ks ++ k ∷ []))
    → AllByRecursion P (kept_cells ks) × P k.cell
kept_front P [] k h = (tt, h.0)
kept_front P (x ∷ ks) k h = let rest = kept_front P ks k h.1 in ((h.0, rest.0), rest.1)

-- the cell stands in the list
abbrev pub lists : List Cell → Cell → Bool
lists cells c = list_any (same_cell c) cells

pub cells_kept : (p : Plant) (cells : List Cell) → kept_cells (keep_from p cells) ≡ cells
cells_kept p [] = refl
cells_kept p (c ∷ cs) = ap (λ (xs : List Cell). c ∷ xs) (cells_kept p cs)

pub kept_from : (p : Plant) (cells : List Cell) (c : Cell) → kept_at (keep_from p cells) c ≡ cond (lists cells c) (Some (p c)) None
kept_from p [] c = refl
kept_from p (x ∷ xs) c = go (same_cell c x) refl (kept_from p xs c)
  where
    go : (b : Bool) → same_cell c x ≡ b → kept_at (keep_from p xs) c ≡ cond (lists xs c) (Some (p c)) None
        → cond b (Some (p x)) (kept_at (keep_from p xs) c) ≡ cond (b || lists xs c) (Some (p c)) None
    go true e rest = ap (λ (y : Cell). Some (p y)) (sym (cell_is c x e))
    go false e rest = rest

-- owners kept from a plant are those that the plant has there
pub held_from : (p : Plant) (cells : List Cell) (ks : List Kept) (c : Cell) → ks ≡ keep_from p cells → lists cells c ≡ true
    → unwrap_or (kept_at ks c) opening_owners ≡ p c
held_from p cells ks c e h =
    ap (λ (xs : List Kept). unwrap_or (kept_at xs c) opening_owners) e
    ∙ ap (λ (o : Option Owners). unwrap_or o opening_owners) (kept_from p cells c)
    ∙ ap (λ (b : Bool). unwrap_or (cond b (Some (p c)) None) opening_owners) h

-- a fact at each of a list's cells, at one that stands in it
pub each_listed : (P : Cell → Type 0) (cells : List Cell) (c : Cell) → AllByRecursion P cells → lists cells c ≡ true → P c
each_listed P [] c h l = absurd (true≢false (sym l))
each_listed P (x ∷ xs) c h l = elim (or_cases (same_cell c x) (lists xs c) l) [
  | inl e ↦ subst P (sym (cell_is c x e)) h.0
  | inr e ↦ each_listed P xs c h.1 e
]

-- the listed cells of a tract are those in it
pub listed_is : (ts : List Township) (land : Land) (c : Cell) → lists (cells_of depth ts land) c ≡ is_cell_of depth ts land c
listed_is ts land c = list_has_the_cells depth ts land c

-- the plant after new owners were written into a tract's cells
pub post_content : (i : Instrument ℕ) (p : Plant) (ts : List Township) (land : Land) (ks : List Kept) (c : Cell) (z : Owners)
    → first_failing i p (cells_of depth ts land) ≡ None → ks ≡ keep_from (λ x. done_or (p x) (cell_effect i (p x))) (cells_of depth ts land)
    → z ≡ p c
    → unwrap_or (kept_at ks c) z ≡ plant_effect depth ts i p land c
unfolding plant_effect refused_in
post_content i p ts land ks c z none kept same =
    ap (λ (xs : List Kept). unwrap_or (kept_at xs c) z) kept
    ∙ ap (λ (o : Option Owners). unwrap_or o z) (kept_from (λ x. done_or (p x) (cell_effect i (p x))) (cells_of depth ts land) c)
    ∙ ap (λ (b : Bool). unwrap_or (cond b (Some (done_or (p c) (cell_effect i (p c)))) None) z) (listed_is ts land c)
    ∙ go (is_cell_of depth ts land c)
    ∙ sym (ap (λ (f : Option Failing). cond (is_some (refusal_of depth land f)) (p c)
    (cond (is_cell_of depth ts land c) (done_or (p c) (cell_effect i (p c))) (p c))) none)
  where
    go : (b : Bool) → unwrap_or (cond b (Some (done_or (p c) (cell_effect i (p c)))) None) z
        ≡ cond b (done_or (p c) (cell_effect i (p c))) (p c)
    go true = refl
    go false = same

-- a refused post leaves the plant
pub refused_content : (i : Instrument ℕ) (p : Plant) (ts : List Township) (land : Land) (c : Cell) (f : Failing)
    → first_failing i p (cells_of depth ts land) ≡ Some f → p c ≡ plant_effect depth ts i p land c
unfolding plant_effect refused_in
refused_content i p ts land c f some =
    sym (ap (λ (g : Option Failing). cond (is_some (refusal_of depth land g)) (p c)
    (cond (is_cell_of depth ts land c) (done_or (p c) (cell_effect i (p c))) (p c))) some)
