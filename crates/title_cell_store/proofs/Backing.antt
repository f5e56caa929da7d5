-- Every image that is out can go back without memory.
use Rattle.std.proofs.Common.{◌≡◌, ℕ, Bool, true, false, cond, List, [], ◌∷◌, Option, Some, None, is_some, refl, sym, ap, subst, ◌∙◌}
use Rattle.std.specs.{Prelude.{unwrap_or}, List.{AllByRecursion}, Ordering.{nat_cmp}, Map.{lookup}}
use Rattle.std.specs.BTreeMap.{BTreeMap, get, is_at, IsOrdered}
use Rattle.title_land.specs.{Depth.{depth}, declared.{survey.{Cell.{Cell}, Township.{Township}}, tract.Land.{Land}}}
use Rattle.title_land.specs.{CellLists.{same_cell, cells_of}, Laws.Keys.{same_cell-self}}
use Rattle.title_instrument.specs.{declared.owners.Owners.{Owners}, Owners.{opening_owners}}
use Rattle.title_cell_store.specs.{declared.cell_map.CellMap.{CellMap}, declared.kept.Kept.{Kept}, declared.kept.Lent.{Lent}}
use Rattle.title_store.specs.Plants.{Plant, is_cell_of}
use Rattle.title_store.specs.Loans.{Loan, IsLentAs}
use Rattle.title_cell_store.proofs.{LentLaws.{found_as}, MapLaws.{lists, kept_from, listed_is, each_listed}}
use Rattle.title_cell_store.specs.CellMaps.{content_of, is_there, kept_at, kept_cells, keep_from, keeps, loan_of, loans_of}
use Rattle.title_cell_store.specs.CellMaps.{IsBacked, AreBacked}

-- a fact at each cell for which owners are kept, at each of the list
pub each_kept : (P : Cell → Type 0) (ks : List Kept) → ((c : Cell) → keeps ks c ≡ true → P c) → AllByRecursion P (kept_cells ks)
each_kept P [] h = tt
each_kept P (k ∷ ks) h = (
  h k.cell (ap (λ (b : Bool). is_some (cond b (Some k.owners) (kept_at ks k.cell))) (same_cell-self k.cell)),
  each_kept P ks (λ c l. h c (more c l (same_cell c k.cell))),
)
  where
    more : (c : Cell) → keeps ks c ≡ true → (b : Bool) → is_some (cond b (Some k.owners) (kept_at ks c)) ≡ true
    more c l true = refl
    more c l false = l

-- what is kept at a cell, and elsewhere
pub kept_or : (ks : List Kept) (c : Cell) (z : Owners) (b : Bool) → keeps ks c ≡ b
    → unwrap_or (kept_at ks c) z ≡ cond b (unwrap_or (kept_at ks c) opening_owners) z
kept_or ks c z b e = go (kept_at ks c) b e
  where
    go : (o : Option Owners) (t : Bool) → is_some o ≡ t → unwrap_or o z ≡ cond t (unwrap_or o opening_owners) z
    go None true h = absurd cc
    go None false h = refl
    go (Some w) true h = refl
    go (Some w) false h = absurd cc

-- what a plant has in a tract's cells is kept for these cells and no others
pub keeps_from : (p : Plant) (ts : List Township) (land : Land) (ks : List Kept) → ks ≡ keep_from p (cells_of depth ts land) → (c : Cell)
    → keeps ks c ≡ is_cell_of depth ts land c
keeps_from p ts land ks e c =
    ap (λ (xs : List Kept). keeps xs c) e ∙ ap is_some (kept_from p (cells_of depth ts land) c) ∙ go (lists (cells_of depth ts land) c)
    ∙ listed_is ts land c
  where
    go : (b : Bool) → is_some (cond b (Some (p c)) None) ≡ b
    go true = refl
    go false = refl

-- slots for a tract's listed cells are slots for its cells
pub slots_for : (ts : List Township) (land : Land) (m : CellMap) → AllByRecursion (λ c. is_there m c ≡ true) (cells_of depth ts land)
    → (c : Cell) → is_cell_of depth ts land c ≡ true → is_there m c ≡ true
slots_for ts land m h c l = each_listed (λ x. is_there m x ≡ true) (cells_of depth ts land) c h (listed_is ts land c ∙ l)

-- slots that stay back what is out
pub backed_stays : (ts : List Township) (m k : CellMap) (lent : BTreeMap ℕ Lent) → ((c : Cell) → is_there m c ≡ true → is_there k c ≡ true)
    → AreBacked ts m lent → AreBacked ts k lent
backed_stays ts m k lent f h n l e c = let b = h n l e c in (b.0, λ i. f c (b.1 i))

-- the same images that are out
pub backed_same : (ts : List Township) (m : CellMap) (old new : BTreeMap ℕ Lent) → new.entries ≡ old.entries → AreBacked ts m old
    → AreBacked ts m new
backed_same ts m old new same h n l e = h n l (ap (λ (es : List (ℕ × Lent)). lookup (is_at (nat_cmp n)) es) (sym same) ∙ e)

-- one more image that is out
pub backed_more : (ts : List Township) (m : CellMap) (old new : BTreeMap ℕ Lent) (n : ℕ) (l : Lent)
    → ((q : ℕ) → get nat_cmp new q ≡ cond (is_at (nat_cmp n) q) (Some l) (get nat_cmp old q)) → AreBacked ts m old → IsBacked ts m l
    → AreBacked ts m new
backed_more ts m old new n l h before one q x e = go (is_at (nat_cmp n) q) (sym (h q) ∙ e)
  where
    go : (b : Bool) → cond b (Some l) (get nat_cmp old q) ≡ Some x → IsBacked ts m x
    go true g = (let same : l ≡ x = cc in subst (IsBacked ts m) same one)
    go false g = before q x g

-- one image fewer
pub backed_fewer : (ts : List Township) (m : CellMap) (old new : BTreeMap ℕ Lent) (n : ℕ)
    → ((q : ℕ) → get nat_cmp new q ≡ cond (is_at (nat_cmp n) q) None (get nat_cmp old q)) → AreBacked ts m old → AreBacked ts m new
backed_fewer ts m old new n h before q x e = go (is_at (nat_cmp n) q) (sym (h q) ∙ e)
  where
    go : (b : Bool) → cond b None (get nat_cmp old q) ≡ Some x → IsBacked ts m x
    go true g = absurd cc
    go false g = before q x g

some_is : {x y : Lent} → Some x ≡ Some y → x ≡ y
some_is h = cc

-- the map after the write of what an image holds
pub restored : (ts : List Township) (m k : CellMap) (lent : BTreeMap ℕ Lent) (n : ℕ) (l : Lent) → get nat_cmp lent n ≡ Some l
    → IsOrdered nat_cmp lent → AreBacked ts m lent
    → ((c : Cell) → content_of k c ≡ unwrap_or (kept_at l.old.items c) (content_of m c))
    → (b : Loan) → IsLentAs b n (loans_of lent.entries) → (c : Cell)
    → content_of k c ≡ cond (is_cell_of depth ts b.land c) (b.held c) (content_of m c)
restored ts m k lent n l is ordered backed h b out c =
    let found = found_as n lent.entries ordered b out in
    let same : found.0 ≡ l = some_is (sym found.1 ∙ is) in
    h c
    ∙ kept_or l.old.items c (content_of m c) (is_cell_of depth ts l.land c) (backed n l is c).0
    ∙ sym (ap (λ (x : Loan). cond (is_cell_of depth ts x.land c) (x.held c) (content_of m c))
    (found.2 ∙ ap (λ (x : Lent). loan_of (n, x)) same))
