-- What a put leaves.
use Rattle.std.{proofs.Common.{◌≡◌, ℕ, ◌<◌, true, cond, List, [], ◌∷◌, ◌++◌, Some, sym, ap, subst, ◌∙◌}, specs.Prelude.{unwrap_or}}
use Rattle.std.specs.{List.{AllByRecursion}, Ordering.{nat_cmp}, BTreeMap.{BTreeMap, get, is_at, insert_entry}}
use Rattle.title_land.specs.{Depth.{depth}, declared.{survey.{Township.{Township}, Cell.{Cell}}, tract.Land.{Land}}}
use Rattle.title_land.specs.CellLists.{cells_of}
use Rattle.title_instrument.specs.{Owners.{opening_owners}}
use Rattle.title_cell_store.specs.{declared.cell_map.CellMap.{CellMap}, declared.kept.Kept.{Kept}, declared.kept.Lent.{Lent}}
use Rattle.title_store.specs.Loans.{AllBelow, IsTaken}
use Rattle.title_store.specs.Plants.{Plant, is_cell_of}
use Rattle.title_cell_store.specs.CellMaps.{is_there, kept_at, kept_cells, keep_from, loans_of, AreBacked}
use Rattle.title_cell_store.proofs.{LentLaws.{insert_last, loans_push, below_push}, MapLaws.{cells_kept, held_from, listed_is}}
use Rattle.title_cell_store.proofs.Backing.{keeps_from, slots_for, backed_stays, backed_more}

-- what is out after a put: its image last, with the number above all others
pub entries_after : (old new : BTreeMap ℕ Lent) (n : ℕ) (l : Lent) → AllBelow n (loans_of old.entries)
    → new.entries ≡ insert_entry nat_cmp old.entries n l → new.entries ≡ old.entries ++ (n, l) ∷ []
entries_after old new n l below entries = entries ∙ insert_last old.entries n l below

pub below_after : (old new : BTreeMap ℕ Lent) (n next : ℕ) (l : Lent) → AllBelow n (loans_of old.entries) → n < next
    → new.entries ≡ insert_entry nat_cmp old.entries n l → AllBelow next (loans_of new.entries)
below_after old new n next l below more entries =
    subst (λ (es : List (ℕ × Lent)). AllBelow next (loans_of es)) (sym (entries_after old new n l below entries))
    (below_push n next old.entries l more below)

-- the image of a put is taken
pub taken : (p : Plant) (ts : List Township) (land : Land) (cells : List Cell) (old new : BTreeMap ℕ Lent) (n : ℕ) (l : Lent)
    → cells ≡ cells_of depth ts land → l.land ≡ land → l.old.items ≡ keep_from p cells
    → AllBelow n (loans_of old.entries) → new.entries ≡ insert_entry nat_cmp old.entries n l
    → IsTaken n ts land p (loans_of old.entries) (loans_of new.entries)
taken p ts land cells old new n l listed same kept below entries =
    record {
      held = λ c. unwrap_or (kept_at l.old.items c) opening_owners;
      holds = λ c h. held_from p (cells_of depth ts land) l.old.items c (kept ∙ ap (keep_from p) listed) (listed_is ts land c ∙ h);
      above = below;
      last = ap loans_of (entries_after old new n l below entries) ∙ loans_push old.entries (n, l)
          ∙ ap (λ (x : Land). loans_of old.entries ++ record {
            number = n;
            land = x;
            held = λ c.
                unwrap_or (kept_at l.old.items c) opening_owners;
          } ∷ []) same;
    }

-- every image that is out can go back after a put
pub backed_after : (p : Plant) (ts : List Township) (land : Land) (cells : List Cell) (m slotted written : CellMap)
    (old new : BTreeMap ℕ Lent) (n : ℕ) (l : Lent)
    → cells ≡ cells_of depth ts land → l.land ≡ land → l.old.items ≡ keep_from p cells
    → ((c : Cell) → is_there m c ≡ true → is_there slotted c ≡ true) → AllByRecursion (λ c. is_there slotted c ≡ true) cells
    → ((c : Cell) → is_there slotted c ≡ true → is_there written c ≡ true)
    → ((q : ℕ) → get nat_cmp new q ≡ cond (is_at (nat_cmp n) q) (Some l) (get nat_cmp old q)) → AreBacked ts m old
    → AreBacked ts written new
backed_after p ts land cells m slotted written old new n l listed same kept stays there stays2 updates backed =
    let slots = slots_for ts land slotted (subst (AllByRecursion (λ (c : Cell). is_there slotted c ≡ true)) listed there) in
    backed_more ts written old new n l updates
    (backed_stays ts slotted written old stays2 (backed_stays ts m slotted old stays backed))
    (λ c. (
      keeps_from p ts land l.old.items (kept ∙ ap (keep_from p) listed) c ∙ ap (λ (x : Land). is_cell_of depth ts x c) (sym same),
      λ h. stays2 c (slots c (ap (λ (x : Land). is_cell_of depth ts x c) (sym same) ∙ h)),
    ))

-- the cells that are written have slots
pub slots_kept : (q : Plant) (m : CellMap) (cells : List Cell) (ks : List Kept) → ks ≡ keep_from q cells
    → AllByRecursion (λ c. is_there m c ≡ true) cells → AllByRecursion (λ c. is_there m c ≡ true) (kept_cells ks)
slots_kept q m cells ks kept there = subst (AllByRecursion (λ (c : Cell). is_there m c ≡ true))
    (sym (ap kept_cells kept ∙ cells_kept q cells)) there
