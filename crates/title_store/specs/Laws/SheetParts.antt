-- Parts of sheets: a section's part for one estate is put together of its quarters' parts, where its cells have no one holding.
use Rattle.std.proofs.Common.{◌≡◌, ℕ, zero, suc, ◌+◌, ◌<◌, ◌≤◌, true, ◌&&◌, inl, inr, List, [], ◌∷◌, ◌++◌, length, map}
use Rattle.std.{proofs.{Common.{None, refl, sym, ap, ◌∙◌, arith}, lemmas.List.{append-nil}}, specs.{Prelude.{nat_lt}, List.{flat_map}}}
use Rattle.std.proofs.lemmas.Bool.{cases_Bool, lt-ltb, ltb-true}
use Rattle.title_land.specs.declared.{survey.{Township.{Township}, Section.{Section}, Cell.{Cell}}, rectangle.Quarter.{Quarter}}
use Rattle.title_land.specs.declared.{rectangle.Quarter.TheVariants.{Northeast, Northwest, Southwest, Southeast}, node.Node.{Node}}
use Rattle.title_land.specs.{declared.tract.Land.{Land}, Nodes.{quarters}, Lands.{has, is_plant_cell, land_of}}
use Rattle.title_land.specs.{CellLists.{node_cells, children_of}, Laws.NodeLands.{cover_of-land_of}}
use Rattle.title_land.specs.declared.node.Node.TheVariants as node
use Rattle.title_instrument.specs.{declared.parts.Estate.{Estate}, Owners.{holding_of}}
use Rattle.title_store.specs.{Plants.{Plant}, Sheets.{one_holding, rows_or, sheet_below, estate_sheet}, Laws.SheetLaws.{holding_same}}
use Rattle.title_store.specs.Laws.SheetNodes.{sheet_split}

-- a part depends on the holdings of its estate in the cells of its tract alone
pub part_same : (d : ℕ) (ts : List Township) (land : Land) (p q : Plant) (e : Estate)
    → ((c : Cell) → (has land c && is_plant_cell d ts c) ≡ true → holding_of e (p c) ≡ holding_of e (q c))
    → estate_sheet d ts p land e ≡ estate_sheet d ts q land e
part_same = holding_same

-- the quarters of a square, of which a cell has none
quarters_of : (d : ℕ) (ts : List Township) (s : Section) (w : List Quarter) → length w < d
    → children_of d ts (node.Part s w) ≡ map (λ q. node.Part s (q ∷ w)) quarters
quarters_of d ts s w h = rw (lt-ltb (length w) d h) refl

-- levels below those of the cells add nothing
deeper : (m d : ℕ) (ts : List Township) (p : Plant) (e : Estate) (s : Section) (w : List Quarter) → d ≤ m + length w
    → sheet_below m d ts p e (node.Part s w) ≡ sheet_below (suc m) d ts p e (node.Part s w)
deeper zero d ts p e s w h = elim (cases_Bool (nat_lt (length w) d)) [
  | inl l ↦ (let k = ltb-true (length w) d l in absurd (omega (arith, k, h)))
  | inr l ↦
      let none : children_of d ts (node.Part s w) ≡ [] = rw l refl in
      ap (λ (ns : List Node). rows_or (node.Part s w) e (one_holding e p (node_cells d ts (node.Part s w)))
      (flat_map (sheet_below zero d ts p e) ns)) (sym none)
]
deeper (suc m) d ts p e s w h = elim (cases_Bool (nat_lt (length w) d)) [
  | inl l ↦
      let four = quarters_of d ts s w (ltb-true (length w) d l) in
      ap (rows_or (node.Part s w) e (one_holding e p (node_cells d ts (node.Part s w))))
      (ap (flat_map (sheet_below m d ts p e)) four
      ∙ (λ i. deeper m d ts p e s (Northeast ∷ w) (omega (arith, h)) i ++ (deeper m d ts p e s (Northwest ∷ w) (omega (arith, h)) i
      ++ (deeper m d ts p e s (Southwest ∷ w) (omega (arith, h)) i ++ (deeper m d ts p e s (Southeast ∷ w) (omega (arith, h)) i ++ []))))
      ∙ ap (flat_map (sheet_below (suc m) d ts p e)) (sym four))
  | inr l ↦
      let none : children_of d ts (node.Part s w) ≡ [] = rw l refl in
      ap (rows_or (node.Part s w) e (one_holding e p (node_cells d ts (node.Part s w))))
      (ap (flat_map (sheet_below m d ts p e)) none ∙ ap (flat_map (sheet_below (suc m) d ts p e)) (sym none))
]

-- the part of a square's tract is the sheet of that node
square_part : (d : ℕ) (ts : List Township) (p : Plant) (e : Estate) (s : Section) (w : List Quarter) → length w ≤ d
    → estate_sheet d ts p (land_of d (node.Part s w)) e ≡ sheet_below (d + 2) d ts p e (node.Part s w)
square_part d ts p e s w h =
    ap (flat_map (sheet_below (d + 2) d ts p e)) (cover_of-land_of d (node.Part s w) h)
    ∙ append-nil (sheet_below (d + 2) d ts p e (node.Part s w))

two_more : (d : ℕ) → d + 2 ≡ suc (d + 1)
two_more d = omega arith

quarter_part : (d : ℕ) (ts : List Township) (p : Plant) (e : Estate) (s : Section) (q : Quarter) → 1 ≤ d
    → sheet_below (d + 1) d ts p e (node.Part s (q ∷ [])) ≡ estate_sheet d ts p (land_of d (node.Part s (q ∷ []))) e
quarter_part d ts p e s q h =
    deeper (d + 1) d ts p e s (q ∷ []) (omega arith)
    ∙ ap (λ (n : ℕ). sheet_below n d ts p e (node.Part s (q ∷ []))) (sym (two_more d))
    ∙ sym (square_part d ts p e s (q ∷ []) (omega (arith, h)))

-- a section whose cells have no one holding of an estate has the parts of its quarters
pub section_parts : (d : ℕ) (ts : List Township) (p : Plant) (e : Estate) (s : Section) → 1 ≤ d
    → one_holding e p (node_cells d ts (node.Part s [])) ≡ None
    → estate_sheet d ts p (land_of d (node.Part s [])) e
    ≡ flat_map (λ q. estate_sheet d ts p (land_of d (node.Part s (q ∷ []))) e) quarters
section_parts d ts p e s h none =
    square_part d ts p e s [] (omega arith)
    ∙ ap (λ (n : ℕ). sheet_below n d ts p e (node.Part s [])) (two_more d)
    ∙ sheet_split (d + 1) d ts p e (node.Part s []) none
    ∙ ap (flat_map (sheet_below (d + 1) d ts p e)) (quarters_of d ts s [] (omega (arith, h)))
    ∙ (λ i. quarter_part d ts p e s Northeast h i ++ (quarter_part d ts p e s Northwest h i
    ++ (quarter_part d ts p e s Southwest h i ++ (quarter_part d ts p e s Southeast h i ++ []))))
