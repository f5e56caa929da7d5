-- The sheet of a section is put together of parts.
use Rattle.std.proofs.Common.{◌≡◌, ◌∙◌, ◌≤◌, false, List, [], ◌++◌, ap, sym, arith, append_assoc}
use Rattle.std.{specs.Prelude.{is_some}, proofs.lemmas.List.{append-nil}}
use Rattle.title_land.specs.{Depth.{depth}, Laws.Sides.{depth_is}, declared.survey.{Section.{Section}, Township.{Township}}}
use Rattle.title_land.specs.declared.{rectangle.Quarter.TheVariants.{Northeast, Northwest, Southwest, Southeast}, tract.Land.{Land}}
use Rattle.title_land.specs.{CellLists.{node_cells}, Lands.{land_of}}
use Rattle.title_land.specs.declared.node.Node.TheVariants as node
use Rattle.title_instrument.specs.declared.parts.Estate.{Estate, TheVariants.{S, O, M}}
use Rattle.title_store.specs.{declared.sheet_row.SheetRow.{SheetRow}, Plants.{Plant}, Sheets.{estate_sheet, one_holding, sheet_of}}
use Rattle.title_store.specs.Laws.SheetParts.{section_parts}
use Rattle.title_chain.specs.SheetParts.{all_rows}
use Rattle.title_desk.{specs.Shown.{quarter_rows}, proofs.Found.{none_from}}

-- parts that came one after another are the sheet
pub whole_sheet : (ts : List Township) (p : Plant) (land : Land) (none a b c : List (List SheetRow)) (rows : List SheetRow) → none ≡ []
    → all_rows a ≡ all_rows none ++ estate_sheet depth ts p land S → all_rows b ≡ all_rows a ++ estate_sheet depth ts p land O
    → all_rows c ≡ all_rows b ++ estate_sheet depth ts p land M → rows ≡ all_rows c → rows ≡ sheet_of depth ts p land
unfolding sheet_of
whole_sheet ts p land none a b c rows begun s o m is =
    let surface = estate_sheet depth ts p land S in
    let oil = estate_sheet depth ts p land O in
    let minerals = estate_sheet depth ts p land M in
    let first : all_rows a ≡ surface = s ∙ ap (λ (xs : List (List SheetRow)). all_rows xs ++ surface) begun in
    is ∙ m ∙ ap (λ (xs : List SheetRow). xs ++ minerals) (o ∙ ap (λ (xs : List SheetRow). xs ++ oil) first)
    ∙ append_assoc surface oil minerals
    ∙ ap (λ (xs : List SheetRow). surface ++ (oil ++ xs)) (sym (append-nil minerals))

in_turn : (z a b c d : List SheetRow) → z ++ a ++ b ++ c ++ d ≡ z ++ (a ++ (b ++ (c ++ (d ++ []))))
in_turn z a b c d = simp (append_assoc, append-nil)

deep : 1 ≤ depth
deep = let e = depth_is in omega (arith, e)

-- the quarters' parts for an estate of which the section has no one holding
pub quarters_are : (ts : List Township) (p : Plant) (s : Section) (e : Estate) (z : List SheetRow)
    → false ≡ is_some (one_holding e p (node_cells depth ts (node.Part s [])))
    → z ++ quarter_rows ts p s Northeast e ++ quarter_rows ts p s Northwest e ++ quarter_rows ts p s Southwest e
    ++ quarter_rows ts p s Southeast e ≡ z ++ estate_sheet depth ts p (land_of depth (node.Part s [])) e
quarters_are ts p s e z none =
    in_turn z (quarter_rows ts p s Northeast e) (quarter_rows ts p s Northwest e) (quarter_rows ts p s Southwest e)
    (quarter_rows ts p s Southeast e)
    ∙ ap (λ (xs : List SheetRow). z ++ xs) (sym (section_parts depth ts p e s deep (none_from _ (sym none))))
