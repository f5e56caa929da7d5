-- What is spelled in the cells form is read back, and is no description.
use Rattle.std.proofs.Common.{◌≡◌, ◌∙◌, ℕ, ◌-◌, ◌&&◌, true, List, [], ◌++◌, length, take, drop, refl, sym, ap, subst, arith}
use Rattle.std.{proofs.Common.{append_assoc, length-append, Option, Some, None}, specs.{Prelude.{codes, Ok}, Str.{bytes_eq}}}
use Rattle.std.proofs.lemmas.{Bool.{and_from, cond-true}, List.{append-nil, take_at, drop_at}, Slice.Eq.{bytes_eq-Decides}}
use Rattle.title_land.specs.{declared.{grid.Grid.{Grid}, node.Node.{Node}, survey.Section.{Section}, tract.Land.{Land}}, Depth.{depth}}
use Rattle.title_land.specs.{Grids.{grid_has, grid_of, has_some, IsGrid}, Lands.{land_of, IsLand}, Nodes.{IsNode}}
use Rattle.title_land.specs.{Texts.{node_text, section_text}, Laws.NodeLands.{is_grid-grid_of}, declared.survey.Township.{Township}}
use Rattle.title_land.specs.declared.node.Node.TheVariants as node
use Rattle.title_land.specs.declared.tract.Land.TheVariants as land
use Rattle.title_aliquot.specs.{Describes.{Describes}, Grammar.{Everything, InTownship, SectionSyntax, Syntax}, TextLaws.{ReadsBack}}
use Rattle.title_aliquot.specs.Meaning.{IsLandIn, IsLandOf}
use Rattle.title_plan.specs.Lands.{land_in, LandsAreRead}
use Rattle.title_spelling.specs.Cells.{cells_in, if_spelled, is_marked, marked_in, rows_text, section_of, spelled_cells}
use Rattle.title_spelling.proofs.{CellsForm.{rows_length, rows_mark}, Grids.{grid_is}, SectionTexts.{no_cells}, SoleNodes.{sole_node}}

-- ---- lands of descriptions

sized_in : (t : Township) (s : Option SectionSyntax) (l : Land) → IsLandIn depth t s l → IsLand depth l
sized_in t None l e = subst (λ (m : Land). IsLand depth m) (sym e) tt
sized_in t (Some s) l e = subst (λ (m : Land). IsLand depth m) (sym e.2) (is_grid-grid_of depth _)

sized_of : (s : Syntax) (l : Land) → IsLandOf depth s l → IsLand depth l
sized_of Everything l e = subst (λ (m : Land). IsLand depth m) (sym e) tt
sized_of (InTownship p) l e = sized_in e.0 p.section l e.2

-- a land that a text describes is as large as the grid
pub described_sized : (text : List ℕ) (l : Land) → Describes depth text l → IsLand depth l
described_sized text l h = let stands = h.2 in sized_of h.0 l stands.land_is

-- ---- bytes of a text in the cells form

pub two_parts : (s : Section) (g : Grid) → spelled_cells s g ≡ section_text s ++ (codes " cells" ++ rows_text (grid_has g))
two_parts s g = append_assoc (section_text s) (codes " cells") (rows_text (grid_has g))

-- its section stands before its last bytes
section_before : (s : Section) (g : Grid) → take (length (spelled_cells s g) - 86) (spelled_cells s g) ≡ section_text s
section_before s g =
    let rows = rows_length (grid_has g) in
    let last : length (codes " cells" ++ rows_text (grid_has g)) ≡ 86 = omega (arith, rows) in
    let long = ap length (two_parts s g) ∙ length-append (section_text s) (codes " cells" ++ rows_text (grid_has g)) in
    ap (λ (t : List ℕ). take (length (spelled_cells s g) - 86) t) (two_parts s g)
    ∙ take_at (section_text s) (codes " cells" ++ rows_text (grid_has g)) (length (spelled_cells s g) - 86) (omega (arith, last, long))

-- and its rows are the last of them
rows_behind : (s : Section) (g : Grid) → drop (length (spelled_cells s g) - 80) (spelled_cells s g) ≡ rows_text (grid_has g)
rows_behind s g =
    let rows = rows_length (grid_has g) in
    let long = length-append (section_text s ++ codes " cells") (rows_text (grid_has g)) in
    drop_at (section_text s ++ codes " cells") (rows_text (grid_has g)) (length (spelled_cells s g) - 80) (omega (arith, rows, long))

-- they mark its cells
marked_back : (s : Section) (g : Grid) → IsGrid depth g → marked_in (spelled_cells s g) ≡ g
marked_back s g sized =
    ap (λ (rows : List ℕ). grid_of depth (is_marked rows)) (rows_behind s g)
    ∙ sym (grid_is depth g (is_marked (rows_text (grid_has g))) sized (λ row column r c. sym (rows_mark (grid_has g) row column r c)))

same_bytes : (text : List ℕ) → bytes_eq text text ≡ true
same_bytes text = (bytes_eq-Decides text text).1 refl

module _ (back : ReadsBack depth) (read : LandsAreRead) where
  -- a node's text says its land
  pub node_read : (n : Node) → IsNode depth n → land_in (node_text n) ≡ Ok (land_of depth n)
  node_read n h =
      let b = back n h in
      (read (node_text n) b.0).1 b.1 ∙ ap (λ (l : Land). Ok l) (sole_node b.0 n (described_sized (node_text n) b.0 b.1) b.2)

  section_read : (s : Section) → land_in (section_text s) ≡ Ok (land_of depth (node.Part s []))
  section_read s = rw (append-nil (section_text s)) at (node_read (node.Part s []) (omega arith))

  -- what is spelled in the cells form is read as it
  pub cells_read : (s : Section) (g : Grid) → IsGrid depth g → has_some g ≡ true → cells_in (spelled_cells s g) ≡ Some (land.Part s g)
  unfolding cells_in
  cells_read s g sized some =
      let section = ap section_of (ap land_in (section_before s g) ∙ section_read s) in
      let all = and_from (has_some g) (bytes_eq (spelled_cells s g) (spelled_cells s g)) some (same_bytes (spelled_cells s g)) in
      ap (λ (x : Option Section). if_spelled (spelled_cells s g) x (marked_in (spelled_cells s g))) section
      ∙ ap (λ (h : Grid). if_spelled (spelled_cells s g) (Some s) h) (marked_back s g sized)
      ∙ cond-true (has_some g && bytes_eq (spelled_cells s g) (spelled_cells s g)) (Some (land.Part s g)) None all

  -- no description has the cells form
  pub cells_unsaid : (s : Section) (g : Grid) (l : Land) → land_in (spelled_cells s g) ≡ Ok l → ⊥
  cells_unsaid s g l e =
      let section = (read (section_text s) _).0 (section_read s) in
      let all = (read (section_text s ++ (codes " cells" ++ rows_text (grid_has g))) l).0 (rw (two_parts s g) at e) in
      no_cells s (rows_text (grid_has g)) section.0 all.0 section.1 all.1
