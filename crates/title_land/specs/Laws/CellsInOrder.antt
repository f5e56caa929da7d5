-- The cells of an earlier node of a cover are listed before those of a later one.
use Rattle.std.proofs.Common.{◌≡◌, ℕ, zero, suc, ◌+◌, ◌≤◌, true, ◌&&◌, ◌||◌, inl, inr, List, [], ◌∷◌, ◌++◌, length, refl, sym}
use Rattle.std.{proofs.Common.{ap, subst, ◌∙◌, arith}, specs.{Prelude.{reverse}, List.{list_any}}}
use Rattle.std.proofs.lemmas.{List.{reverse-append, length-reverse}, Bool.{and_parts, and_from, or_cases, both_ways}}
use Rattle.title_land.specs.declared.{survey.{Township.{Township}, Section.{Section}, Cell.{Cell}}, rectangle.Quarter.{Quarter}}
use Rattle.title_land.specs.declared.{rectangle.Quarter.TheVariants.{Northeast, Northwest, Southwest, Southeast}, node.Node.{Node}}
use Rattle.title_land.specs.{declared.tract.Land.{Land}, Survey.{is_on_grid, same_township, same_section}, Rectangles.{holds}}
use Rattle.title_land.specs.{Nodes.{square, quarters, same_quarter, same_node, is_above, node_has}, Lands.{has, cover_of, is_plant_cell}}
use Rattle.title_land.specs.CellLists.{cells_below, section_cells, sections_of, township_cells, plant_cells, cells_of}
use Rattle.title_land.specs.{CoverSets.{quarter_before, path_before, comes_before}, CellOrder.{is_met_before, CellsFollowTheCover}}
use Rattle.title_land.specs.Laws.{SameLand.{same_township-is, same_section-is, same_section-self}, Members.{In, any_found, any_from}}
use Rattle.title_land.specs.Laws.{SameNode.{same_quarter-is, same_quarter-self, same_node-self}, LandSharing.{cover_has, cover_in_tree}}
use Rattle.title_land.specs.Laws.{Squares.{Inside, inside, holds_from, quarter_inside, quarters_apart}, SameNode.{same_node-to}}
use Rattle.title_land.specs.Laws.{NodeSharing.{related_from_cell}, CoverSet.{cover_is_cover, cover_nodes_apart}}
use Rattle.title_land.specs.Laws.CellMembers.{cells_below-has, cells_below-in, in_quarters}
use Rattle.title_land.specs.Laws.CellMembers.{in_sections_of, section_cells-in, township_cells-in}
use Rattle.title_land.specs.Laws.MetBefore.{Met, flat_before, flat_at, met_filter, met_member, met_apart, met_in_order}
use Rattle.title_land.specs.declared.node.Node.TheVariants as node

quarters_met : (a b : Quarter) → quarter_before a b ≡ true → is_met_before same_quarter quarters a b ≡ true
quarters_met Northeast Northeast h = absurd cc
quarters_met Northeast Northwest h = refl
quarters_met Northeast Southwest h = refl
quarters_met Northeast Southeast h = refl
quarters_met Northwest Northeast h = absurd cc
quarters_met Northwest Northwest h = absurd cc
quarters_met Northwest Southwest h = refl
quarters_met Northwest Southeast h = refl
quarters_met Southwest Northeast h = absurd cc
quarters_met Southwest Northwest h = absurd cc
quarters_met Southwest Southwest h = absurd cc
quarters_met Southwest Southeast h = refl
quarters_met Southeast Northeast h = absurd cc
quarters_met Southeast Northwest h = absurd cc
quarters_met Southeast Southwest h = absurd cc
quarters_met Southeast Southeast h = absurd cc

-- a square within another, by its quarters from the outermost on
abbrev under : List Quarter → List Quarter → List Quarter
under [] path = path
under (a ∷ p) path = under p (a ∷ path)

under_append : (p q path : List Quarter) → under (p ++ q) path ≡ under q (under p path)
under_append [] q path = refl
under_append (a ∷ p) q path = under_append p q (a ∷ path)

under_whole : (p : List Quarter) → under (reverse p) [] ≡ p
under_whole [] = refl
under_whole (a ∷ p) =
    ap (λ (z : List Quarter). under z []) (reverse-append (a ∷ []) p) ∙ under_append (reverse p) (a ∷ []) []
    ∙ ap (λ (z : List Quarter). a ∷ z) (under_whole p)

under_inside : (d : ℕ) (p path : List Quarter) (row column : ℕ) → Inside (square d (under p path)) row column
    → Inside (square d path) row column
under_inside d [] path row column i = i
under_inside d (a ∷ p) path row column i = quarter_inside a (square d path) row column (under_inside d p (a ∷ path) row column i)

-- the cell lies in the square
abbrev Holds : ℕ → List Quarter → Cell → Type 0
Holds d q c = Inside (square d q) c.row c.column

-- the quarter of a square in whose list a cell of the square stands is the one that it lies in
only_quarter : (d levels : ℕ) (s : Section) (path : List Quarter) (x z : Quarter) (e : Cell) → suc levels + length path ≡ d
    → Holds d (x ∷ path) e → In e (cells_below d s levels (z ∷ path)) → z ≡ x
only_quarter d levels s path x z e l i j =
    let m : levels + suc (length path) ≡ d = omega arith in
    quarters_apart z x (square d path) e.row e.column (cells_below-in d s levels (z ∷ path) e m j).1 i

-- in the list of a square's cells, those of the square within it that comes first are met first
met_below : (d levels : ℕ) (path p q : List Quarter) (c e : Cell) → levels + length path ≡ d → length p ≤ levels
    → path_before p q ≡ true → Holds d (under p path) c → Holds d (under q path) e → (Holds d (under p path) e → ⊥)
    → Met (cells_below d c.section levels path) c e
met_below d levels path [] [] c e l n b i j f = absurd cc
met_below d levels path (a ∷ p) [] c e l n b i j f = absurd cc
met_below d levels path [] (y ∷ q) c e l n b i j f = absurd (f (under_inside d (y ∷ q) path e.row e.column j))
met_below d zero path (a ∷ p) (y ∷ q) c e l n b i j f = absurd (omega arith)
met_below d (suc levels) path (a ∷ p) (y ∷ q) c e l n b i j f =
    let m : levels + suc (length path) ≡ d = omega arith in
    let cells = λ (x : Quarter). cells_below d c.section levels (x ∷ path) in
    let at : Holds d (y ∷ path) e = under_inside d q (y ∷ path) e.row e.column j in
    let here : In c (cells a) =
    cells_below-has d c.section levels (a ∷ path) c.row c.column m (under_inside d p (a ∷ path) c.row c.column i) in
    elim (or_cases (quarter_before a y) (same_quarter a y && path_before p q) b) [
      | inl k ↦ flat_before same_quarter cells quarters a y c e (quarters_met a y k)
          (λ z h. subst (λ (x : Quarter). In c (cells x)) (same_quarter-is a z h) here)
          (λ z h g. let same = only_quarter d levels c.section path y z e l at g in
          both_ways (same_quarter y z) h (subst (λ (x : Quarter). same_quarter y x ≡ true) (sym same) (same_quarter-self y)))
      | inr k ↦
          let parts = and_parts (same_quarter a y) (path_before p q) k in
          let same = same_quarter-is a y parts.0 in
          let shorter : length p ≤ levels = omega arith in
          flat_at cells quarters a c e (in_quarters a) (λ z g. only_quarter d levels c.section path y z e l at g ∙ sym same)
          (met_below d levels (a ∷ path) p q c e m shorter parts.1 i
          (subst (λ (x : Quarter). Holds d (under q (x ∷ path)) e) (sym same) j) f)
    ]

pub met_section : (d : ℕ) (v w : List Quarter) (c e : Cell) → length (reverse v) ≤ d → path_before (reverse v) (reverse w) ≡ true
    → Holds d v c → Holds d w e → (Holds d v e → ⊥) → Met (section_cells d c.section) c e
met_section d v w c e n b i j f =
    met_below d d [] (reverse v) (reverse w) c e (omega arith) n b
    (subst (λ (q : List Quarter). Holds d q c) (sym (under_whole v)) i)
    (subst (λ (q : List Quarter). Holds d q e) (sym (under_whole w)) j)
    (λ h. f (subst (λ (q : List Quarter). Holds d q e) (under_whole v) h))

pub met_plant : (d : ℕ) (ts : List Township) (c e : Cell) → e.section ≡ c.section → is_plant_cell d ts c ≡ true
    → Met (section_cells d c.section) c e → Met (plant_cells d ts) c e
unfolding plant_cells
met_plant d ts c e same h met =
    let own = same_township c.section.township in
    let t = any_found own ts (and_parts (is_on_grid d c) (list_any own ts) h).1 in
    let listed : In c.section.township ts =
    subst (λ (x : Township). In x ts) (sym (same_township-is c.section.township t.0 t.2)) t.1 in
    flat_at (township_cells d) ts c.section.township c e listed
    (λ z i. sym (township_cells-in d z e i).0 ∙ ap (λ (s : Section). s.township) same)
    (flat_at (section_cells d) (sections_of c.section.township) c.section c e (in_sections_of c.section)
    (λ z i. sym (section_cells-in d z e i).0 ∙ same) met)

pub met_nodes : (d : ℕ) (ts : List Township) (land : Land) (m n : Node) (c e : Cell) → In m (cover_of d land) → In n (cover_of d land)
    → (node_has d m e ≡ true → ⊥) → comes_before m n ≡ true → node_has d m c ≡ true → node_has d n e ≡ true
    → is_plant_cell d ts c ≡ true → Met (plant_cells d ts) c e
met_nodes d ts land node.Everything n c e i j f b g h k = absurd cc
met_nodes d ts land (node.Township t) n c e i j f b g h k = absurd cc
met_nodes d ts land (node.Part s v) node.Everything c e i j f b g h k = absurd cc
met_nodes d ts land (node.Part s v) (node.Township t) c e i j f b g h k = absurd cc
met_nodes d ts land (node.Part s v) (node.Part u w) c e i j f b g h k =
    let order = and_parts (same_section s u) (path_before (reverse v) (reverse w)) b in
    let first = and_parts (same_section s c.section) (holds (square d v) c.row c.column) g in
    let second = and_parts (same_section u e.section) (holds (square d w) e.row e.column) h in
    let from_s : e.section ≡ s = sym (same_section-is u e.section second.0) ∙ sym (same_section-is s u order.0) in
    let same : e.section ≡ c.section = from_s ∙ same_section-is s c.section first.0 in
    let deep : length (reverse v) ≤ d = let z = cover_in_tree d land (node.Part s v) i in rw (length-reverse v) z in
    met_plant d ts c e same k
    (met_section d v w c e deep order.1 (inside (square d v) c.row c.column first.1) (inside (square d w) e.row e.column second.1)
    (λ z. f (and_from (same_section s e.section) (holds (square d v) e.row e.column)
    (subst (λ (x : Section). same_section s x ≡ true) (sym from_s) (same_section-self s)) (holds_from (square d v) e.row e.column z))))

pub cells_follow_the_cover : (d : ℕ) → CellsFollowTheCover d
unfolding cells_of
cells_follow_the_cover d ts land m n c e met member g h k =
    let nodes = cover_of d land in
    let found = any_found (same_node n) nodes member in
    let j : In n nodes = subst (λ (x : Node). In x nodes) (sym (same_node-to n found.0 found.2)) found.1 in
    let i = met_member nodes m n met in
    let first = any_from (same_node m) nodes m i (same_node-self m) in
    met_filter (has land) (plant_cells d ts) c e (cover_has d land m c i g) (met_nodes d ts land m n c e i j
    (λ z. elim (or_cases (same_node m n) (is_above m n || is_above n m) (related_from_cell d m n e z h)) [
      | inl same ↦ met_apart nodes n (subst (λ (x : Node). is_met_before same_node nodes x n ≡ true) (same_node-to m n same) met)
      | inr above ↦ elim (or_cases (is_above m n) (is_above n m) above) [
        | inl up ↦ both_ways (is_above m n) (cover_nodes_apart d land m n first member) up
        | inr down ↦ both_ways (is_above n m) (cover_nodes_apart d land n m member first) down
      ]
    ])
    (met_in_order nodes m n (cover_is_cover d land).order met j) g h k)
