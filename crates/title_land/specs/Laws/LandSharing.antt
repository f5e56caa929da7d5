-- A land's cells are those of its cover, and two lands share a cell exactly where their covers meet.
use Rattle.std.proofs.Common.{◌≡◌, ℕ, ◌+◌, ◌≤◌, Bool, true, false, ◌&&◌, inl, inr, List, [], length, refl, sym, subst, arith}
use Rattle.std.{specs.{Prelude.{nat_lt}, List.{list_any}}, proofs.lemmas.Bool.{and_parts, and_from, ltb-true}}
use Rattle.title_land.specs.declared.{survey.{Section.{Section}, Cell.{Cell}}, rectangle.Quarter.{Quarter}, grid.Grid.{Grid}}
use Rattle.title_land.specs.{declared.{node.Node.{Node}, tract.Land.{Land}}, Survey.{side, is_on_grid, same_section}, Rectangles.{holds}}
use Rattle.title_land.specs.{Nodes.{square, node_has, are_related, IsNode}, Grids.{grid_has}, Covers.{cover_below, node_at, section_cover}}
use Rattle.title_land.specs.{Lands.{has, cover_of, Meets}, CoverSets.{CoverHasItsCells, LandsShareACell, covers_meet}}
use Rattle.title_land.specs.Laws.{Squares.{Inside, inside, holds_from}, Members.{In, any_found, any_from, in_map, in_mapped}}
use Rattle.title_land.specs.Laws.{Filling.{fills_at}, CoverCells.{Found, cover_found, cover_complete}}
use Rattle.title_land.specs.Laws.NodeSharing.{related_from_cell, nodes_share}
use Rattle.title_land.specs.declared.node.Node.TheVariants as node
use Rattle.title_land.specs.declared.tract.Land.TheVariants as land

-- two tests are equal where each follows from the other
pub equal_tests : (a b : Bool) → (a ≡ true → b ≡ true) → (b ≡ true → a ≡ true) → a ≡ b
equal_tests true b f g = sym (f refl)
equal_tests false true f g = g refl
equal_tests false false f g = refl

-- a square of a section's cover
pub record Part (d : ℕ) (s : Section) (g : Grid) (n : Node) : Type 0 where
  pub quarters : List Quarter
  pub found : Found d (grid_has g) d [] quarters
  pub node_is : n ≡ node.Part s quarters

pub part_found : (d : ℕ) (s : Section) (g : Grid) (n : Node) → In n (section_cover d s (grid_has g)) → Part d s g n
part_found d s g n i =
    let k = in_mapped (node_at s) n (cover_below d (grid_has g) d []) i in
    record { quarters = k.0; found = cover_found d (grid_has g) d [] k.0 k.1; node_is = k.2 }

part_has : (d : ℕ) (s : Section) (g : Grid) (n : Node) (c : Cell) → Part d s g n → node_has d n c ≡ true
    → (same_section s c.section && grid_has g c.row c.column) ≡ true
part_has d s g n c p h =
    let k = subst (λ (x : Node). node_has d x c ≡ true) p.node_is h in
    let m = and_parts (same_section s c.section) (holds (square d p.quarters) c.row c.column) k in
    and_from (same_section s c.section) (grid_has g c.row c.column) m.0
    (fills_at (grid_has g) (square d p.quarters) c.row c.column p.found.filled (inside (square d p.quarters) c.row c.column m.1))

-- the cells of a cover's nodes lie in the land
pub cover_has : (d : ℕ) (x : Land) (n : Node) (c : Cell) → In n (cover_of d x) → node_has d n c ≡ true → has x c ≡ true
unfolding has cover_of
cover_has d land.Everything n c i h = refl
cover_has d (land.Township t) n c i h = elim i [
  | inl e ↦ subst (λ (x : Node). node_has d x c ≡ true) e h
  | inr z ↦ absurd z
]
cover_has d (land.Part s g) n c i h = part_has d s g n c (part_found d s g n i) h

-- a cover's nodes are nodes of the tree
pub cover_in_tree : (d : ℕ) (x : Land) (n : Node) → In n (cover_of d x) → IsNode d n
unfolding cover_of
cover_in_tree d land.Everything n i = elim i [
  | inl e ↦ subst (λ (x : Node). IsNode d x) (sym e) tt
  | inr z ↦ absurd z
]
cover_in_tree d (land.Township t) n i = elim i [
  | inl e ↦ subst (λ (x : Node). IsNode d x) (sym e) tt
  | inr z ↦ absurd z
]
cover_in_tree d (land.Part s g) n i =
    let p = part_found d s g n i in
    let long = p.found.long in
    let short : length p.quarters ≤ d = omega arith in
    subst (λ (x : Node). IsNode d x) (sym p.node_is) short

pub whole_section : (d : ℕ) (c : Cell) → is_on_grid d c ≡ true → Inside (square d []) c.row c.column
whole_section d c h =
    let k = and_parts (nat_lt c.row (side d)) (nat_lt c.column (side d)) h in
    let row = ltb-true c.row (side d) k.0 in
    let column = ltb-true c.column (side d) k.1 in
    record { below = omega arith; above = omega arith; right = omega arith; left = omega arith }

-- a cell of the grid that lies in the land lies in a node of its cover
pub cover_has_each : (d : ℕ) (x : Land) (c : Cell) → is_on_grid d c ≡ true → has x c ≡ true
    → (n : Node) × In n (cover_of d x) × (node_has d n c ≡ true)
unfolding has cover_of
cover_has_each d land.Everything c o h = (node.Everything, inl refl, refl)
cover_has_each d (land.Township t) c o h = (node.Township t, inl refl, h)
cover_has_each d (land.Part s g) c o h =
    let k = and_parts (same_section s c.section) (grid_has g c.row c.column) h in
    let whole : d + length {A = Quarter} [] ≡ d = omega arith in
    let m = cover_complete d (grid_has g) d [] c.row c.column whole (whole_section d c o) k.1 in (
      node.Part s m.0,
      in_map (node_at s) m.0 (cover_below d (grid_has g) d []) m.1,
      and_from (same_section s c.section) (holds (square d m.0) c.row c.column) k.0 (holds_from (square d m.0) c.row c.column m.2),
    )

-- a cell lies in the land exactly where it lies in a node of the cover
pub cover_has_its_cells : (d : ℕ) → CoverHasItsCells d
cover_has_its_cells d x c o =
    equal_tests (has x c) (list_any (λ n. node_has d n c) (cover_of d x))
    (λ h. let k = cover_has_each d x c o h in any_from (λ (n : Node). node_has d n c) (cover_of d x) k.0 k.1 k.2)
    (λ h. let k = any_found (λ (n : Node). node_has d n c) (cover_of d x) h in cover_has d x k.0 c k.1 k.2)

meet_from_cell : (d : ℕ) (a b : Land) → Meets d a b → covers_meet d a b ≡ true
meet_from_cell d a b m =
    let i = cover_has_each d a m.0 m.1 m.2 in
    let j = cover_has_each d b m.0 m.1 m.3 in
    any_from (λ (x : Node). list_any (are_related x) (cover_of d b)) (cover_of d a) i.0 i.1
    (any_from (are_related i.0) (cover_of d b) j.0 j.1 (related_from_cell d i.0 j.0 m.0 i.2 j.2))

cell_from_meet : (d : ℕ) (a b : Land) → covers_meet d a b ≡ true → Meets d a b
cell_from_meet d a b h =
    let i = any_found (λ (x : Node). list_any (are_related x) (cover_of d b)) (cover_of d a) h in
    let j = any_found (are_related i.0) (cover_of d b) i.2 in
    let c = (nodes_share d i.0 j.0 (cover_in_tree d a i.0 i.1) (cover_in_tree d b j.0 j.1)).1 j.2 in
    (c.0, c.1, cover_has d a i.0 c.0 i.1 c.2, cover_has d b j.0 c.0 j.1 c.3)

-- two lands share a cell exactly where their covers meet
pub lands_share : (d : ℕ) → LandsShareACell d
lands_share d a b = (meet_from_cell d a b, cell_from_meet d a b)
