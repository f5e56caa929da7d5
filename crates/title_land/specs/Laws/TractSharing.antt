-- Two tracts meet exactly where they share a cell.
use Rattle.std.{proofs.Common.{◌≡◌, ◌↔◌, ℕ, ◌<◌, Bool, true, ◌&&◌, refl}, specs.Prelude.{nat_lt}}
use Rattle.std.proofs.lemmas.Bool.{and_parts, and_from, lt-ltb}
use Rattle.title_land.specs.declared.{survey.{Township.{Township}, Section.{Section}, Cell.{Cell}}, grid.Grid.{Grid}, tract.Land.{Land}}
use Rattle.title_land.specs.{Survey.{side, is_on_grid, same_township, same_section}, Grids.{grid_has, has_some, grids_meet}}
use Rattle.title_land.specs.{Lands.{has, meets, Meets, IsLand}, SharedCells.{MeetsAtACell, CommonCellMeets, MeetsEitherWay}}
use Rattle.title_land.specs.Laws.SameLand.{same_township-is, same_township-self, same_section-is, same_section-self}
use Rattle.title_land.specs.Laws.{Squares.{pow_positive}, NodeSharing.{some_township, first_section, cell_at}, LandSharing.{equal_tests}}
use Rattle.title_land.specs.Laws.GridSharing.{grids_found, grids_from, some_found, some_from, grid_within}
use Rattle.title_land.specs.declared.tract.Land.TheVariants as land

-- a cell that lies in both, on the grid where both are as large as it
record Common (a b : Land) : Type 0 where
  cell : Cell
  in_a : has a cell ≡ true
  in_b : has b cell ≡ true
  on_grid : (depth : ℕ) → IsLand depth a → IsLand depth b → is_on_grid depth cell ≡ true

-- the same cell, the lands turned
turned : (a b : Land) → Common a b → Common b a
turned a b c = record { cell = c.cell; in_a = c.in_b; in_b = c.in_a; on_grid = λ depth h k. c.on_grid depth k h }

-- a row and a column on the grid
stands : (depth row column : ℕ) → row < side depth → column < side depth → (nat_lt row (side depth) && nat_lt column (side depth)) ≡ true
stands depth row column h k = and_from (nat_lt row (side depth)) (nat_lt column (side depth)) (lt-ltb row (side depth) h)
    (lt-ltb column (side depth) k)

-- a section's northwest cell stands on the grid
corner : (depth : ℕ) (s : Section) → is_on_grid depth (cell_at s 0 0) ≡ true
corner depth s = stands depth 0 0 (pow_positive depth) (pow_positive depth)

-- the township's first cell
abbrev first_cell : Township → Cell
first_cell t = cell_at (first_section t) 0 0

-- tests of townships and sections are the same either way
same_township_turned : (t u : Township) → same_township t u ≡ true → same_township u t ≡ true
same_township_turned t u h = let e = same_township-is t u h in rw e (same_township-self u)

same_section_turned : (s u : Section) → same_section s u ≡ true → same_section u s ≡ true
same_section_turned s u h = let e = same_section-is s u h in rw e (same_section-self u)

-- from a cell of a set, the cell of its section
part_everything : (s : Section) (g : Grid) → has_some g ≡ true → Common (land.Part s g) land.Everything
unfolding has
part_everything s g h =
    let k = some_found g h in
    record {
      cell = cell_at s k.0 k.1;
      in_a = and_from (same_section s s) (grid_has g k.0 k.1) (same_section-self s) k.2;
      in_b = refl;
      on_grid = λ depth a b. let p = grid_within depth g k.0 k.1 a k.2 in stands depth k.0 k.1 p.0 p.1;
    }

-- with the cell's township
part_township : (s : Section) (g : Grid) (t : Township) → (same_township s.township t && has_some g) ≡ true
    → Common (land.Part s g) (land.Township t)
unfolding has
part_township s g t h =
    let m = and_parts (same_township s.township t) (has_some g) h in
    let k = some_found g m.1 in
    record {
      cell = cell_at s k.0 k.1;
      in_a = and_from (same_section s s) (grid_has g k.0 k.1) (same_section-self s) k.2;
      in_b = same_township_turned s.township t m.0;
      on_grid = λ depth a b. let p = grid_within depth g k.0 k.1 a k.2 in stands depth k.0 k.1 p.0 p.1;
    }

-- with a set of the same section
part_part : (s u : Section) (g h : Grid) → (same_section s u && grids_meet g h) ≡ true → Common (land.Part s g) (land.Part u h)
unfolding has
part_part s u g h m =
    let e = and_parts (same_section s u) (grids_meet g h) m in
    let k = grids_found g h e.1 in
    record {
      cell = cell_at s k.0 k.1;
      in_a = and_from (same_section s s) (grid_has g k.0 k.1) (same_section-self s) k.2;
      in_b = and_from (same_section u s) (grid_has h k.0 k.1) (same_section_turned s u e.0) k.3;
      on_grid = λ depth a b. let p = grid_within depth g k.0 k.1 a k.2 in stands depth k.0 k.1 p.0 p.1;
    }

-- tracts that meet have a cell in common
common_cell : (a b : Land) → meets a b ≡ true → Common a b
unfolding meets has
common_cell land.Everything land.Everything m =
    record { cell = first_cell some_township; in_a = refl; in_b = refl; on_grid = λ depth a b. corner depth (first_section some_township) }
common_cell land.Everything (land.Township u) m =
    record { cell = first_cell u; in_a = refl; in_b = same_township-self u; on_grid = λ depth a b. corner depth (first_section u) }
common_cell land.Everything (land.Part u h) m = turned (land.Part u h) land.Everything (part_everything u h m)
common_cell (land.Township t) land.Everything m =
    record { cell = first_cell t; in_a = same_township-self t; in_b = refl; on_grid = λ depth a b. corner depth (first_section t) }
common_cell (land.Township t) (land.Township u) m =
    record {
      cell = first_cell t;
      in_a = same_township-self t;
      in_b = same_township_turned t u m;
      on_grid = λ depth a b. corner depth (first_section t);
    }
common_cell (land.Township t) (land.Part u h) m =
    let e = and_parts (same_township t u.township) (has_some h) m in
    turned (land.Part u h) (land.Township t) (part_township u h t
    (and_from (same_township u.township t) (has_some h) (same_township_turned t u.township e.0) e.1))
common_cell (land.Part s g) land.Everything m = part_everything s g m
common_cell (land.Part s g) (land.Township u) m = part_township s g u m
common_cell (land.Part s g) (land.Part u h) m = part_part s u g h m

-- the townships of a cell's section
of_section : (s : Section) (t : Township) (c : Cell) → same_section s c.section ≡ true → same_township t c.section.township ≡ true
    → same_township s.township t ≡ true
of_section s t c h k =
    let e = same_township-is s.township c.section.township ((and_parts (same_township s.township c.section.township) _ h).0) in
    let f = same_township-is t c.section.township k in
    rw (e, f) (same_township-self c.section.township)

-- tracts that have a cell in common meet
pub common_meets : CommonCellMeets
unfolding meets has
common_meets land.Everything land.Everything c x y = refl
common_meets land.Everything (land.Township u) c x y = refl
common_meets land.Everything (land.Part u h) c x y =
    some_from h c.row c.column ((and_parts (same_section u c.section) (grid_has h c.row c.column) y).1)
common_meets (land.Township t) land.Everything c x y = refl
common_meets (land.Township t) (land.Township u) c x y =
    let e = same_township-is t c.section.township x in
    let f = same_township-is u c.section.township y in
    rw (e, f) (same_township-self c.section.township)
common_meets (land.Township t) (land.Part u h) c x y =
    let k = and_parts (same_section u c.section) (grid_has h c.row c.column) y in
    and_from (same_township t u.township) (has_some h) (same_township_turned u.township t (of_section u t c k.0 x))
    (some_from h c.row c.column k.1)
common_meets (land.Part s g) land.Everything c x y =
    some_from g c.row c.column ((and_parts (same_section s c.section) (grid_has g c.row c.column) x).1)
common_meets (land.Part s g) (land.Township u) c x y =
    let k = and_parts (same_section s c.section) (grid_has g c.row c.column) x in
    and_from (same_township s.township u) (has_some g) (of_section s u c k.0 y) (some_from g c.row c.column k.1)
common_meets (land.Part s g) (land.Part u h) c x y =
    let k = and_parts (same_section s c.section) (grid_has g c.row c.column) x in
    let m = and_parts (same_section u c.section) (grid_has h c.row c.column) y in
    let e = same_section-is s c.section k.0 in
    let f = same_section-is u c.section m.0 in
    and_from (same_section s u) (grids_meet g h) (rw (e, f) (same_section-self c.section)) (grids_from g h c.row c.column k.1 m.1)

-- lands that meet do so the other way too
meets_turned : (a b : Land) → meets a b ≡ true → meets b a ≡ true
meets_turned a b h = let c = common_cell a b h in common_meets b a c.cell c.in_b c.in_a

-- the test is the same either way
pub meets_either_way : MeetsEitherWay
meets_either_way a b = equal_tests (meets a b) (meets b a) (meets_turned a b) (meets_turned b a)

-- where both are as large as the grid, they meet exactly where a cell of the grid lies in both
pub meets_at_a_cell : (depth : ℕ) → MeetsAtACell depth
meets_at_a_cell depth a b h k = (
  λ m. let c = common_cell a b m in (c.cell, c.on_grid depth h k, c.in_a, c.in_b),
  λ m. common_meets a b m.0 m.2 m.3,
)

-- the same, of a test's result
pub result_at_a_cell : (depth : ℕ) (a b x y : Land) (r : Bool) → x ≡ a → y ≡ b → IsLand depth x → IsLand depth y → r ≡ meets x y
    → (r ≡ true) ↔ Meets depth a b
result_at_a_cell depth a b x y r e f h k m = rw (m, ← e, ← f) (meets_at_a_cell depth x y h k)
