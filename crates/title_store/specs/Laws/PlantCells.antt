-- The listed cells of a plant are its cells.
use Rattle.std.proofs.Common.{◌≡◌, ℕ, zero, suc, ◌+◌, ◌^◌, Bool, true, false, ◌&&◌, List, [], ◌∷◌, length, refl, ap, ◌∙◌, arith}
use Rattle.std.{proofs.lemmas.Bool.{lt-ltb, and_from, or_left, or_right}, specs.{Prelude.{nat_le}, List.{AllByRecursion, list_any}}}
use Rattle.title_land.specs.declared.{survey.{Township.{Township}, Section.{Section}, Cell.{Cell}}, rectangle.Quarter.{Quarter}}
use Rattle.title_land.specs.declared.{rectangle.Quarter.TheVariants.{Northeast, Northwest, Southwest, Southeast}, node.Node.{Node}}
use Rattle.title_land.specs.{declared.tract.Land.{Land}, Survey.{same_township, is_on_grid}, Nodes.{square, quarters, node_has}}
use Rattle.title_land.specs.{Lands.{has, is_plant_cell}, CellLists.{plant_cells, cells_of, node_cells}, Laws.Squares.{sized}}
use Rattle.title_land.specs.CellLists.{section_if, sections_from, sections_of, corner_of, cells_below, section_cells, township_cells}
use Rattle.title_land.specs.Laws.SameLand.{same_township-self}
use Rattle.title_store.specs.{Plants.{is_cell_of}, Laws.Each.{each_from, each_append, each_flat, each_filter}}

-- a cell of this section, on its grid
abbrev InSectionOf : ℕ → Section → Cell → Type 0
InSectionOf depth s c = (c.section ≡ s) × (is_on_grid depth c ≡ true)

corner_on_grid : (d : ℕ) (s : Section) (path : List Quarter) → zero + length path ≡ d → is_on_grid d (corner_of s (square d path)) ≡ true
corner_on_grid d s path l =
    let k = sized d zero path l in
    and_from _ _ (lt-ltb (square d path).top (2 ^ d) (omega (arith, k))) (lt-ltb (square d path).left (2 ^ d) (omega (arith, k)))

below_each : (d levels : ℕ) (s : Section) (path : List Quarter) → levels + length path ≡ d
    → AllByRecursion (InSectionOf d s) (cells_below d s levels path)
below_each d zero s path l = ((refl, corner_on_grid d s path l), tt)
below_each d (suc levels) s path l =
    each_flat (λ q. cells_below d s levels (q ∷ path)) (InSectionOf d s) quarters (
      below_each d levels s (Northeast ∷ path) (omega arith),
      (
        below_each d levels s (Northwest ∷ path) (omega arith),
        (
          below_each d levels s (Southwest ∷ path) (omega arith),
          (below_each d levels s (Southeast ∷ path) (omega arith), tt),
        ),
      ),
    )

section_each : (d : ℕ) (s : Section) → AllByRecursion (InSectionOf d s) (section_cells d s)
section_each d s = below_each d d s [] (omega arith)

section_if_each : (t : Township) (n : ℕ) (b : Bool) (e : (nat_le 1 n && nat_le n 36) ≡ b)
    → AllByRecursion (λ s. s.township ≡ t) (section_if t n b e)
unfolding section_if
section_if_each t n true e = (refl, tt)
section_if_each t n false e = tt

from_each : (t : Township) (n count : ℕ) → AllByRecursion (λ s. s.township ≡ t) (sections_from t n count)
from_each t n zero = tt
from_each t n (suc count) = each_append (λ s. s.township ≡ t) (section_if t n _ refl) (sections_from t (n + 1) count)
    (section_if_each t n _ refl) (from_each t (n + 1) count)

-- a township's sections are its own
pub sections_each : (t : Township) → AllByRecursion (λ s. s.township ≡ t) (sections_of t)
unfolding sections_of
sections_each t = from_each t 1 36

-- a cell of this township, on the grid
abbrev InTownshipOf : ℕ → Township → Cell → Type 0
InTownshipOf depth t c = (c.section.township ≡ t) × (is_on_grid depth c ≡ true)

township_each : (d : ℕ) (t : Township) → AllByRecursion (InTownshipOf d t) (township_cells d t)
township_each d t =
    each_flat (section_cells d) (InTownshipOf d t) (sections_of t)
    (each_from (λ s. s.township ≡ t) (λ s. AllByRecursion (InTownshipOf d t) (section_cells d s)) (sections_of t)
    (λ s e. each_from (InSectionOf d s) (InTownshipOf d t) (section_cells d s) (λ c h. (ap (λ (x : Section). x.township) h.0 ∙ e, h.1))
    (section_each d s))
    (sections_each t))

-- each of a list of townships is one of them
own_each : (ts : List Township) → AllByRecursion (λ t. list_any (same_township t) ts ≡ true) ts
own_each [] = tt
own_each (t ∷ ts) = (
  or_left (same_township t t) _ (same_township-self t),
  each_from (λ u. list_any (same_township u) ts ≡ true) (λ u. list_any (same_township u) (t ∷ ts) ≡ true) ts
      (λ u h. or_right (same_township u t) _ h) (own_each ts),
)

-- the listed cells of a plant are its cells
pub plant_each : (d : ℕ) (ts : List Township) → AllByRecursion (λ c. is_plant_cell d ts c ≡ true) (plant_cells d ts)
unfolding plant_cells
plant_each d ts =
    each_flat (township_cells d) (λ c. is_plant_cell d ts c ≡ true) ts
    (each_from (λ t. list_any (same_township t) ts ≡ true) (λ t. AllByRecursion (λ c. is_plant_cell d ts c ≡ true) (township_cells d t)) ts
    (λ t e. each_from (InTownshipOf d t) (λ c. is_plant_cell d ts c ≡ true) (township_cells d t)
    (λ c h. and_from (is_on_grid d c) _ h.1 (ap (λ (x : Township). list_any (same_township x) ts) h.0 ∙ e)) (township_each d t))
    (own_each ts))

-- the listed cells of a tract are its cells in the plant
pub cells_each : (d : ℕ) (ts : List Township) (land : Land) → AllByRecursion (λ c. is_cell_of d ts land c ≡ true) (cells_of d ts land)
unfolding cells_of
cells_each d ts land =
    each_from (λ c. (has land c ≡ true) × (is_plant_cell d ts c ≡ true)) (λ c. is_cell_of d ts land c ≡ true) _
    (λ c h. and_from (has land c) _ h.0 h.1)
    (each_filter (has land) (λ c. is_plant_cell d ts c ≡ true) (plant_cells d ts) (plant_each d ts))

-- the listed cells of a node are its cells in the plant
pub node_each : (d : ℕ) (ts : List Township) (n : Node)
    → AllByRecursion (λ c. (node_has d n c ≡ true) × (is_plant_cell d ts c ≡ true)) (node_cells d ts n)
unfolding node_cells
node_each d ts n = each_filter (node_has d n) (λ c. is_plant_cell d ts c ≡ true) (plant_cells d ts) (plant_each d ts)
