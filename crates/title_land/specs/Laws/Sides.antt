-- The code's numbers of the grid are those of the definitions. These lemmas and those of PathNumbers alone know the depth.
use Rattle.std.proofs.Common.{◌≡◌, ℕ, ◌*◌, Some, ◌≤◌, refl, sym, ap, arith, lit≤}
use Rattle.title_land.specs.declared.{rectangle.Rectangle.{Rectangle}, acres.TheConstants.{CELL_HALF_ACRES, TOWNSHIP_HALF_ACRES}}
use Rattle.title_land.specs.{declared.survey.Township.{Township}, Acres.{half_acres_of, cell_half_acres}, Depth.{depth}, Survey.{side}}
use Rattle.title_land.specs.{Rectangles.{section_square, InSection}, declared.rectangle.TheConstants.{DEPTH, SIDE, ROWS}}
use Rattle.title_land.specs.declared.tract.Land.TheVariants as land

pub depth_is : depth ≡ DEPTH
unfolding depth
depth_is = refl

pub side_is : side depth ≡ SIDE
unfolding depth
side_is = refl

-- a section has as many rows as an array for them
pub rows_are : side depth ≡ ROWS
unfolding depth
rows_are = refl

-- a row has no more cells than its number has bits
pub side_fits : side depth ≤ 32
unfolding depth
side_fits = lit≤ tt

-- the code's whole section is that of the definitions
pub section_is : ◌≡◌ {A = Rectangle} record { top = 0; left = 0; height = SIDE; width = SIDE } (section_square depth)
section_is = ap (λ (n : ℕ). record { top = 0; left = 0; height = n; width = n }) (sym side_is)

pub section_inside : InSection depth record { top = 0; left = 0; height = SIDE; width = SIDE }
section_inside = let e = side_is in (omega arith, omega arith)

-- a township's acres
pub township_half_acres : (t : Township) → Some TOWNSHIP_HALF_ACRES ≡ half_acres_of depth (land.Township t)
unfolding depth
township_half_acres t = refl

-- acres of so many cells
pub cell_half_acres_are : (n : ℕ) → n * CELL_HALF_ACRES ≡ n * cell_half_acres depth
unfolding depth
cell_half_acres_are n = refl
