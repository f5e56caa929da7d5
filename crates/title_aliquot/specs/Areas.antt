-- The area of rectangles: their cells, and whether two of them share one.
use Rattle.std.specs.{Prelude.{◌≡◌, ℕ, true, List}, Bool.{Decides}}
use Rattle.title_land.specs.{declared.rectangle.{Rectangle.{Rectangle}, Step.{Step}}, Grids.{grid_of}}
use Rattle.title_aliquot.specs.{declared.meaning.Area.{Area}, Meaning.{parts_exist, rectangles, union, Overlap}}

-- the area of rectangles
pub record IsArea (depth : ℕ) (shapes : List Rectangle) (a : Area) : Type 0 where
  pub cells_are : a.cells ≡ grid_of depth (union shapes)
  pub decides : Decides a.overlap (Overlap shapes)

-- the area of parts, each of which exists
pub record IsAreaOf (depth : ℕ) (parts : List (List Step)) (a : Area) : Type 0 where
  pub exist : parts_exist depth parts ≡ true
  pub area : IsArea depth (rectangles depth parts) a
