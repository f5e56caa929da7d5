-- Parts that are a square by its quarters, and halves of such a square.
use Rattle.std.specs.Prelude.{◌≡◌, ◌<◌, ◌≤◌, List, [], map, length}
use Rattle.title_land.specs.{Depth.{depth}, declared.rectangle.{Half.{Half}, Quarter.{Quarter}, Step.{Step}}, Grids.{grid_of}}
use Rattle.title_land.specs.{Nodes.{square}, Rectangles.{half_of, holds}}
use Rattle.title_land.specs.declared.rectangle.Step.TheVariants as step
use Rattle.title_aliquot.specs.{declared.syntax.Entry.{Entry}, Entries.{leading, parts_in}, Laws.Lands.{PartsStand}}

-- entries that are steps alone: the quarters of a square, down to a cell at most
pub record IsSquared (es : List Entry) (w : List Quarter) : Type 0 where
  pub steps : leading es ≡ map (λ q. step.Quarter q) w
  pub alone : parts_in es ≡ []
  pub short : length w ≤ depth

-- the cells of a half of a square stand for the parts, and the square isn't a cell
pub record IsHalf (parts : List (List Step)) (h : Half) (w : List Quarter) : Type 0 where
  pub stands : PartsStand parts (grid_of depth (holds (half_of h (square depth w))))
  pub wide : length w < depth
