-- The constants of the grid.
use Rattle.std.specs.Prelude.{◌≡◌}
use Rattle.title_land.specs.{declared.rectangle.TheConstants.{DEPTH, SIDE}, Depth.{depth}, Survey.{side}}

-- the code's depth is that of the definitions, and so is its side
abbrev pub DepthIsSaidOnce : Type 0
DepthIsSaidOnce = (depth ≡ DEPTH) × (side depth ≡ SIDE)
