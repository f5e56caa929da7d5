-- What is drawn of a node in a section.
use Rattle.std.specs.{Prelude.{◌≡◌, ◌<◌, ℕ, false, Option}, Option.{option_map_or}}
use Rattle.title_land.specs.{declared.{node.Node.{Node}, survey.Section.{Section}, rectangle.Rectangle.{Rectangle}}, Depth.{depth}}
use Rattle.title_land.specs.{Nodes.{node_has}, Survey.{side}, Rectangles.{holds}}

-- the rectangle has just the section's cells that lie in the node; there is none where no cell does
abbrev pub IsSquareOf : Section → Node → Option Rectangle → Type 0
IsSquareOf s node square =
    (row column : ℕ) → row < side depth → column < side depth →
    option_map_or (λ r. holds r row column) square false ≡ node_has depth node (record { section = s; row = row; column = column })
