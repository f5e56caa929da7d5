-- The one section that a tract lies in, by its number.
use Rattle.std.specs.Prelude.{ℕ, Bool, ◌&&◌, not, ◌==◌, []}
use Rattle.title_land.specs.{declared.tract.Land.{Land}, NodeNumbers.{node_number}}
use Rattle.title_land.specs.declared.node.Node.TheVariants as node
use Rattle.title_land.specs.declared.tract.Land.TheVariants as land

-- the number of the section of a part; 0 of the plant and of a township
abbrev pub home_number : Land → ℕ
home_number land.Everything = 0
home_number (land.Township t) = 0
home_number (land.Part s g) = node_number (node.Part s [])

-- both lie in one section, and not in the same one
abbrev pub is_elsewhere : ℕ → ℕ → Bool
is_elsewhere a b = not (a == b) && (not (a == 0) && not (b == 0))
