-- Squares that lie in one another, by their quarters, the innermost first.
use Rattle.std.specs.Prelude.{Bool, List, [], ◌∷◌, ◌||◌}
use Rattle.title_land.specs.{declared.rectangle.Quarter.{Quarter}, Nodes.{same_path}}

-- the second square lies in the first: it is that one, or a quarter of a square that lies in it
abbrev pub lies_in : List Quarter → List Quarter → Bool
lies_in w [] = same_path w []
lies_in w (q ∷ v) = same_path w (q ∷ v) || lies_in w v
