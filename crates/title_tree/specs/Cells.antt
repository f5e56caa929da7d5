-- The cells of a square in their order.
use Rattle.std.specs.{Prelude.{ℕ, zero, suc, List, [], ◌∷◌, map, Option, None}, List.{flat_map}, Option.{option_or}}
use Rattle.title_land.specs.{declared.rectangle.Quarter.{Quarter}, Nodes.{quarters}}

-- the paths of the cells of a square with so many levels below it, in the order of its quarters
abbrev pub cell_paths : ℕ → List (List Quarter)
cell_paths zero = [] ∷ []
cell_paths (suc levels) = flat_map (λ q. map (λ c. q ∷ c) (cell_paths levels)) quarters

-- the first of what some cells have
abbrev pub first_some : {R : Type 0} → (List Quarter → Option R) → List (List Quarter) → Option R
first_some f [] = None
first_some f (c ∷ cells) = option_or (f c) (first_some f cells)
