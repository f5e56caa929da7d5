-- Covers: the nodes that list a set of cells.
use Rattle.std.specs.Prelude.{ℕ, zero, suc, Bool, List, [], ◌∷◌, ◌++◌, map, if◌then◌else◌}
use Rattle.title_land.specs.{declared.rectangle.Quarter.{Quarter, TheVariants.{Northeast, Northwest, Southwest, Southeast}}, Nodes.{square}}
use Rattle.title_land.specs.{declared.{survey.Section.{Section}, node.Node.{Node}}, Grids.{fills}}
use Rattle.title_land.specs.declared.node.Node.TheVariants as node

-- the squares that list a set within one square that still has levels below it, each by its quarters
abbrev pub cover_below : ℕ → (ℕ → ℕ → Bool) → ℕ → List Quarter → List (List Quarter)
cover_below depth has zero quarters = if fills has (square depth quarters) then quarters ∷ [] else []
cover_below depth has (suc levels) quarters =
    if fills has (square depth quarters) then quarters ∷ []
    else (cover_below depth has levels (Northeast ∷ quarters)
    ++ cover_below depth has levels (Northwest ∷ quarters)
    ++ cover_below depth has levels (Southwest ∷ quarters)
    ++ cover_below depth has levels (Southeast ∷ quarters))

-- the node of a section with these quarters
abbrev pub node_at : Section → List Quarter → Node
node_at s quarters = node.Part s quarters

-- the nodes that list a set of a section's cells
abbrev pub section_cover : ℕ → Section → (ℕ → ℕ → Bool) → List Node
section_cover depth s has = map (node_at s) (cover_below depth has depth [])
