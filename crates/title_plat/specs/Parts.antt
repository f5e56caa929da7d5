-- The parts of a sheet: a node, an estate, and the rows that say who owns it there.
use Rattle.std.specs.Prelude.{◌+◌, ℕ, Bool, true, false, ◌&&◌, List, [], ◌∷◌, slice_range, if◌then◌else◌}
use Rattle.title_instrument.specs.declared.parts.Estate.{Estate, TheVariants.{S, O, M}}
use Rattle.title_land.specs.{declared.node.Node.{Node}, Nodes.{same_node}}
use Rattle.title_plat.specs.declared.{parts.Part.{Part}, row.Row.{Row}}

-- the estates are one
abbrev pub same_estate : Estate → Estate → Bool
same_estate S S = true
same_estate O O = true
same_estate M M = true
same_estate _ _ = false

-- the row is one of this node and estate
abbrev pub is_row_of : Node → Estate → Row → Bool
is_row_of node estate row = same_node row.node node && same_estate row.estate estate

-- the rows of a part
abbrev pub owners_of : List Row → Part → List Row
owners_of rows part = slice_range rows part.first part.end

-- the part that a row begins, which stands at this place
abbrev pub part_at : ℕ → Row → Part
part_at place row = record { node = row.node; estate = row.estate; first = place; end = place + 1 }

-- a part and those behind it: it takes the rows of its node and estate that follow, and the first that isn't begins the next part
abbrev pub parts_behind : Part → List Row → List Part
parts_behind part [] = part ∷ []
parts_behind part (row ∷ rows) =
    if is_row_of part.node part.estate row
    then parts_behind (record part { end = part.end + 1 }) rows
    else (part ∷ parts_behind (part_at part.end row) rows)

-- the parts of rows of which the first stands at this place
abbrev pub parts_from : ℕ → List Row → List Part
parts_from place [] = []
parts_from place (row ∷ rows) = parts_behind (part_at place row) rows

-- the parts of a sheet: each row stands in one of them, in their order
abbrev pub parts_of : List Row → List Part
parts_of rows = parts_from 0 rows
