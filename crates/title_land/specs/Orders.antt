-- The orders of townships, sections, cells and nodes as keys of a map.
use Rattle.std.specs.{declared.cmp.Ordering.{Ordering}, Ordering.{nat_cmp, bool_cmp, ordering_then}}
use Rattle.title_land.specs.declared.{survey.{Township.{Township}, Section.{Section}, Cell.{Cell}}, node.Node.{Node}}
use Rattle.title_land.specs.contracts.node.NodeOrd.TheImpl as node_ord

-- townships by number, north or south, range, east or west
abbrev pub township_cmp : Township → Township → Ordering
township_cmp t u =
    ordering_then (nat_cmp t.number u.number)
    (ordering_then (bool_cmp t.north u.north)
    (ordering_then (nat_cmp t.range u.range) (bool_cmp t.east u.east)))

-- sections by township, then by number
abbrev pub section_cmp : Section → Section → Ordering
section_cmp s u = ordering_then (township_cmp s.township u.township) (nat_cmp s.number u.number)

-- cells by section, row and column
abbrev pub cell_cmp : Cell → Cell → Ordering
cell_cmp a b = ordering_then (section_cmp a.section b.section) (ordering_then (nat_cmp a.row b.row) (nat_cmp a.column b.column))

-- nodes as the variants and their parts compare: everything, then townships, then squares by section, the larger kind first
abbrev pub node_cmp : Node → Node → Ordering
node_cmp = (node_ord.ghosts).cmp
