-- A node as a number, by which maps find it: from above its square's, its township's and its section's.
use Rattle.std.specs.Prelude.{ℕ, ◌≡◌, ◌+◌, ◌*◌, ◌/◌, ◌%◌, nat_lt, if◌then◌else◌, Some, Bool, true, false}
use Rattle.title_land.specs.{declared.{survey.{Township.{Township}, Section.{Section}}, node.Node.{Node}}, Nodes.{parent_of}}
use Rattle.title_land.specs.Paths.{path_number}
use Rattle.title_land.specs.declared.node.Node.TheVariants as node

-- from one township's number to the next; those between are its sections'
abbrev pub township_step : ℕ
township_step = 64

-- from one square's number to the next in its section; the plant and all townships and sections have lesser ones
abbrev pub square_step : ℕ
square_step = 4194304

-- 1 for north of the base line, and for east of the meridian
abbrev pub flag_number : Bool → ℕ
flag_number true = 1
flag_number false = 0

abbrev pub township_number : Township → ℕ
township_number t = ((t.number * 2 + flag_number t.north) * 128 + t.range) * 2 + flag_number t.east

abbrev pub section_number : Section → ℕ
section_number s = township_number s.township * township_step + s.number

-- the whole plant is 0, and a township has no section's number
abbrev pub node_number : Node → ℕ
node_number node.Everything = 0
node_number (node.Township t) = township_number t * township_step
node_number (node.Part s w) = path_number w * square_step + section_number s

-- the number of the node above the one with this number, which isn't the whole plant
abbrev pub number_above : ℕ → ℕ
number_above k =
    if nat_lt k square_step then 0
    else (if nat_lt k (4 * square_step) then k % square_step / township_step * township_step
    else k / (4 * square_step) * square_step + k % square_step)

-- no two nodes have one number
abbrev pub NumbersTellNodes : Type 0
NumbersTellNodes = (a b : Node) → node_number a ≡ node_number b → a ≡ b

-- the number of the node above comes from a node's own
abbrev pub NumbersGoUp : Type 0
NumbersGoUp = (n p : Node) → parent_of n ≡ Some p → number_above (node_number n) ≡ node_number p
