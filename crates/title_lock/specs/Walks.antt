-- The walk over what an access asks for: of each node of a cover the node itself, and the nodes above it that don't lie above the
-- node before too.
use Rattle.std.specs.Prelude.{Bool, true, false, if◌then◌else◌, List, [], ◌∷◌, ◌++◌, Option, Some, None}
use Rattle.std.specs.List.{list_any}
use Rattle.title_land.specs.{declared.node.Node.{Node}, Nodes.{same_node, above, is_above}}
use Rattle.title_lock.specs.{declared.{modes.Mode.{Mode}, spots.Spot.{Spot}, walks.{Climb.{Climb}, Walk.{Walk}}}, Modes.{bound}}
use Rattle.title_lock.specs.{Asking.{own_mode, above_mode}, Holders.{clashes}}

-- a node that is asked for, and whether it is one of the cover; else it lies above one
abbrev pub Asked : Type 0
Asked = Node × Bool

-- the mode that is asked there
abbrev pub mode_for : Bool → Bool → Mode
mode_for post own = if own then own_mode post else above_mode post

-- a node lies above the one before
abbrev pub is_known : Option Node → Node → Bool
is_known None n = false
is_known (Some last) n = is_above n last

-- the nodes of a list but those that lie above the one before, as nodes above
abbrev pub asks_above : Option Node → List Node → List Asked
asks_above last [] = []
asks_above last (n ∷ nodes) = if is_known last n then asks_above last nodes else (n, false) ∷ asks_above last nodes

-- what an access asks for, after a node
abbrev pub walk : Option Node → List Node → List Asked
walk last [] = []
walk last (c ∷ cover) = ((c, true) ∷ asks_above last (above c)) ++ walk (Some c) cover

-- ---- what a part of a walk asks

-- the bound of the modes that are asked at n
abbrev pub asked_in : Bool → List Asked → Node → Option Mode
asked_in post [] n = None
asked_in post (a ∷ asks) n = bound (if same_node n a.0 then Some (mode_for post a.1) else None) (asked_in post asks n)

-- something is asked at n
abbrev pub asks_in : List Asked → Node → Bool
asks_in asks n = list_any (λ a. same_node n a.0) asks

-- a mode that is asked doesn't stand beside what another examiner holds there
abbrev pub clashes_in : Bool → (Node → Option Mode) → List Asked → Bool
clashes_in post held asks = list_any (λ a. clashes (mode_for post a.1) (held a.0)) asks

-- ---- the code's walk

abbrev pub node_of : Option Spot → Option Node
node_of None = None
node_of (Some s) = Some s.is.node

-- a node that is asked for, and those above it
abbrev pub climb_left : Option Climb → List Asked
climb_left None = []
climb_left (Some c) = (c.spot.is.node, c.is_own) ∷ asks_above (node_of c.last) (above c.spot.is.node)

-- what a walk has still to come
abbrev pub walk_left : Walk → List Asked
walk_left w = climb_left w.climb ++ walk (node_of w.last) w.nodes.now
