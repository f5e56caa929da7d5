-- Images that are out of a plot: pieces that stood there and may go back.
use Rattle.std.specs.Prelude.{◌≡◌, ℕ, ◌<◌, false, List}
use Rattle.title_land.specs.{declared.rectangle.Quarter.{Quarter}, Laws.Members.{In}}
use Rattle.title_tree.specs.{Paths.{begins}, Plots.{Plot}, Pieces.{Piece, paths, Disjoint, Ready, Reaches}}

-- an image that is out, with its number
pub record Lending : Type 0 where
  pub number : ℕ
  pub pieces : List Piece

-- each image that is out can go back: the plot has a node at each of its paths; and so it will after a later image has
-- gone back, since that one has the nodes of each earlier one
pub record Keeps (t : Plot) (out : List Lending) (next : ℕ) : Type 0 where
  pub ready : (x : Lending) → In x out → Ready (paths x.pieces) t
  pub apart : (x : Lending) → In x out → Disjoint (paths x.pieces)
  pub below : (x : Lending) → In x out → x.number < next
  pub reaches : (x y : Lending) → In x out → In y out → x.number < y.number
      → (q : List Quarter) → In q (paths x.pieces) → Reaches q y.pieces

-- no node at the first paths has one at the second
abbrev pub Clear : List (List Quarter) → List (List Quarter) → Type 0
Clear ps qs = (p q : List Quarter) → In p ps → In q qs → begins p q ≡ false

-- no later image that is out lies in the image's nodes
abbrev pub LaterClear : Lending → List Lending → Type 0
LaterClear y out = (x : Lending) → In x out → y.number < x.number → Clear (paths y.pieces) (paths x.pieces)
