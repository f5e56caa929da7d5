-- Laws of descriptions. The depth is how often a section is quartered down to its cells.
use Rattle.std.specs.Prelude.{◌≡◌, ℕ, ◌<◌, List, [], ◌∷◌, ◌⊎◌}
use Rattle.title_land.specs.{declared.{rectangle.Step.{Step}, tract.Land.{Land}, node.Node.{Node}}, Texts.{node_text}, Lands.{cover_of}}
use Rattle.title_land.specs.{Survey.{side}, Nodes.{IsNode}, Grids.{grid_has, grid_of}}
use Rattle.title_aliquot.specs.{declared.fault.DescFault.{DescFault}, Meaning.{rectangles, union}, Describes.{Describes, FaultOf}}

-- a text describes one land at most
abbrev pub OneLand : ℕ → Type 0
OneLand depth = (text : List ℕ) (l m : Land) → Describes depth text l → Describes depth text m → l ≡ m

-- a text that describes a land has no fault
abbrev pub NoFaultBesideLand : ℕ → Type 0
NoFaultBesideLand depth = (text : List ℕ) (l : Land) (f : DescFault) → Describes depth text l → FaultOf depth text f → ⊥

-- a text has one fault at most, and one byte of it
abbrev pub OneFault : ℕ → Type 0
OneFault depth = (text : List ℕ) (f g : DescFault) → FaultOf depth text f → FaultOf depth text g → f ≡ g

abbrev pub LandOrFault : ℕ → List ℕ → Type 0
LandOrFault depth text = ((l : Land) × Describes depth text l) ⊎ ((f : DescFault) × FaultOf depth text f)

-- each text, of any bytes, describes a land or has a fault
abbrev pub EachTextIsAnswered : ℕ → Type 0
EachTextIsAnswered depth = (text : List ℕ) → LandOrFault depth text

-- on the grid, the set of a section's parts has the cells of their rectangles and no others
abbrev pub PartsHaveTheirCells : ℕ → Type 0
PartsHaveTheirCells depth =
    (parts : List (List Step)) (row column : ℕ) → row < side depth → column < side depth →
    grid_has (grid_of depth (union (rectangles depth parts))) row column ≡ union (rectangles depth parts) row column

-- the canonical text of a node of the tree describes a land whose cover is that node alone
abbrev pub ReadsBack : ℕ → Type 0
ReadsBack depth = (n : Node) → IsNode depth n → (l : Land) × Describes depth (node_text n) l × (cover_of depth l ≡ n ∷ [])
