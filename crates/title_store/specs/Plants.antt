-- A plant: the owners of each cell; and what an instrument does to a tract of it.
use Rattle.std.specs.Prelude.{◌≡◌, ℕ, Bool, false, cond, ◌&&◌, List, [], ◌∷◌, Option, Some, None, find, unwrap_or, is_some}
use Rattle.std.specs.List.{list_any}
use Rattle.title_land.specs.{declared.{survey.{Cell.{Cell}, Township.{Township}}, node.Node.{Node}, tract.Land.{Land}}, Nodes.{node_has}}
use Rattle.title_land.specs.{Survey.{same_township}, Lands.{has, cover_of, is_plant_cell}, CellLists.{cells_of}}
use Rattle.title_land.specs.declared.node.Node.TheVariants as node
use Rattle.title_instrument.specs.declared.{parts.{Estate.{Estate}, Rule.{Rule}}, instrument.Instrument.{Instrument}}
use Rattle.title_instrument.specs.{declared.owners.{Owners.{Owners}, Effect.{Effect, TheVariants.{Done, Refused}}}, Effect.{cell_effect}}

-- the owners of each cell
abbrev pub Plant : Type 0
Plant = Cell → Owners

-- the same owners in every cell
abbrev pub SameContent : Plant → Plant → Type 0
SameContent old new = (c : Cell) → new c ≡ old c

-- no township stands twice
abbrev pub IsEachOnce : List Township → Type 0
IsEachOnce [] = Unit {0}
IsEachOnce (t ∷ townships) = (list_any (same_township t) townships ≡ false) × IsEachOnce townships

-- the cell is one of the tract's in the plant: on the grid, in a declared township
abbrev pub is_cell_of : ℕ → List Township → Land → Cell → Bool
is_cell_of depth townships land c = has land c && is_plant_cell depth townships c

-- a cell that refuses an instrument, with the rule and the estate
pub record Failing : Type 0 where
  pub rule : Rule
  pub estate : Estate
  pub cell : Cell

-- the first cell of a list that refuses the instrument
abbrev pub failing_or : Cell → Effect → Option Failing → Option Failing
failing_or c (Done owners) later = later
failing_or c (Refused rule estate) later = Some (record { rule = rule; estate = estate; cell = c })

abbrev pub first_failing : Instrument ℕ → Plant → List Cell → Option Failing
first_failing i plant [] = None
first_failing i plant (c ∷ cells) = failing_or c (cell_effect i (plant c)) (first_failing i plant cells)

-- why a post is refused: the rule and the estate of the first failing cell, and the node of the cover in which it lies
pub record Refusal : Type 0 where
  pub rule : Rule
  pub estate : Estate
  pub node : Node

abbrev pub node_of : ℕ → Land → Cell → Node
node_of depth land c = unwrap_or (find (λ n. node_has depth n c) (cover_of depth land)) node.Everything

abbrev pub refusal_of : ℕ → Land → Option Failing → Option Refusal
refusal_of depth land None = None
refusal_of depth land (Some f) = Some (record { rule = f.rule; estate = f.estate; node = node_of depth land f.cell })

-- the refusal of a post in a tract, in the order of its cells; none where every cell has new owners
unfoldable pub refused_in : ℕ → List Township → Instrument ℕ → Plant → Land → Option Refusal
refused_in depth townships i plant land = refusal_of depth land (first_failing i plant (cells_of depth townships land))

abbrev pub done_or : Owners → Effect → Owners
done_or owners (Done new) = new
done_or owners (Refused rule estate) = owners

-- the plant after a post: all cells of the tract have their new owners, or, where one refuses, nothing changes
unfoldable pub plant_effect : ℕ → List Township → Instrument ℕ → Plant → Land → Plant
plant_effect depth townships i plant land c =
    cond (is_some (refused_in depth townships i plant land)) (plant c)
    (cond (is_cell_of depth townships land c) (done_or (plant c) (cell_effect i (plant c))) (plant c))
