-- What a post's refusal names, said of the tract's cells alone.
use Rattle.std.specs.{Prelude.{◌≡◌, ℕ, true, List, Some}, List.{list_any}}
use Rattle.title_land.specs.{declared.{survey.{Cell.{Cell}, Township.{Township}}, tract.Land.{Land}}, Nodes.{same_node, node_has}}
use Rattle.title_land.specs.{Lands.{cover_of}, CellLists.{same_cell, cells_of}, CellOrder.{is_met_before}}
use Rattle.title_instrument.specs.{declared.{instrument.Instrument.{Instrument}, owners.Owners.{Owners}}, Effect.{cell_effect}}
use Rattle.title_instrument.specs.declared.owners.Effect.TheVariants.{Done, Refused}
use Rattle.title_store.specs.Plants.{Plant, Refusal, is_cell_of, refused_in}

-- a cell of the tract in the plant refuses by the named rule for the named estate, it lies in the named node, which is one
-- of the tract's cover, and each cell of the tract that is listed before it has new owners
pub record IsRefusedAt (depth : ℕ) (townships : List Township) (i : Instrument ℕ) (plant : Plant) (land : Land) (r : Refusal) : Type 0 where
  pub cell : Cell
  pub of_tract : is_cell_of depth townships land cell ≡ true
  pub refuses : cell_effect i (plant cell) ≡ Refused r.rule r.estate
  pub in_node : node_has depth r.node cell ≡ true
  pub of_cover : list_any (same_node r.node) (cover_of depth land) ≡ true
  pub earlier_done : (c : Cell) → is_met_before same_cell (cells_of depth townships land) c cell ≡ true
      → (owners : Owners) × (cell_effect i (plant c) ≡ Done owners)

-- a refusal names what its first failing cell refuses by, and the node of the cover in which that cell lies
abbrev pub RefusedAtTheFirst : ℕ → Type 0
RefusedAtTheFirst depth = (townships : List Township) (i : Instrument ℕ) (plant : Plant) (land : Land) (r : Refusal) →
    refused_in depth townships i plant land ≡ Some r → IsRefusedAt depth townships i plant land r
