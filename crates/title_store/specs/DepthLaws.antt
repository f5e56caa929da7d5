-- Laws between two depths: a plant where each section is quartered once more, the four cells owned as the one was.
use Rattle.std.specs.Prelude.{◌≡◌, ℕ, suc, List}
use Rattle.title_land.specs.{declared.{survey.Township.{Township}, tract.Land.{Land}}, Doubled.{halved, doubled}}
use Rattle.title_instrument.specs.declared.instrument.Instrument.{Instrument}
use Rattle.title_store.specs.{Plants.{Plant, refused_in, plant_effect}, Sheets.{sheet_of}}

-- the plant on the finer grid: each cell has the owners of the cell that it lies in
abbrev pub finer : Plant → Plant
finer plant c = plant (halved c)

-- a post in the doubled land is refused as in the land: by the same rule, for the same estate, at the same node
abbrev pub RefusedDoubles : Type 0
RefusedDoubles = (depth : ℕ) (townships : List Township) (i : Instrument ℕ) (plant : Plant) (land : Land) →
    refused_in (suc depth) townships i (finer plant) (doubled depth land) ≡ refused_in depth townships i plant land

-- a post makes of the finer plant what it makes of the plant
abbrev pub EffectDoubles : Type 0
EffectDoubles = (depth : ℕ) (townships : List Township) (i : Instrument ℕ) (plant : Plant) (land : Land) →
    plant_effect (suc depth) townships i (finer plant) (doubled depth land) ≡ finer (plant_effect depth townships i plant land)

-- the sheet of the doubled land has the same rows
abbrev pub SheetDoubles : Type 0
SheetDoubles = (depth : ℕ) (townships : List Township) (plant : Plant) (land : Land) →
    sheet_of (suc depth) townships (finer plant) (doubled depth land) ≡ sheet_of depth townships plant land
