-- The land that a text describes, or its fault: each text has one of them, and only one.
use Rattle.std.specs.Prelude.{◌≡◌, ◌↔◌, ℕ, List, Option, Some, None, Result, Ok, Err}
use Rattle.title_land.specs.{Depth.{depth}, declared.{survey.Township.{Township}, tract.Land.{Land}}}
use Rattle.title_land.specs.declared.tract.Land.TheVariants as land
use Rattle.title_aliquot.specs.{declared.fault.DescFault.{DescFault}, Describes.{Describes, FaultOf}, Reading.{reading}}
use Rattle.title_aliquot.specs.Laws.Total.{each_text}

-- what a text says, as the law that each text is answered gives it
unfoldable pub land_in : List ℕ → Result Land DescFault
land_in text = (reading depth each_text).read text

-- the whole township that a text says
abbrev pub said_township : Result Land DescFault → Option Township
said_township (Ok (land.Township t)) = Some t
said_township _ = None

-- a text says a land exactly where it describes it
abbrev pub LandsAreRead : Type 0
LandsAreRead = (text : List ℕ) (l : Land) → (land_in text ≡ Ok l) ↔ Describes depth text l

-- a text says a fault exactly where it has it
abbrev pub FaultsAreRead : Type 0
FaultsAreRead = (text : List ℕ) (f : DescFault) → (land_in text ≡ Err f) ↔ FaultOf depth text f
