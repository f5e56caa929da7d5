-- Laws between two depths: what a text says where each section is quartered once more.
use Rattle.std.specs.Prelude.{◌≡◌, ℕ, suc, List}
use Rattle.title_land.specs.{declared.tract.Land.{Land}, Doubled.{doubled}}
use Rattle.title_aliquot.specs.{declared.fault.DescFault.{DescFault}, Describes.{Describes, FaultOf}}
use Rattle.title_aliquot.specs.declared.fault.DescFault.TheVariants as fault

-- a text that describes a land describes the doubled land
abbrev pub LandDoubles : Type 0
LandDoubles = (depth : ℕ) (text : List ℕ) (l : Land) → Describes depth text l → Describes (suc depth) text (doubled depth l)

-- a text that has a fault has the same, unless its parts were too small
abbrev pub FaultStays : Type 0
FaultStays = (depth : ℕ) (text : List ℕ) (f : DescFault) → FaultOf depth text f → (f ≡ fault.TooSmall → ⊥) → FaultOf (suc depth) text f
