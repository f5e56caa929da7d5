-- Readings: functions that give each text the land that it describes, or its fault.
use Rattle.std.{specs.Prelude.{◌≡◌, ◌↔◌, ℕ, List, Result, Ok, Err}, proofs.Common.{inl, inr}}
use Rattle.title_land.specs.declared.tract.Land.{Land}
use Rattle.title_aliquot.specs.{declared.fault.DescFault.{DescFault}, Describes.{Describes, FaultOf}}
use Rattle.title_aliquot.specs.TextLaws.{LandOrFault, EachTextIsAnswered}

-- a text is read aright: as the land that it describes, or as its fault
abbrev pub IsReadAs : ℕ → List ℕ → Result Land DescFault → Type 0
IsReadAs depth text (Ok l) = Describes depth text l
IsReadAs depth text (Err f) = FaultOf depth text f

-- a function from texts that reads each text aright
pub record Reading (depth : ℕ) : Type 0 where
  pub read : List ℕ → Result Land DescFault
  pub right : (text : List ℕ) → IsReadAs depth text (read text)

-- the land or the fault that a text has
abbrev pub answer_of : (depth : ℕ) (text : List ℕ) → LandOrFault depth text → Result Land DescFault
answer_of depth text (inl l) = Ok l.0
answer_of depth text (inr f) = Err f.0

-- it reads the text aright
pub answer_is_right : (depth : ℕ) (text : List ℕ) (answer : LandOrFault depth text) → IsReadAs depth text (answer_of depth text answer)
answer_is_right depth text (inl l) = l.1
answer_is_right depth text (inr f) = f.1

-- the reading that the law of answers gives
abbrev pub reading : (depth : ℕ) → EachTextIsAnswered depth → Reading depth
reading depth answered = record {
  read = λ text. answer_of depth text (answered text);
  right = λ text. answer_is_right depth text (answered text);
}

-- there is a reading
abbrev pub ThereIsAReading : ℕ → Type 0
ThereIsAReading depth = Reading depth

-- two readings give the same for each text
abbrev pub ReadingsAgree : ℕ → Type 0
ReadingsAgree depth = (r s : Reading depth) (text : List ℕ) → r.read text ≡ s.read text

-- a reading gives a land exactly where the text describes it
abbrev pub ReadingsGiveTheLand : ℕ → Type 0
ReadingsGiveTheLand depth = (r : Reading depth) (text : List ℕ) (l : Land) → (r.read text ≡ Ok l) ↔ Describes depth text l

-- a reading gives a fault exactly where the text has it
abbrev pub ReadingsGiveTheFault : ℕ → Type 0
ReadingsGiveTheFault depth = (r : Reading depth) (text : List ℕ) (f : DescFault) → (r.read text ≡ Err f) ↔ FaultOf depth text f
