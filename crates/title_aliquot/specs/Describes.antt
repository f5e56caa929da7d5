-- The land that a text describes, and the fault of a text that describes none.
use Rattle.std.specs.{Prelude.{◌≡◌, ℕ, ◌≤◌, ◌<◌, List, ◌++◌, length, take, drop, codes, ◌⊎◌}, Str.{chars}}
use Rattle.title_grammar.specs.Language.{Begins, FaultAt}
use Rattle.title_land.specs.declared.tract.Land.{Land}
use Rattle.title_aliquot.specs.{declared.fault.DescFault.{DescFault}, Grammar.{Syntax, Description}, Letters.{letters, offset}}
use Rattle.title_aliquot.specs.Meaning.{StandsFor, IsOutOfRange, IsTooSmall, IsOverlapping}
use Rattle.title_aliquot.specs.declared.fault.DescFault.TheVariants as fault

-- the most bytes that a description has
abbrev pub longest_text : ℕ
longest_text = 1000

-- the text isn't too long, and its letters say s
pub record Says (text : List ℕ) (s : Syntax) : Type 0 where
  pub short : length text ≤ longest_text
  pub spells : Description s (letters (chars text))

-- the text describes the land
abbrev pub Describes : ℕ → List ℕ → Land → Type 0
Describes depth text l = (s : Syntax) × Says text s × StandsFor depth s l

-- ---- faults

-- A step may begin after the letters p: the text n1/2, which is a step wherever the grammar has it, may stand there. Steps
-- all stand at the same letters, so one of them tells.
abbrev pub StepMayBegin : List ℕ → Type 0
StepMayBegin p = Begins Description (p ++ codes "n1/2")

-- letters begin with the word lot
abbrev pub BeginsWithLot : List ℕ → Type 0
BeginsWithLot r = (t : List ℕ) × (r ≡ codes "lot" ++ t)

-- the letters p go on with the word lot where a step may begin
abbrev pub IsLot : List ℕ → List ℕ → Type 0
IsLot p r = StepMayBegin p × BeginsWithLot r

-- The letters of a text that isn't too long are not in the grammar, and letter i is the first that no text of the
-- grammar has there; where i is their number, they end too early.
pub record BadLetter (text : List ℕ) (i : ℕ) : Type 0 where
  pub short : length text ≤ longest_text
  pub within : i ≤ length (letters (chars text))
  pub fault_at : FaultAt Description (take i (letters (chars text))) (drop i (letters (chars text)))

-- the fault at that letter is a lot's
abbrev pub LotAt : List ℕ → ℕ → Type 0
LotAt text i = IsLot (take i (letters (chars text))) (drop i (letters (chars text)))

-- a text that is too long has its fault at the first byte beyond the most; else it is that of the first bad letter, where this is no lot's
abbrev pub IsBadText : List ℕ → ℕ → Type 0
IsBadText text byte =
    ((longest_text < length text) × (byte ≡ longest_text))
    ⊎ ((i : ℕ) × BadLetter text i × (LotAt text i → ⊥) × (byte ≡ offset (chars text) i))

-- the text has a lot for its first bad letter
abbrev pub IsLots : List ℕ → Type 0
IsLots text = (i : ℕ) × BadLetter text i × LotAt text i

-- the first fault of a text that describes no land; want of memory is no fault of a text
abbrev pub FaultOf : ℕ → List ℕ → DescFault → Type 0
FaultOf depth text (fault.BadText byte) = IsBadText text byte
FaultOf depth text fault.Range = (s : Syntax) × Says text s × IsOutOfRange s
FaultOf depth text fault.TooSmall = (s : Syntax) × Says text s × IsTooSmall depth s
FaultOf depth text fault.Lots = IsLots text
FaultOf depth text fault.Overlap = (s : Syntax) × Says text s × IsOverlapping depth s
FaultOf depth text fault.Memory = ⊥
