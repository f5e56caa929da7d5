-- What a reader's answers say of the letters and texts that it read.
use Rattle.std.specs.Prelude.{◌≡◌, ℕ, ◌≤◌, true, false, List, length, take, drop, Result, Ok, Err, ◌⊎◌}
use Rattle.title_grammar.specs.Language.{FaultAt}
use Rattle.title_land.specs.declared.{rectangle.Step.{Step}, tract.Land.{Land}}
use Rattle.title_aliquot.specs.{declared.{describe.Unread.{Unread}, fault.DescFault.{DescFault}, syntax.Words.{Words}}, Views.{words_view}}
use Rattle.title_aliquot.specs.Grammar.{Syntax, Description}
use Rattle.title_aliquot.specs.Meaning.{IsOutOfRange, IsTooSmall, IsOverlapping, parts_exist, rectangles, Overlap}
use Rattle.title_aliquot.specs.declared.describe.Unread.TheVariants as unread
use Rattle.title_aliquot.specs.declared.fault.DescFault.TheVariants as fault

-- the index of the first letter that no text of the grammar has there, or want of memory
abbrev pub Refused : Unread → List ℕ → Type 0
Refused (unread.Letter i) s = (i ≤ length s) × FaultAt Description (take i s) (drop i s)
Refused unread.Memory s = Unit {0}

-- what the letters say, or why they say nothing
abbrev pub Answers : Result Words Unread → List ℕ → Type 0
Answers (Ok t) s = Description (words_view t) s
Answers (Err e) s = Refused e s

-- the fault of a section's parts
abbrev pub PartsFailBy : ℕ → List (List Step) → DescFault → Type 0
PartsFailBy depth parts (fault.BadText byte) = ⊥
PartsFailBy depth parts fault.Range = ⊥
PartsFailBy depth parts fault.TooSmall = parts_exist depth parts ≡ false
PartsFailBy depth parts fault.Lots = ⊥
PartsFailBy depth parts fault.Overlap = (parts_exist depth parts ≡ true) × Overlap (rectangles depth parts)
PartsFailBy depth parts fault.Memory = ⊥

-- the fault of what a text says
abbrev pub FailsBy : ℕ → Syntax → DescFault → Type 0
FailsBy depth s (fault.BadText byte) = ⊥
FailsBy depth s fault.Range = IsOutOfRange s
FailsBy depth s fault.TooSmall = IsTooSmall depth s
FailsBy depth s fault.Lots = ⊥
FailsBy depth s fault.Overlap = IsOverlapping depth s
FailsBy depth s fault.Memory = ⊥

-- the answer where a text describes the land: a tract of it, or want of memory
abbrev pub IsTractOf : Land → Result Land DescFault → Type 0
IsTractOf l (Ok m) = m ≡ l
IsTractOf l (Err e) = e ≡ fault.Memory

-- the answer where a text has the fault: it, or want of memory
abbrev pub IsFault : DescFault → Result Land DescFault → Type 0
IsFault f (Ok m) = ⊥
IsFault f (Err e) = (e ≡ f) ⊎ (e ≡ fault.Memory)
