-- The program's command line, as clap sees it, what its matches mean, and why words are refused.
use Rattle.std.specs.Prelude.{◌≡◌, ◌≢◌, ◌⊎◌, ◌∷◌, ◌≤◌, ℕ, List, [], Bool, Option, Some, None, ⊤, codes, is_some, true, false}
use Rattle.std.specs.Str.Parse.{IsNumeral, digits_value, without_leading_plus}
use Rattle.clap.specs.{Kinds.{IsAmong, Kinds}, Faults.{fault_of}, Simple.{App, Shape, new_rule, new_shape, subcommand_of}, Takes.{takes}}
use Rattle.clap.specs.{Values.{IsUnsignedIn, bool_text}, Walk.{Row, Rule, Text, first_of, one_of}}
use Rattle.clap.specs.declared.builder.{action.ArgAction.TheVariants.{Set, SetTrue}, value_parser.ValueParser.TheVariants.{Unsigned}}
use Rattle.clap.specs.declared.error.kind.ErrorKind.{ErrorKind, TheVariants.{DisplayHelp, OutOfMemory, UnknownArgument}}
use Rattle.title_command.specs.declared.choice.Line.{Line, TheVariants.{Run, Alone, Office, Desk, Tract, Kept, KeptDesk, KeptOffice}}
use Rattle.title_command.specs.declared.choice.{Line.TheVariants.{Look, LookDesk, Check}, Work.{Work}, LineFault.{LineFault}}
use Rattle.title_command.specs.declared.choice.LineFault.TheVariants.{Help, Bad, Memory}
use Rattle.title_command.specs.declared.choice.Work.TheVariants as work

-- ---- the command

-- the greatest place that may be expected
abbrev pub most_place : ℕ
most_place = 18446744073709551615

-- the file in which a script is kept
abbrev pub plant_rule : Rule
plant_rule = record (new_rule (codes "plant")) { long = Some (codes "plant"); action = Some Set; value_names = 1 }

-- the last place that is expected there
abbrev pub after_rule : Rule
after_rule = record (new_rule (codes "after")) {
  long = Some (codes "after");
  action = Some Set;
  parser = Some (Unsigned 0 most_place);
  value_names = 1;
}

-- whether what stands there is only looked at
abbrev pub look_rule : Rule
look_rule = record (new_rule (codes "look")) { long = Some (codes "look"); action = Some SetTrue }

-- these two options may follow a command that serves a script
abbrev pub serving : Text → Shape
serving name = record (new_shape name) { rules = plant_rule ∷ after_rule ∷ [] }

abbrev pub run : Shape
run = serving (codes "run")

-- and of one after another this flag too
abbrev pub alone : Shape
alone = record (new_shape (codes "alone")) { rules = plant_rule ∷ after_rule ∷ look_rule ∷ [] }

-- at most so many examiners are at work at once, and a transaction is begun at most so many times
abbrev pub most_examiners : ℕ
most_examiners = 64

abbrev pub most_tries : ℕ
most_tries = 10000

-- the numbers of both where nothing is said
abbrev pub default_examiners : Text
default_examiners = codes "2"

abbrev pub default_tries : Text
default_tries = codes "100"

-- the option `--name` has a number from 1 to `most`, which is `default` where the option is left out
abbrev pub number_rule : Text → ℕ → Text → Rule
number_rule name most default = record (new_rule name) {
  long = Some name;
  action = Some Set;
  parser = Some (Unsigned 1 most);
  value_names = 1;
  defaults = default ∷ [];
}

-- how many examiners there are
abbrev pub examiners_rule : Rule
examiners_rule = number_rule (codes "examiners") most_examiners default_examiners

-- how often a transaction is begun
abbrev pub tries_rule : Rule
tries_rule = number_rule (codes "tries") most_tries default_tries

-- `office` is followed by these options, which may be left out
abbrev pub office : Shape
office = record (new_shape (codes "office")) { rules = examiners_rule ∷ tries_rule ∷ plant_rule ∷ after_rule ∷ [] }

-- `desk` may be followed by a plant's file, and by the flag
abbrev pub desk : Shape
desk = record (new_shape (codes "desk")) { rules = plant_rule ∷ look_rule ∷ [] }

-- a description of land, which has to be given
abbrev pub text_rule : Rule
text_rule = record (new_rule (codes "TEXT")) { required = true; action = Some Set }

-- `tract` is followed by one description
abbrev pub tract : Shape
tract = record (new_shape (codes "tract")) { rules = text_rule ∷ [] }

-- a plant's file, which has to be given
abbrev pub file_rule : Rule
file_rule = record (new_rule (codes "FILE")) { required = true; action = Some Set }

-- whether what stands there is told as a script
abbrev pub script_rule : Rule
script_rule = record (new_rule (codes "script")) { long = Some (codes "script"); action = Some SetTrue }

-- `check` is followed by a file, and the flag may stand before it or behind it
abbrev pub check : Shape
check = record (new_shape (codes "check")) { rules = file_rule ∷ script_rule ∷ [] }

-- the words of the program begin with a subcommand, and there is no subcommand `help`
abbrev pub titleplant : Shape
titleplant = record (new_shape (codes "titleplant")) {
  is_leaf = false;
  no_binary_name = true;
  subcommand_required = true;
  disable_help_subcommand = true;
}

-- the program's command
abbrev pub command : App
command = record { top = titleplant; subs = run ∷ alone ∷ office ∷ desk ∷ tract ∷ check ∷ [] }

-- ---- what the matches mean

-- the argument has a text, the getters read that text, and it is a number from 1 to `most`
abbrev pub HasNumber : Text → ℕ → List Row → Type 0
HasNumber id most rows =
    (text : Text) × (first_of id rows ≡ Some text) × (one_of id rows ≡ Some text) × IsUnsignedIn 1 most text

-- the expected place, where the words say one, is a text that the getters read and a number of 64 bits
abbrev pub MayHavePlace : List Row → Type 0
MayHavePlace rows = ((first_of (codes "after") rows ≡ None) × (one_of (codes "after") rows ≡ None))
    ⊎ ((text : Text) × (first_of (codes "after") rows ≡ Some text) × (one_of (codes "after") rows ≡ Some text)
    × IsUnsignedIn 0 most_place text)

-- the flag is a text of true or false that the getters read
abbrev pub HasFlag : Text → List Row → Type 0
HasFlag id rows = (b : Bool) × (first_of id rows ≡ Some (bool_text b)) × (one_of id rows ≡ Some (bool_text b))

-- the subcommand has the values that its line takes from it
abbrev pub IsReadable : Text → List Row → Type 0
IsReadable name rows = ((name ≡ codes "run") × MayHavePlace rows)
    ⊎ ((name ≡ codes "alone") × MayHavePlace rows × HasFlag (codes "look") rows)
    ⊎ ((name ≡ codes "office") × HasNumber (codes "examiners") most_examiners rows × HasNumber (codes "tries") most_tries rows
    × MayHavePlace rows)
    ⊎ ((name ≡ codes "desk") × HasFlag (codes "look") rows)
    ⊎ ((name ≡ codes "tract") × (is_some (first_of (codes "TEXT") rows) ≡ true))
    ⊎ ((name ≡ codes "check") × (is_some (first_of (codes "FILE") rows) ≡ true) × HasFlag (codes "script") rows)

-- the argument's text, or the default in its place, is a numeral of decimal digits, and n is its number
abbrev pub IsNumberOf : Text → List Row → ℕ → Type 0
IsNumberOf id rows n = (text : Text) × (first_of id rows ≡ Some text)
    × IsNumeral 10 (without_leading_plus text) × (n ≡ digits_value 10 (without_leading_plus text))

-- no plant is named, and so no place is expected
abbrev pub IsPlantless : List Row → Type 0
IsPlantless rows = (first_of (codes "plant") rows ≡ None) × (first_of (codes "after") rows ≡ None)

-- a look is asked for, or it isn't
abbrev pub IsLooked : List Row → Type 0
IsLooked rows = first_of (codes "look") rows ≡ Some (bool_text true)

abbrev pub IsUnlooked : List Row → Type 0
IsUnlooked rows = first_of (codes "look") rows ≡ Some (bool_text false)

-- what is served so is kept where a plant is named
abbrev pub IsKeeping : Work → List Row → Type 0
IsKeeping work.Run rows = Unit {0}
IsKeeping work.Alone rows = IsUnlooked rows

-- the expected place is the number that the words say, if they say one
abbrev pub IsAfter : List Row → Option ℕ → Type 0
IsAfter rows None = first_of (codes "after") rows ≡ None
IsAfter rows (Some place) = IsNumberOf (codes "after") rows place

-- the name of the command that serves a script so
abbrev pub name_of : Work → Text
name_of work.Run = codes "run"
name_of work.Alone = codes "alone"

-- the line is the subcommand of this name with its values
abbrev pub IsLine : Text → List Row → Line → Type 0
IsLine name rows Run = (name ≡ codes "run") × IsPlantless rows
IsLine name rows Alone = (name ≡ codes "alone") × IsPlantless rows × IsUnlooked rows
IsLine name rows (Office examiners tries) =
    (name ≡ codes "office") × IsNumberOf (codes "examiners") rows examiners × IsNumberOf (codes "tries") rows tries × IsPlantless rows
IsLine name rows Desk = (name ≡ codes "desk") × (first_of (codes "plant") rows ≡ None) × IsUnlooked rows
IsLine name rows (Tract text) =
    (name ≡ codes "tract") × (first_of (codes "TEXT") rows ≡ Some text.now)
IsLine name rows (Kept plant after how) =
    (name ≡ name_of how) × (first_of (codes "plant") rows ≡ Some plant.now) × IsAfter rows after × IsKeeping how rows
IsLine name rows (KeptDesk plant) =
    (name ≡ codes "desk") × (first_of (codes "plant") rows ≡ Some plant.now) × IsUnlooked rows
IsLine name rows (KeptOffice plant after examiners tries) =
    (name ≡ codes "office") × (first_of (codes "plant") rows ≡ Some plant.now) × IsAfter rows after
    × IsNumberOf (codes "examiners") rows examiners × IsNumberOf (codes "tries") rows tries
IsLine name rows (Look plant after) =
    (name ≡ codes "alone") × (first_of (codes "plant") rows ≡ Some plant.now) × IsAfter rows after × IsLooked rows
IsLine name rows (LookDesk plant) =
    (name ≡ codes "desk") × (first_of (codes "plant") rows ≡ Some plant.now) × IsLooked rows
IsLine name rows (Check file as_script) =
    (name ≡ codes "check") × (first_of (codes "FILE") rows ≡ Some file.now) × (first_of (codes "script") rows ≡ Some (bool_text as_script))

-- the line is the subcommand that was met
abbrev pub IsLineOf : Option (Text × List Row) → Line → Type 0
IsLineOf None line = ⊥
IsLineOf (Some met) line = IsLine met.0 met.1 line

-- an office has from one examiner, and from one try, to the most
abbrev pub IsInRange : Line → Type 0
IsInRange (Office examiners tries) = ((1 ≤ examiners) × (examiners ≤ most_examiners)) × ((1 ≤ tries) × (tries ≤ most_tries))
IsInRange (KeptOffice plant after examiners tries) =
    ((1 ≤ examiners) × (examiners ≤ most_examiners)) × ((1 ≤ tries) × (tries ≤ most_tries))
IsInRange line = ⊤

-- ---- why words are refused

-- the fault that stands for an error of this kind
abbrev pub IsFaultFor : ErrorKind → LineFault → Type 0
IsFaultFor kind (Help error) = kind ≡ DisplayHelp
IsFaultFor kind (Bad error) = (kind ≢ DisplayHelp) × (kind ≢ OutOfMemory)
IsFaultFor kind Memory = kind ≡ OutOfMemory

-- a place is expected, or a look is asked for, and no plant is named
abbrev pub LacksPlant : Option (Text × List Row) → Type 0
LacksPlant None = ⊥
LacksPlant (Some met) =
    ((is_some (first_of (codes "after") met.1) ≡ true) ⊎ IsLooked met.1) × (first_of (codes "plant") met.1 ≡ None)

-- clap takes the words, and where they expect a place or ask for a look they name a plant
abbrev pub IsTaken : List Text → Type 0
IsTaken words = (takes command words ≡ true) × (LacksPlant (subcommand_of command words) → ⊥)

-- there is an error of a kind that isn't help
abbrev pub HasError : Kinds → Type 0
HasError kinds = (kind : ErrorKind) × (kind ≢ DisplayHelp) × IsAmong kind kinds

-- Help comes where clap shows help for the words, and Bad where it has an error of another kind for
-- them or they lack a plant; memory may run out at any words
abbrev pub Explains : List Text → LineFault → Type 0
Explains words (Help error) = IsAmong DisplayHelp (fault_of command words)
Explains words (Bad error) = HasError (fault_of command words) ⊎ LacksPlant (subcommand_of command words)
Explains words Memory = Unit {0}

-- ---- what some words say

-- the words are taken, and this line alone is what they say
abbrev pub Says : List Text → Line → Type 0
Says words line = (takes command words ≡ true) × ((other : Line) → IsLineOf (subcommand_of command words) other → other ≡ line)

-- `office` alone is one of two examiners and a hundred tries
abbrev pub OfficeByDefault : Type 0
OfficeByDefault = Says (codes "office" ∷ []) (Office 2 100)

-- an office may have the most of both
abbrev pub OfficeAtMost : Type 0
OfficeAtMost = Says
    (codes "office" ∷ codes "--examiners" ∷ codes "64" ∷ codes "--tries" ∷ codes "10000" ∷ [])
    (Office most_examiners most_tries)

-- the line keeps the script of an office in the file of this name, so
abbrev pub IsOfficeOn : Text → Option ℕ → (examiners tries : ℕ) → Line → Type 0
IsOfficeOn plant after examiners tries (KeptOffice named expected e t) =
    (named.now ≡ plant) × (expected ≡ after) × (e ≡ examiners) × (t ≡ tries)
IsOfficeOn plant after examiners tries line = ⊥

-- with a plant's file an office keeps its script there
abbrev pub OfficeOnPlant : Type 0
OfficeOnPlant =
    IsTaken (codes "office" ∷ codes "--plant" ∷ codes "county.plant" ∷ codes "--examiners" ∷ codes "3" ∷ [])
    × ((line : Line)
    → IsLineOf (subcommand_of command (codes "office" ∷ codes "--plant" ∷ codes "county.plant" ∷ codes "--examiners" ∷ codes "3" ∷ []))
    line → IsOfficeOn (codes "county.plant") None 3 100 line)

-- `desk` alone is a desk
abbrev pub DeskByWord : Type 0
DeskByWord = Says (codes "desk" ∷ []) Desk

-- the line is a desk on top of the file of this name
abbrev pub IsDeskOn : Text → Line → Type 0
IsDeskOn plant (KeptDesk named) = named.now ≡ plant
IsDeskOn plant line = ⊥

-- with a plant's file it is a desk on top of that
abbrev pub DeskOnPlant : Type 0
DeskOnPlant =
    IsTaken (codes "desk" ∷ codes "--plant" ∷ codes "county.plant" ∷ [])
    × ((line : Line) → IsLineOf (subcommand_of command (codes "desk" ∷ codes "--plant" ∷ codes "county.plant" ∷ [])) line
    → IsDeskOn (codes "county.plant") line)

-- and it expects no place
abbrev pub DeskWithMore : Type 0
DeskWithMore = fault_of command (codes "desk" ∷ codes "--after" ∷ codes "3" ∷ []) ≡ UnknownArgument ∷ []

-- the line keeps a script in the file of this name, so
abbrev pub IsKept : Text → Option ℕ → Work → Line → Type 0
IsKept plant after how (Kept named expected by) = (named.now ≡ plant) × (expected ≡ after) × (by ≡ how)
IsKept plant after how line = ⊥

-- the words are taken, and keep a script so
abbrev pub SaysKept : List Text → Text → Option ℕ → Work → Type 0
SaysKept words plant after how =
    IsTaken words × ((line : Line) → IsLineOf (subcommand_of command words) line → IsKept plant after how line)

-- `alone` with a plant's file keeps a script in it, and may expect the greatest of all places there
abbrev pub KeptByWords : Type 0
KeptByWords =
    SaysKept (codes "alone" ∷ codes "--plant" ∷ codes "county.plant" ∷ []) (codes "county.plant") None work.Alone
    × SaysKept (codes "run" ∷ codes "--after=18446744073709551615" ∷ codes "--plant=county.plant" ∷ []) (codes "county.plant")
    (Some most_place) work.Run

-- a place that is expected in no plant
abbrev pub PlaceAlone : Type 0
PlaceAlone = LacksPlant (subcommand_of command (codes "run" ∷ codes "--after" ∷ codes "3" ∷ []))

-- the line looks at the file of this name, so
abbrev pub IsLookAt : Text → Option ℕ → Line → Type 0
IsLookAt plant after (Look named expected) = (named.now ≡ plant) × (expected ≡ after)
IsLookAt plant after line = ⊥

-- the line is a desk that looks at the file of this name
abbrev pub IsDeskLookAt : Text → Line → Type 0
IsDeskLookAt plant (LookDesk named) = named.now ≡ plant
IsDeskLookAt plant line = ⊥

-- `alone` and `desk` with a plant's file and the flag look at it
abbrev pub LookByWords : Type 0
LookByWords =
    (IsTaken (codes "alone" ∷ codes "--plant" ∷ codes "county.plant" ∷ codes "--look" ∷ [])
    × ((line : Line)
    → IsLineOf (subcommand_of command (codes "alone" ∷ codes "--plant" ∷ codes "county.plant" ∷ codes "--look" ∷ [])) line
    → IsLookAt (codes "county.plant") None line))
    × (IsTaken (codes "desk" ∷ codes "--look" ∷ codes "--plant=county.plant" ∷ [])
    × ((line : Line) → IsLineOf (subcommand_of command (codes "desk" ∷ codes "--look" ∷ codes "--plant=county.plant" ∷ [])) line
    → IsDeskLookAt (codes "county.plant") line))

-- a look at no plant
abbrev pub LookAlone : Type 0
LookAlone =
    LacksPlant (subcommand_of command (codes "alone" ∷ codes "--look" ∷ []))
    × LacksPlant (subcommand_of command (codes "desk" ∷ codes "--look" ∷ []))

-- transactions that are interleaved don't look alone
abbrev pub LookOfRun : Type 0
LookOfRun = fault_of command (codes "run" ∷ codes "--look" ∷ []) ≡ UnknownArgument ∷ []

-- the words that follow `office` are refused for this kind of error
abbrev pub Refuses : List Text → ErrorKind → Type 0
Refuses words kind = fault_of command (codes "office" ∷ words) ≡ kind ∷ []
