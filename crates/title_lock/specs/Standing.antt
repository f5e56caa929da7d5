-- Entries that stand without overlap, and that they are granted by modes.
use Rattle.std.specs.Prelude.{ℕ, List, [], ◌∷◌, None}
use Rattle.title_lock.specs.{declared.guards.Entry.{Entry}, Overlaps.{is_post, Stands, without}, Asking.{AllGranted, AreSized}}

-- nobody was in the way of any entry when it came
abbrev pub StandFree : List Entry → Type 0
StandFree [] = Unit {0}
StandFree (x ∷ older) = StandFree older × Stands older x.examiner x.tract (is_post x.access) None

-- entries that stand so are all granted by modes
abbrev pub FreeAreGranted : ℕ → Type 0
FreeAreGranted depth = (entries : List Entry) → AreSized depth entries → StandFree entries → AllGranted depth entries

-- entries that are granted by modes stand so
abbrev pub GrantedAreFree : ℕ → Type 0
GrantedAreFree depth = (entries : List Entry) → AreSized depth entries → AllGranted depth entries → StandFree entries

-- what is left when an examiner gives its locks back stands so, too
abbrev pub LeftStandFree : Type 0
LeftStandFree = (e : ℕ) (entries : List Entry) → StandFree entries → StandFree (without e entries)
