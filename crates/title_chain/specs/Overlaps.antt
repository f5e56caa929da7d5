-- Steps that overlap an ask. Lists of steps here have the newest first.
use Rattle.std.specs.Prelude.{◌≡◌, ℕ, Bool, false, ◌||◌, List, [], ◌∷◌, reverse}
use Rattle.title_chain.specs.{declared.{ask.{Ask.{Ask}, Step.{Step}}, record.Record.{Record}}, Asks.{overlap}}

-- one of these steps overlaps the ask
abbrev pub overlaps : Ask → List Step → Bool
overlaps a [] = false
overlaps a (s ∷ earlier) = overlap a s.ask || overlaps a earlier

-- none of these steps overlaps one of those
abbrev pub Clear : List Step → List Step → Type 0
Clear [] theirs = Unit {0}
Clear (s ∷ earlier) theirs = Clear earlier theirs × (overlaps s.ask theirs ≡ false)

-- the record of an examiner's steps: it has them the oldest first
abbrev pub record_of : ℕ → List Step → Record
record_of e own = record { examiner = e; steps = reverse own }
