-- The rows of an office's report that tell what came of its transactions.
use Rattle.std.specs.{Prelude.{ℕ, List, [], ◌∷◌, codes}, Fmt.{decimal}}
use Rattle.title_day.specs.declared.tally.Tally.{Tally}

-- the row of a tally: `E,done,COMMITTED,ABORTED,GIVENUP`
abbrev pub tally_row : Tally → List (List ℕ)
tally_row t = decimal t.examiner ∷ codes "done" ∷ decimal t.committed ∷ decimal t.aborted ∷ decimal t.given_up ∷ []

-- the row that counts the committed records: `settled,K`
abbrev pub settled_row : ℕ → List (List ℕ)
settled_row records = codes "settled" ∷ decimal records ∷ []
