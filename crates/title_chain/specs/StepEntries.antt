-- The entries that steps give to the chain of a tract. Lists of steps here have the newest first.
use Rattle.std.specs.Prelude.{ℕ, cond, List, [], ◌∷◌, ◌++◌}
use Rattle.title_land.specs.{declared.tract.Land.{Land}, Lands.{meets}}
use Rattle.title_chain.specs.declared.ask.{Ask.{Ask}, Answer.{Answer}, Entry.{Entry}, Step.{Step}}
use Rattle.title_chain.specs.declared.ask.Ask.TheVariants as ask
use Rattle.title_chain.specs.declared.ask.Answer.TheVariants as answer

-- the entry that a step gives to the chain of a tract: it was posted, and its tract shares a cell
abbrev pub entry_of : ℕ → Land → Ask → Answer → List Entry
entry_of place land (ask.Sheet t) given = []
entry_of place land (ask.Chain t) given = []
entry_of place land (ask.Post p) (answer.Rows rows) = []
entry_of place land (ask.Post p) (answer.Entries entries) = []
entry_of place land (ask.Post p) answer.Posted = cond (meets land p.tract) (record { place = place; posting = p } ∷ []) []
entry_of place land (ask.Post p) (answer.Refused rule estate node) = []

-- the entries that these steps give, in order, each with this place
abbrev pub step_entries : ℕ → Land → List Step → List Entry
step_entries place land [] = []
step_entries place land (s ∷ earlier) = step_entries place land earlier ++ entry_of place land s.ask s.answer
