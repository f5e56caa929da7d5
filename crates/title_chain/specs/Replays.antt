-- Steps whose posts are made again. Lists of steps here have the newest first.
use Rattle.std.specs.Prelude.{◌≡◌, ℕ, Bool, true, false, List, [], ◌∷◌}
use Rattle.title_land.specs.{declared.survey.Township.{Township}, Lands.{is_in_plant}}
use Rattle.title_store.specs.Plants.{Plant, SameContent}
use Rattle.title_chain.specs.{declared.ask.{Ask.{Ask}, Answer.{Answer}, Step.{Step}}, Asks.{tract_of, effect}, Alone.{after_steps}}
use Rattle.title_chain.specs.declared.ask.Ask.TheVariants as ask
use Rattle.title_chain.specs.declared.ask.Answer.TheVariants as answer

-- the step is a post that was done
abbrev pub was_posted : Ask → Answer → Bool
was_posted (ask.Sheet t) given = false
was_posted (ask.Chain t) given = false
was_posted (ask.Post p) (answer.Rows rows) = false
was_posted (ask.Post p) (answer.Entries entries) = false
was_posted (ask.Post p) answer.Posted = true
was_posted (ask.Post p) (answer.Refused rule estate node) = false

-- the step's tract is in the plant, and its ask changes nothing unless the step is a post that was done
abbrev pub CanReplay : ℕ → List Township → Plant → Step → Type 0
CanReplay depth townships plant s = (is_in_plant townships (tract_of s.ask) ≡ true)
    × (was_posted s.ask s.answer ≡ false → SameContent plant (effect depth townships plant s.ask))

-- so it is of each of these steps, after those before it
abbrev pub Replays : ℕ → List Township → Plant → List Step → Type 0
Replays depth townships plant [] = Unit {0}
Replays depth townships plant (s ∷ earlier) =
    Replays depth townships plant earlier × CanReplay depth townships (after_steps depth townships plant earlier) s
