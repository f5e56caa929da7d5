-- What one ask is answered, and what it does to the plant.
use Rattle.std.specs.Prelude.{ℕ, Bool, true, false, ◌&&◌, ◌||◌, List, Option, Some, None}
use Rattle.title_land.specs.{declared.{survey.Township.{Township}, tract.Land.{Land}}, Lands.{meets}}
use Rattle.title_instrument.specs.{declared.parts.Cause.{Cause}, Check.{first_cause}}
use Rattle.title_store.specs.{Plants.{Plant, Refusal, refused_in, plant_effect}, Sheets.{sheet_of}}
use Rattle.title_chain.specs.declared.ask.{Ask.{Ask}, Answer.{Answer}, Entry.{Entry}}
use Rattle.title_chain.specs.declared.ask.Ask.TheVariants as ask
use Rattle.title_chain.specs.declared.ask.Answer.TheVariants as answer

abbrev pub tract_of : Ask → Land
tract_of (ask.Sheet t) = t
tract_of (ask.Chain t) = t
tract_of (ask.Post p) = p.tract

abbrev pub is_post : Ask → Bool
is_post (ask.Sheet t) = false
is_post (ask.Chain t) = false
is_post (ask.Post p) = true

-- the first cause why an ask can't stand among so many parties; a read always can
abbrev pub cause_of : ℕ → Ask → Option Cause
cause_of parties (ask.Sheet t) = None
cause_of parties (ask.Chain t) = None
cause_of parties (ask.Post p) = first_cause parties p.instrument

-- two asks overlap where their tracts share a cell and one at least is a post; a post that is refused is a post
abbrev pub overlap : Ask → Ask → Bool
overlap a b = (is_post a || is_post b) && meets (tract_of a) (tract_of b)

-- the plant after one ask
unfoldable pub effect : ℕ → List Township → Plant → Ask → Plant
effect depth townships plant (ask.Sheet t) = plant
effect depth townships plant (ask.Chain t) = plant
effect depth townships plant (ask.Post p) = plant_effect depth townships p.instrument plant p.tract

abbrev pub post_answer : Option Refusal → Answer
post_answer None = answer.Posted
post_answer (Some r) = answer.Refused r.rule r.estate r.node

-- the answer to an ask, from the plant and the chain of the ask's tract
unfoldable pub answer_to : ℕ → List Township → Plant → List Entry → Ask → Answer
answer_to depth townships plant chain (ask.Sheet t) = answer.Rows (sheet_of depth townships plant t)
answer_to depth townships plant chain (ask.Chain t) = answer.Entries chain
answer_to depth townships plant chain (ask.Post p) = post_answer (refused_in depth townships p.instrument plant p.tract)
