-- What a script goes on from whose steps are served elsewhere, and what stands after them. A list of what stands has the newest record
-- first; the records of a day have the oldest first.
use Rattle.std.specs.Prelude.{ℕ, List, Option, length, map, reverse}
use Rattle.title_chain.specs.declared.record.Record.{Record}
use Rattle.title_trace.specs.Due.{MayOpen}
use Rattle.title_plan.specs.{Asked.{Asked, asked_in}, declared.line.Schedule.{Schedule}}
use Rattle.title_standing.specs.Standing.{kept}
use Rattle.title_daybook.specs.Standing.{Standing}
use Rattle.title_lasting.specs.{Days.{declared_in}, Made.{HasStood, IsAsked}, Replays.{HasServed}, declared.footing.Footing.{Footing}}

-- a script's plan on top of what stood, and a desk that has served what stood under the townships of the plan
pub record IsFooting (sched : Schedule) (before : Standing) (left : Option (List ℕ)) (g : Footing) : Type 0 where
  pub asked : IsAsked sched (declared_in before) left (asked_in g.plan)
  pub opens : MayOpen (length g.plan.parties.keys) g.plan.townships.items
  pub served : HasServed (asked_in g.plan).townships before.records g.desk.value
  pub so_much : HasStood g.stood before

-- what stands after it: all that is declared, and what is kept of all its records
abbrev pub stands_on : Asked → List Record → Standing
stands_on asked records = record { townships = asked.townships; names = asked.names; records = map kept (reverse records) }
