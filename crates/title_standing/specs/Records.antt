-- Deeds as a record.
use Rattle.std.specs.Prelude.{map}
use Rattle.title_chain.specs.declared.{ask.{Posting.{Posting}, Step.{Step}}, record.Record.{Record}}
use Rattle.title_chain.specs.declared.ask.Ask.TheVariants as ask
use Rattle.title_chain.specs.declared.ask.Answer.TheVariants as answer
use Rattle.title_standing.specs.declared.deeds.Deeds.{Deeds}

-- a step that was posted
abbrev pub posted_step : Posting → Step
posted_step p = record { ask = ask.Post p; answer = answer.Posted }

-- the record of deeds: each of their posts was posted
abbrev pub record_of : Deeds → Record
record_of d = record { examiner = d.examiner; steps = map posted_step d.posts.items }
