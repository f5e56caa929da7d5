-- What is kept of records, and the calls that serve records again. Lists of records, of calls and of steps have the newest first; a
-- record has its steps the oldest first.
use Rattle.std.specs.Prelude.{ℕ, suc, List, [], ◌∷◌, filter, length, reverse}
use Rattle.title_chain.specs.declared.{ask.Step.{Step}, record.Record.{Record}}
use Rattle.title_trace.specs.declared.call.Call.{Call}
use Rattle.title_trace.specs.declared.call.Request.TheVariants as request
use Rattle.title_trace.specs.declared.call.Reply.TheVariants as reply
use Rattle.title_desk.specs.Images.{is_posted}

-- what is kept of a record: its examiner, and those of its steps that were posted; reads and refused posts are left out
abbrev pub kept : Record → Record
kept r = record { examiner = r.examiner; steps = filter (λ s. is_posted s.ask s.answer) r.steps }

-- the trace after an examiner has asked for these steps and each got its answer
abbrev pub asked_by : ℕ → List Step → List Call → List Call
asked_by e [] before = before
asked_by e (s ∷ earlier) before =
    record { request = request.Step e s.ask; reply = reply.Answered s.answer } ∷ asked_by e earlier before

-- the calls that serve these records one after another, nobody else being open: each is begun, asked for its steps, and committed
-- in its place, which is its number from the oldest
abbrev pub replayed : List Record → List Call
replayed [] = []
replayed (r ∷ older) =
    record { request = request.Commit r.examiner; reply = reply.Committed (suc (length older)) }
    ∷ asked_by r.examiner (reverse r.steps)
    (record { request = request.Begin r.examiner; reply = reply.Began } ∷ replayed older)
