-- What an examiner's act asks, and what comes of it.
use Rattle.std.specs.Prelude.{ℕ, List, Option, Some, None, Result, Ok, Err}
use Rattle.title_aliquot.specs.declared.fault.DescFault.{DescFault}
use Rattle.title_instrument.specs.declared.instrument.Instrument.{Instrument}
use Rattle.title_chain.specs.declared.ask.Ask.{Ask}
use Rattle.title_chain.specs.declared.ask.Ask.TheVariants as ask
use Rattle.title_trace.specs.declared.call.Request.{Request}
use Rattle.title_trace.specs.declared.call.Request.TheVariants as request
use Rattle.title_plan.specs.declared.{fault.ScriptFault.{ScriptFault}, line.Schedule.{Schedule}, row.Act.{Act}}
use Rattle.title_plan.specs.declared.fault.ScriptFault.TheVariants as fault
use Rattle.title_plan.specs.declared.line.Line.TheVariants as line
use Rattle.title_plan.specs.declared.row.Act.TheVariants as act
use Rattle.title_plan.specs.{Asked.{Asked}, Lands.{land_in}}
use Rattle.title_plan.specs.Plans.{after_asked, asked_of, numbered, post, with_begun, with_ended, with_line}

-- the step of an examiner, or the fault of its description
abbrev pub step_of : ℕ → Result Ask DescFault → Result Request DescFault
step_of e (Ok a) = Ok (request.Step e a)
step_of e (Err why) = Err why

-- a post; at fault where one of its parties isn't declared
abbrev pub post_of : ℕ → ℕ → ℕ → Option (Instrument ℕ) → List ℕ → Result (Result Request DescFault) ScriptFault
post_of n e doc None text = Err (fault.Party n)
post_of n e doc (Some instrument) text = Ok (step_of e (asked_of (post doc instrument) (land_in text)))

-- what an examiner's act asks in the n-th row, among parties with these names
abbrev pub request_of : ℕ → List (List ℕ) → ℕ → Act (List ℕ) → Result (Result Request DescFault) ScriptFault
request_of n names e act.Begin = Ok (Ok (request.Begin e))
request_of n names e act.Commit = Ok (Ok (request.Commit e))
request_of n names e act.Abort = Ok (Ok (request.Abort e))
request_of n names e (act.Sheet text) = Ok (step_of e (asked_of ask.Sheet (land_in text)))
request_of n names e (act.Chain text) = Ok (step_of e (asked_of ask.Chain (land_in text)))
request_of n names e (act.Post doc instrument text) = post_of n e doc (numbered names instrument) text

-- after a request of an examiner in its turn, or after its description that is none
abbrev pub after_request : Schedule → ℕ → Asked → ℕ → Result Request DescFault → Result Asked ScriptFault
after_request sched n asked e (Ok (request.Begin f)) = Ok (with_line asked (line.Asks (request.Begin f)) (with_begun sched asked.inside f))
after_request sched n asked e (Ok (request.Commit f)) = Ok (with_line asked (line.Asks (request.Commit f)) (with_ended asked.inside f))
after_request sched n asked e (Ok (request.Abort f)) = Ok (with_line asked (line.Asks (request.Abort f)) (with_ended asked.inside f))
after_request sched n asked e (Ok (request.Step f a)) = after_asked sched n asked f (Ok a)
after_request sched n asked e (Err why) = after_asked sched n asked e (Err why)

abbrev pub after_asking : (Result Request DescFault → Result Asked ScriptFault) → Result (Result Request DescFault) ScriptFault
    → Result Asked ScriptFault
after_asking after (Ok asks) = after asks
after_asking after (Err e) = Err e
