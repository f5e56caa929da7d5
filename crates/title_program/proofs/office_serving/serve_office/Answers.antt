-- A fault of the sink ends the output where the run left it, and any other is told.
use Rattle.std.proofs.Common.{ap}
use Rattle.title_program.proofs.OfficeTold.{failed_is_served}
use Rattle.title_program.proofs.office_serving.serve_office.Goals as goal

pub returns-in-Err-clause-served : goal.returns-in-Err-clause-served
returns-in-Err-clause-served g c =
    failed_is_served c.args.examiners (g.R.Source.left c.args.source.now) (g.W.Sink.taken c.args.sink.now)
    (g.W.Sink.taken c.run_office.new.sink) (g.W.Sink.taken c.tell_office.new.sink) (g.R.Source.has_failed c.run_office.new.source)
    (g.W.Sink.has_failed c.run_office.new.sink) (g.W.Sink.has_failed c.tell_office.new.sink) c.in-Err.why c.tell_office.result
    c.in-Err.ensures.run.why c.in-Err.ensures.run.written
    (λ is. (ap g.W.Sink.taken (c.tell_office.ensures.cut is), ap g.W.Sink.has_failed (c.tell_office.ensures.cut is)))
    c.tell_office.ensures.told c.tell_office.ensures.status
