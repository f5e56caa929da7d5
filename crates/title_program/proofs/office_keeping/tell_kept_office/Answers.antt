-- As that of any script on top of a file.
use Rattle.std.proofs.Common.{ap}
use Rattle.title_program.proofs.KeptTold.{ends_by}
use Rattle.title_program.proofs.office_keeping.tell_kept_office.Goals as goal

pub returns-in-Kept-clause-told : goal.returns-in-Kept-clause-told
returns-in-Kept-clause-told g c =
    rw c.in-Kept.is (ends_by c.in-Kept.fault (g.W.Sink.taken c.args.sink.now) (g.W.Sink.taken c.tell_kept.new.sink)
    (g.W.Sink.has_failed c.args.sink.now) (g.W.Sink.has_failed c.tell_kept.new.sink) c.tell_kept.result
    (λ is. (ap g.W.Sink.taken (c.tell_kept.ensures.cut is), ap g.W.Sink.has_failed (c.tell_kept.ensures.cut is)))
    c.tell_kept.ensures.unsure c.tell_kept.ensures.told c.tell_kept.ensures.status)
