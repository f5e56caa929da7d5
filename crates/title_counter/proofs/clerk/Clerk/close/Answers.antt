-- Open transactions are aborted, and the headline is then true of the desk.
use Rattle.std.proofs.Common.{◌∙◌, ap}
use Rattle.title_trace.specs.Due.{Setting}
use Rattle.title_counter.{specs.{Closings.{with_aborts}, Views.{counter_of}}, proofs.RowLaws.{ends_of}}
use Rattle.title_counter.proofs.clerk.Clerk.close.Goals as goal

pub returns-clause-ends : goal.returns-clause-ends
returns-clause-ends c =
    let was = c.args.self.now in
    let es = c.abort_all.ensures.aborted.0 in
    ends_of (counter_of was) es c.abort_all.new.desk.setting c.abort_all.new.desk.trace _ _
    (c.abort_all.ensures.setting ∙ was.setting)
    (c.abort_all.ensures.aborted.1 ∙ ap (λ (s : Setting). with_aborts s was.desk.trace es) was.setting)
    c.abort_all.ensures.idle c.headline.ensures.headline
