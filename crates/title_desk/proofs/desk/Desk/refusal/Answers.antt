-- What bars an ask refuses the step of who is open.
use Rattle.std.proofs.Common.{◌≡◌, ◌∙◌, true, sym}
use Rattle.title_trace.specs.Trace.{is_open}
use Rattle.title_desk.proofs.Steps.{bars_due}
use Rattle.title_desk.proofs.desk.Desk.refusal.Goals as goal

pub returns-in-Some : goal.returns-in-Some
returns-in-Some g c =
    let opened : is_open c.args.examiner c.args.self.now.trace ≡ true =
    rw (← c.self.view_is) (sym (c.self.invariant.begun_are c.args.examiner) ∙ sym c.contains.ensures.found ∙ c.if-not-contains.false) in
    record { refusal = bars_due c.args.self.now c.args.examiner c.args.ask.now c.in-Some.why opened c.in-Some.ensures.bars }
