-- A step that posted nothing is added, or all stays as it was.
use Rattle.std.proofs.Common.{refl, sym, ◌∙◌}
use Rattle.title_desk.proofs.{States.{keeps_as}, Steps.{keeps_answered, on_good, on_bad}}
use Rattle.title_desk.proofs.desk.Desk.add_answer.Goals as goal

pub add_step-requires : goal.add_step-requires
add_step-requires g c =
    let passes = rw (← c.self.view_is) at c.requires.passes in
    record { opened = c.self.invariant.begun_are c.args.examiner ∙ passes.0.0 }

pub invariant_of-self : goal.invariant_of-self
invariant_of-self g c =
    let failed = sym c.is_err.ensures.value ∙ c.if-is_err.true in
    keeps_as c.self.invariant refl refl (on_bad c.add_step.result _ failed c.add_step.ensures.err) refl (λ d. refl) refl refl

pub invariant_of-self-2 : goal.invariant_of-self-2
invariant_of-self-2 g c =
    let done = sym c.is_err.ensures.value ∙ c.if-is_err.false in
    keeps_as (keeps_answered c.args.examiner c.args.ask c.args.answer c.self.invariant (rw (← c.self.view_is) at c.requires.passes)
    (rw (← c.self.view_is) at c.requires.alone) c.requires.unposted) c.then-self-inside.ensures.then refl
    (rw c.in-Ok.ensures.step at (on_good c.add_step.result _ done c.add_step.ensures.added)) c.lock.ensures.locked (λ d. refl) refl refl
