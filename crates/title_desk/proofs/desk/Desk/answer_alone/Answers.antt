-- The record and the three calls of a transaction whose step posts nothing are added.
use Rattle.std.proofs.Common.{refl}
use Rattle.title_desk.proofs.{States.{keeps_as}, Singles.{keeps_read, added, told_single}}
use Rattle.title_trace.specs.declared.call.Reply.TheVariants.{Answered}
use Rattle.title_desk.proofs.desk.Desk.answer_alone.Goals as goal

pub invariant_of-self-2 : goal.invariant_of-self-2
invariant_of-self-2 g c =
    let new = added _ _ _ _ _ c.self.invariant c.args.examiner c.args.ask c.args.answer refl
    c.prepare_answer.ensures.records c.in-Ok.ensures.steps c.add_done-self-inside.ensures.records c.add_done-self-inside.ensures.calls in
    keeps_as (keeps_read c.self.invariant (rw (← c.self.view_is) at c.requires.idle) c.args.examiner c.args.ask c.args.answer
    (rw (← c.self.view_is) at c.requires.stands) (rw (← c.self.view_is) at c.requires.alone) c.requires.unposted) new.0 new.1 refl refl
    (λ d. refl) refl refl

pub returns : goal.returns
returns g c =
    let new = added _ _ _ _ _ c.self.invariant c.args.examiner c.args.ask c.args.answer refl
    c.prepare_answer.ensures.records c.in-Ok.ensures.steps c.add_done-self-inside.ensures.records c.add_done-self-inside.ensures.calls in
    let k = keeps_read c.self.invariant (rw (← c.self.view_is) at c.requires.idle) c.args.examiner c.args.ask c.args.answer
    (rw (← c.self.view_is) at c.requires.stands) (rw (← c.self.view_is) at c.requires.alone) c.requires.unposted in
    record { told = told_single c.self.view_is c.args.examiner c.args.ask (Answered c.args.answer) refl new.0 k.due }
