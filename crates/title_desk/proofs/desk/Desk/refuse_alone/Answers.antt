-- The three calls of a transaction whose step is refused are added.
use Rattle.std.proofs.Common.{refl}
use Rattle.title_trace.specs.declared.call.Reply.TheVariants.{Denied}
use Rattle.title_desk.proofs.Singles.{keeps_barred, told_single}
use Rattle.title_desk.proofs.desk.Desk.refuse_alone.Goals as goal

pub invariant_of-self : goal.invariant_of-self
invariant_of-self g c = rw c.with_single-self-inside.ensures.calls (keeps_barred c.self.invariant
    (rw (← c.self.view_is) at c.requires.idle) c.args.examiner c.args.ask c.args.why (rw (← c.self.view_is) at c.requires.bars))

pub returns : goal.returns
returns g c =
    let k = keeps_barred c.self.invariant (rw (← c.self.view_is) at c.requires.idle) c.args.examiner c.args.ask c.args.why
    (rw (← c.self.view_is) at c.requires.bars) in
    record {
      told = told_single c.self.view_is c.args.examiner c.args.ask (Denied c.args.why) refl c.with_single-self-inside.ensures.calls k.due;
    }
