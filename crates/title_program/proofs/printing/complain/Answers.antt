-- A failed sink is told, as far as the errors take it.
use Rattle.std.proofs.Common.{Bool, subst}
use Rattle.title_program.specs.{declared.status.Status.TheVariants.{Failure}, Obeying.{Complains, unwritten}}
use Rattle.title_program.proofs.Printed.{printed_part}
use Rattle.title_program.proofs.printing.complain.Goals as goal

pub returns-then-failed : goal.returns-then-failed
returns-then-failed g c = record {
  complains =
      let before = g.E.Sink.taken c.args.errors.now in
      let told = c.print-told.new.sink in
      let part =
      printed_part unwritten Failure before (g.E.Sink.taken told) (g.E.Sink.has_failed told) c.print-told.result
      c.print-told.ensures.prints in
      subst (λ (failed : Bool). Complains failed before (g.E.Sink.taken told)) c.if-failed.ensures.failed part;
}
