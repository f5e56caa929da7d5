-- The warning is printed as far as the errors take it.
use Rattle.std.proofs.Common.{codes}
use Rattle.title_program.{specs.declared.status.Status.TheVariants.{Misunderstood}, proofs.Printed.{printed_part}}
use Rattle.title_program.proofs.words.refuse_untaken.Goals as goal

pub returns-in-NotText-clause-told : goal.returns-in-NotText-clause-told
returns-in-NotText-clause-told g c = rw c.in-NotText.is
    (printed_part (codes "error: a word of the command line isn't UTF-8\n") Misunderstood (g.E.Sink.taken c.args.errors.now)
    (g.E.Sink.taken c.print.new.sink) (g.E.Sink.has_failed c.print.new.sink) c.print.result c.print.ensures.prints)
