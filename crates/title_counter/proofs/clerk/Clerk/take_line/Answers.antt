-- A line is answered by what is found in it.
use Rattle.std.proofs.Common.{◌∙◌, inr, sym}
use Rattle.title_counter.{specs.{Founds.{found_of}, Views.{answered, counter_of}}, proofs.RowLaws.{line_answered, line_too_long}}
use Rattle.title_counter.proofs.clerk.Clerk.take_line.Goals as goal

pub returns-then-is_long-clause-answered : goal.returns-then-is_long-clause-answered
returns-then-is_long-clause-answered c =
    line_too_long (counter_of c.args.self.now) c.args.line.now (answered c.pass_over.result c.pass_over.new.self)
    (sym c.is_long.ensures.long ∙ c.if-is_long.true) c.pass_over.ensures.answered

pub returns-in-Ok-clause-answered : goal.returns-in-Ok-clause-answered
returns-in-Ok-clause-answered c =
    line_answered (counter_of c.args.self.now) c.args.line.now (found_of c.in-Ok.found) (answered c.take_found.result c.take_found.new.self)
    (sym c.is_long.ensures.long ∙ c.if-is_long.false)
    (rw c.end.ensures.line at c.in-Ok.ensures.found) c.take_found.ensures.answered

pub returns-in-Err-clause-answered : goal.returns-in-Err-clause-answered
returns-in-Err-clause-answered c = inr c.pass_over-in-Err.ensures.answered
