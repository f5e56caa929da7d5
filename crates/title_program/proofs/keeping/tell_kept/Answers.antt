-- The literal is the line of a script that may count or not.
use Rattle.std.proofs.Common.{inl}
use Rattle.title_program.proofs.KeptTold.{unsure_line}
use Rattle.title_program.proofs.keeping.tell_kept.Goals as goal

pub returns-in-Unsure-clause-unsure : goal.returns-in-Unsure-clause-unsure
returns-in-Unsure-clause-unsure g c = λ is. rw unsure_line c.print.ensures.prints

pub returns-in-Unsure-clause-told : goal.returns-in-Unsure-clause-told
returns-in-Unsure-clause-told g c = λ other. rw c.in-Unsure.is (inl (rw unsure_line c.print.ensures.prints))
