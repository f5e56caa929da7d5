-- The answer to the last line, and what stands on the page.
use Rattle.title_counter.{specs.{Lines.{last_line}, Views.{counter_of}}, proofs.Batches.{lost_in, lost_last, passed_on}}
use Rattle.title_counter.proofs.OnResults.{err_then, ok_both, on_err}
use Rattle.title_counter.proofs.lines.answer_rest.Goals as goal

pub returns-in_err-last-clause-lost : goal.returns-in_err-last-clause-lost
returns-in_err-last-clause-lost g c =
    on_err c.from_residual.result
    (lost_in c.requires.empty (counter_of c.args.clerk.now) (counter_of c.answer_last-last.new.clerk) (last_line c.args.line.now)
    (rw c.in_err-last.was at c.answer_last-last.ensures.lost))

pub returns-clause-answers : goal.returns-clause-answers
returns-clause-answers g c =
    ok_both c.pass.result c.pass.ensures.written c.pass.ensures.empty
    (λ u none. passed_on c.requires.empty (counter_of c.args.clerk.now) (counter_of c.answer_last-last.new.clerk)
    (last_line c.args.line.now) (rw c.in_ok-last.was at c.answer_last-last.ensures.answers) u none)

pub returns-clause-lost : goal.returns-clause-lost
returns-clause-lost g c =
    err_then c.pass.result c.pass.ensures.stopped
    (λ v. lost_last c.requires.empty (counter_of c.args.clerk.now) (counter_of c.answer_last-last.new.clerk)
    (last_line c.args.line.now) (rw c.in_ok-last.was at c.answer_last-last.ensures.answers) v)
