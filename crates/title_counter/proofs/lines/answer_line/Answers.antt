-- The rows of the line's answer are written.
use Rattle.title_counter.{specs.Views.{answered, counter_of}, proofs.{AnswerLaws.{got_one, lost_one}, OnResults.{err_then, ok_then}}}
use Rattle.title_counter.proofs.lines.answer_line.Goals as goal

pub returns-clause-answers : goal.returns-clause-answers
returns-clause-answers g c =
    let answer = answered c.take_line-answer.result c.take_line-answer.new.self in
    ok_then c.put.result c.put.ensures.written
    (λ written. got_one (counter_of c.args.clerk.now) c.args.line.now answer c.take_line-answer.ensures.answered written)

pub returns-clause-lost : goal.returns-clause-lost
returns-clause-lost g c =
    let answer = answered c.take_line-answer.result c.take_line-answer.new.self in
    err_then c.put.result c.put.ensures.stopped
    (λ stopped. lost_one (counter_of c.args.clerk.now) c.args.line.now answer c.take_line-answer.ensures.answered stopped)
