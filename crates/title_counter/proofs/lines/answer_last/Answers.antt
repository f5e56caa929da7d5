-- Where nothing of a line has come there is none; else it is the last.
use Rattle.std.proofs.Common.{◌∙◌, sym}
use Rattle.title_counter.{specs.{Views.{counter_of}, Laws.LineLaws.{no_last, one_last}}, proofs.AnswerLaws.{got_none}}
use Rattle.title_counter.proofs.lines.answer_last.Goals as goal

pub returns-then-is_empty-clause-answers : goal.returns-then-is_empty-clause-answers
returns-then-is_empty-clause-answers g c =
    let none = no_last c.args.line.now (sym c.is_empty.ensures.empty ∙ c.if-is_empty.true) in
    rw none (got_none (counter_of c.args.clerk.now) (g.S.Sink.taken c.args.sink.now) c.args.page.now)

pub returns-clause-answers : goal.returns-clause-answers
returns-clause-answers g c =
    let one = one_last c.args.line.now (sym c.is_empty.ensures.empty ∙ c.if-is_empty.false) in
    rw one c.answer_line.ensures.answers

pub returns-clause-lost : goal.returns-clause-lost
returns-clause-lost g c =
    let one = one_last c.args.line.now (sym c.is_empty.ensures.empty ∙ c.if-is_empty.false) in
    rw one c.answer_line.ensures.lost
