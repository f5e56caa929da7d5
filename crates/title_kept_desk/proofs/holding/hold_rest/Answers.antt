-- What is held are the answers.
use Rattle.title_counter.specs.{Lines.{last_line}, Views.{counter_of}}
use Rattle.title_kept_desk.proofs.HeldTexts.{held_text}
use Rattle.title_kept_desk.proofs.holding.hold_rest.Goals as goal

pub returns-in-Ok-clause-answers : goal.returns-in-Ok-clause-answers
returns-in-Ok-clause-answers c =
    held_text (counter_of c.args.clerk.now) (counter_of c.answer_rest.new.clerk) (last_line c.args.line.now)
    c.new-held.result.bytes.items c.answer_rest.new.sink.bytes.items c.new-held.ensures.empty c.in-Ok.ensures.answers
