-- What is held are the answers.
use Rattle.title_counter.specs.{Lines.{lines_from}, Views.{counter_of}}
use Rattle.title_kept_desk.proofs.HeldTexts.{held_text}
use Rattle.title_kept_desk.proofs.holding.hold_batch.Goals as goal

pub returns-in-Ok-clause-answers : goal.returns-in-Ok-clause-answers
returns-in-Ok-clause-answers c =
    held_text (counter_of c.args.clerk.now) (counter_of c.answer_batch.new.clerk) (lines_from c.args.line.now c.args.bytes.now).whole
    c.new-held.result.bytes.items c.answer_batch.new.sink.bytes.items c.new-held.ensures.empty c.in-Ok.ensures.answers
