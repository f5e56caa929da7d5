-- The lines begin with nothing.
use Rattle.title_kept_desk.proofs.look_desk.answer_lines.Goals as goal

pub returns-clause-answers : goal.returns-clause-answers
returns-clause-answers g c = rw c.new-start.ensures.empty at c.answer_batch.ensures.answers

pub returns-clause-lost : goal.returns-clause-lost
returns-clause-lost g c = rw c.new-start.ensures.empty at c.answer_batch.ensures.lost
