-- A line feed ends the line, and any other byte comes to it.
use Rattle.std.proofs.{Common.{◌≡◌, ◌==◌, arith, false}, lemmas.Bool.Decides.{nat_tests}}
use Rattle.title_counter.{specs.Views.{counter_of}, proofs.AnswerLaws.{got_none}}
use Rattle.title_counter.proofs.lines.answer_byte.Goals as goal

pub returns-then-byte-eq10-clause-answers : goal.returns-then-byte-eq10-clause-answers
returns-then-byte-eq10-clause-answers g c = rw c.if-byte-eq10.true c.answer_line.ensures.answers

pub returns-then-byte-eq10-clause-lost : goal.returns-then-byte-eq10-clause-lost
returns-then-byte-eq10-clause-lost g c = rw c.if-byte-eq10.true c.answer_line.ensures.lost

pub returns-then-byte-eq10-clause-rest : goal.returns-then-byte-eq10-clause-rest
returns-then-byte-eq10-clause-rest g c = rw c.if-byte-eq10.true c.answer_line.ensures.next

pub returns-clause-answers : goal.returns-clause-answers
returns-clause-answers g c =
    let other : (c.args.byte == 10) ≡ false = grind (arith, nat_tests) in
    rw other (got_none (counter_of c.args.clerk.now) (g.S.Sink.taken c.args.sink.now) c.args.page.now)

pub returns-clause-rest : goal.returns-clause-rest
returns-clause-rest g c = let other : (c.args.byte == 10) ≡ false = grind (arith, nat_tests) in rw other c.add.ensures.added
