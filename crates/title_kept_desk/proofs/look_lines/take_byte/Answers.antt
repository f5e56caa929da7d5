-- A line feed ends the line, and any other byte comes to it.
use Rattle.std.proofs.{Common.{◌≡◌, ◌==◌, arith, false, sym}, lemmas.{Bool.Decides.{nat_tests}, List.{append-nil}}}
use Rattle.title_kept_desk.proofs.LookLines.{on_ok}
use Rattle.title_kept_desk.proofs.look_lines.take_byte.Goals as goal

pub returns-then-byte-eq10-clause-put : goal.returns-then-byte-eq10-clause-put
returns-then-byte-eq10-clause-put c = rw c.if-byte-eq10.true c.put_line.ensures.put

pub returns-then-byte-eq10-clause-rest : goal.returns-then-byte-eq10-clause-rest
returns-then-byte-eq10-clause-rest c = rw c.if-byte-eq10.true c.put_line.ensures.next

pub returns-clause-put : goal.returns-clause-put
returns-clause-put c =
    let other : (c.args.byte == 10) ≡ false = grind (arith, nat_tests) in
    rw other (on_ok c.add_byte.result (sym (append-nil c.args.lines.now.items)))

pub returns-clause-rest : goal.returns-clause-rest
returns-clause-rest c = let other : (c.args.byte == 10) ≡ false = grind (arith, nat_tests) in rw other c.add_byte.ensures.added
