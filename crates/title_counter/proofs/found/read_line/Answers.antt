-- No record, more than one, and one whose fields go over their line or don't.
use Rattle.std.proofs.Common.{sym}
use Rattle.title_counter.{specs.Positions.{read_in}, proofs.RecordsOf.{found_more, found_none, found_over, found_row}}
use Rattle.title_counter.proofs.found.read_line.Goals as goal

pub returns-in_default : goal.returns-in_default
returns-in_default c = record {
  found = found_none c.args.text.now c.without_mark-line.result.now c.without_mark-line.ensures.text
      (rw c.in_default.is at c.in_ok-first.ensures.read);
}

pub returns-then-is_some : goal.returns-then-is_some
returns-then-is_some c = record {
  found = found_more c.args.text.now c.without_mark-line.result.now c.without_mark-line.ensures.text
      (read_in c.without_mark-line.result.now c.in-Some.first) (rw c.in-Some.is at c.in_ok-first.ensures.read)
      c.in_ok-second.second c.in_ok-second.ensures.read (sym c.if-is_some.ensures);
}

pub returns-then-goes_over : goal.returns-then-goes_over
returns-then-goes_over c = record {
  found = found_over c.args.text.now c.without_mark-line.result.now c.without_mark-line.ensures.text
      (read_in c.without_mark-line.result.now c.in-Some.first) (rw c.in-Some.is at c.in_ok-first.ensures.read)
      c.in_ok-second.second c.in_ok-second.ensures.read (sym c.if-is_some.ensures) (sym c.if-goes_over.ensures.over);
}

pub returns : goal.returns
returns c = record {
  found = found_row c.args.text.now c.without_mark-line.result.now c.without_mark-line.ensures.text
      (read_in c.without_mark-line.result.now c.in-Some.first) (rw c.in-Some.is at c.in_ok-first.ensures.read)
      c.in_ok-second.second c.in_ok-second.ensures.read (sym c.if-is_some.ensures) (sym c.if-goes_over.ensures.over);
}
