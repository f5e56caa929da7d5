-- The lines of the bytes so far are answered.
use Rattle.std.proofs.Common.{◌≡◌, ◌≤◌, ◌+◌, false, take}
use Rattle.title_counter.specs.{Lines.{lines_from}, Sessions.{GotAnswers}, Views.{counter_of}}
use Rattle.title_counter.proofs.lines.answer_bytes.Given as goal

abbrev pub invariant-loop-byte : goal.invariant-loop-byte
invariant-loop-byte g l = record {
  got : GotAnswers (counter_of l.fn.clerk) (lines_from l.fn.line (take l.byte-index l.bytes)).whole (counter_of l.clerk)
      (g.S.Sink.taken l.fn.sink) l.fn.page (g.S.Sink.taken l.sink) l.page;
  rest : l.line ≡ (lines_from l.fn.line (take l.byte-index l.bytes)).rest;
  rows : l.clerk.rows ≤ l.fn.clerk.rows + l.byte-index;
  well : g.S.Sink.has_failed l.sink ≡ false;
}
