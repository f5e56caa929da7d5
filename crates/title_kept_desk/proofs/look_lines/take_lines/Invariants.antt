-- The lines of the bytes so far, as what they count as.
use Rattle.std.proofs.Common.{◌≡◌, map, take}
use Rattle.title_counter.specs.Lines.{lines_from}
use Rattle.title_kept_desk.specs.LookLines.{as_look, lines_text}
use Rattle.title_kept_desk.proofs.look_lines.take_lines.Given as goal

abbrev pub invariant-loop-byte : goal.invariant-loop-byte
invariant-loop-byte l = record {
  lines : l.lines.items ≡ lines_text (map as_look (lines_from l.fn.line.items (take l.byte-index l.bytes)).whole);
  rest : l.line.items ≡ (lines_from l.fn.line.items (take l.byte-index l.bytes)).rest;
}
