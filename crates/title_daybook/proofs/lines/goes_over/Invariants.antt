use Rattle.std.{proofs.Common.{◌≡◌, false, take}, specs.List.{list_any}}
use Rattle.csv.specs.Records.{fields_of}
use Rattle.title_daybook.specs.Lines.{has_line_feed}
use Rattle.title_daybook.proofs.lines.goes_over.Given as goal

abbrev pub invariant-loop-i : goal.invariant-loop-i
invariant-loop-i l = list_any has_line_feed (take l.i (fields_of l.raw)) ≡ false
