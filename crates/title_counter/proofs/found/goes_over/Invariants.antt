use Rattle.std.{proofs.Common.{◌≡◌, false, take}, specs.List.{list_any}}
use Rattle.csv.specs.Records.{fields_of}
use Rattle.title_counter.specs.Founds.{has_line_feed}
use Rattle.title_counter.proofs.found.goes_over.Given as goal

abbrev pub invariant-loop-i : goal.invariant-loop-i
invariant-loop-i l = list_any has_line_feed (take l.i (fields_of l.raw)) ≡ false
