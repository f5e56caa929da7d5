-- The bytes so far stand escaped.
use Rattle.std.proofs.Common.{◌≡◌, ◌++◌, take}
use Rattle.csv.specs.Writing.{escaped}
use Rattle.title_page.specs.Rows.{row_writer}
use Rattle.title_spelling.proofs.rows.push_escaped.Given as goal

abbrev pub invariant-loop-byte : goal.invariant-loop-byte
invariant-loop-byte l = l.out.items ≡ l.fn.out.items ++ escaped row_writer (take l.byte-index l.field)
