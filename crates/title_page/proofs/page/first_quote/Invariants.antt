-- The bytes so far stand as they are.
use Rattle.std.proofs.Common.{◌≡◌, take}
use Rattle.csv.specs.Writing.{escaped}
use Rattle.title_page.specs.Rows.{row_writer}
use Rattle.title_page.proofs.page.first_quote.Given as goal

abbrev pub invariant-loop-byte : goal.invariant-loop-byte
invariant-loop-byte l = (escaped row_writer (take l.byte-index l.field) ≡ take l.byte-index l.field) × (l.at ≡ l.byte-index)
