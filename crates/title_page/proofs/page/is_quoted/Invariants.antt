-- Whether a byte so far calls for quotes.
use Rattle.std.proofs.Common.{◌≡◌, take}
use Rattle.csv.specs.Writing.{needs_quotes}
use Rattle.title_page.specs.Rows.{row_writer}
use Rattle.title_page.proofs.page.is_quoted.Given as goal

abbrev pub invariant-loop-byte : goal.invariant-loop-byte
invariant-loop-byte l = l.some ≡ needs_quotes row_writer (take l.byte-index l.field)
