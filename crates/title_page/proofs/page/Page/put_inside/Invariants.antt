-- The field's text is what is written so far, and that of the bytes that are left.
use Rattle.std.proofs.Common.{◌≡◌, ◌≤◌, ◌++◌, ℕ, List, false, length}
use Rattle.csv.specs.Writing.{escaped}
use Rattle.title_page.specs.{Pages.{Written}, Rows.{row_writer}}
use Rattle.title_page.proofs.page.Page.put_inside.Given as goal

abbrev pub invariant-loop-at : goal.invariant-loop-at
invariant-loop-at g l =
    ((text : List ℕ) × Written (g.S.Sink.taken l.fn.sink) l.fn.self (g.S.Sink.taken l.sink) l.self text
    × (escaped row_writer l.field ≡ text ++ escaped row_writer l.rest))
    × (g.S.Sink.has_failed l.sink ≡ false)
    × (length l.rest ≤ length l.field)

abbrev pub decreases-loop-at : goal.decreases-loop-at
decreases-loop-at g l = length l.rest
