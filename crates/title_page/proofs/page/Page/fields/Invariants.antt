-- The fields so far are written.
use Rattle.std.proofs.Common.{◌≡◌, false, map, take}
use Rattle.csv.specs.Writing.{row_body}
use Rattle.title_page.specs.{Pages.{Written}, Rows.{row_writer}}
use Rattle.title_page.proofs.page.Page.fields.Given as goal

abbrev pub invariant-loop-at : goal.invariant-loop-at
invariant-loop-at g l =
    Written (g.S.Sink.taken l.fn.sink) l.fn.self (g.S.Sink.taken l.sink) l.self
    (row_body row_writer (take l.at (map g.F.Field.text l.fields)))
    × (g.S.Sink.has_failed l.sink ≡ false)
