-- The rows so far are written, and the names are the same.
use Rattle.std.{proofs.Common.{◌≡◌, false, take}, specs.List.{flat_map}}
use Rattle.title_page.specs.{Pages.{Written}, Rows.{rows_text}}
use Rattle.title_script.specs.Told.{told_rows}
use Rattle.title_script.proofs.writing.put_all_told.Given as goal

abbrev pub invariant-loop-one : goal.invariant-loop-one
invariant-loop-one g l =
    Written (g.S.Sink.taken l.fn.sink) l.fn.page (g.S.Sink.taken l.sink) l.page
    (rows_text (flat_map (told_rows l.fn.lines) (take l.one-index l.told)))
    × (g.S.Sink.has_failed l.sink ≡ false)
    × (l.lines ≡ l.fn.lines)
