-- The rows so far are written, and each line has the text of its key.
use Rattle.std.proofs.Common.{◌≡◌, false, map, take}
use Rattle.title_page.specs.{Pages.{Written}, Rows.{rows_text}}
use Rattle.title_report.specs.{EntryTexts.{AreMade}, Replies.{entry_row}}
use Rattle.title_report.proofs.answers.put_entries.Given as goal

abbrev pub invariant-loop-entry : goal.invariant-loop-entry
invariant-loop-entry g l = Written (g.S.Sink.taken l.fn.sink) l.fn.page (g.S.Sink.taken l.sink) l.page
    (rows_text (map (entry_row l.roster l.examiner) (take l.entry-index l.entries)))
    × (g.S.Sink.has_failed l.sink ≡ false)
    × AreMade l.roster l.lines
