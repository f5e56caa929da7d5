-- The rows so far are written, and what the front remembers are beginnings of rows.
use Rattle.std.proofs.Common.{◌≡◌, false, map, take}
use Rattle.title_page.specs.{Pages.{Written}, Rows.{rows_text}}
use Rattle.title_chain.specs.KeptRows.{rows_in}
use Rattle.title_report.specs.{Fronts.{IsFront}, Replies.{sheet_row}}
use Rattle.title_report.proofs.answers.put_sheet_lines.Given as goal

abbrev pub invariant-loop-index : goal.invariant-loop-index
invariant-loop-index g l = Written (g.S.Sink.taken l.fn.sink) l.fn.page (g.S.Sink.taken l.sink) l.page
    (rows_text (map (sheet_row l.roster l.examiner) (take l.index (rows_in l.lines))))
    × (g.S.Sink.has_failed l.sink ≡ false)
    × IsFront l.examiner l.front
