-- The rows of the parts so far are written, and what the front remembers are beginnings of rows.
use Rattle.std.{proofs.Common.{◌≡◌, false, map, take}, specs.List.{flat_map}}
use Rattle.title_page.specs.{Pages.{Written}, Rows.{rows_text}}
use Rattle.title_report.specs.{Fronts.{IsFront}, Replies.{sheet_row}}
use Rattle.title_report.proofs.answers.put_sheet_parts.Given as goal

abbrev pub invariant-loop-part : goal.invariant-loop-part
invariant-loop-part g l = Written (g.S.Sink.taken l.fn.sink) l.fn.page (g.S.Sink.taken l.sink) l.page
    (rows_text (flat_map (λ part. map (sheet_row l.roster l.examiner) part) (take l.part-index l.parts)))
    × (g.S.Sink.has_failed l.sink ≡ false)
    × IsFront l.examiner l.front
