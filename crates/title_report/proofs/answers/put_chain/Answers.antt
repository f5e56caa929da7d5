-- The row that counts, and those that it counts.
use Rattle.std.proofs.Common.{◌∷◌, [], codes, length, map}
use Rattle.title_page.specs.Laws.Rows.{rows_stopped_before}
use Rattle.title_report.{specs.Replies.{entry_row, number_row}, proofs.Puts.{put_failed, rows_put_then}}
use Rattle.title_report.proofs.answers.put_chain.Goals as goal

pub returns-in_err-put_number_row-clause-put : goal.returns-in_err-put_number_row-clause-put
returns-in_err-put_number_row-clause-put g c = put_failed c.from_residual.ensures.0
    (rows_stopped_before (number_row c.args.examiner (codes "chain") (length c.args.entries.now) ∷ [])
    (map (entry_row c.args.roster.now c.args.examiner) c.args.entries.now)
    c.in_err-put_number_row.ensures.put.stopped) c.in_err-put_number_row.ensures.put.failed

pub returns-clause-put : goal.returns-clause-put
returns-clause-put g c = rows_put_then (number_row c.args.examiner (codes "chain") (length c.args.entries.now) ∷ [])
    (map (entry_row c.args.roster.now c.args.examiner) c.args.entries.now)
    c.in_ok-put_number_row.ensures.put.written c.put_entries.ensures.put
