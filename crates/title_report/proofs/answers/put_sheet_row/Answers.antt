-- The beginning, the name, and what stands behind it.
use Rattle.std.proofs.Common.{◌∙◌, arith}
use Rattle.title_page.specs.Laws.InTurn.{stopped_before}
use Rattle.title_report.proofs.{Lines.{line_parts}, Puts.{put_as, put_failed, put_then}}
use Rattle.title_report.proofs.answers.put_sheet_row.Goals as goal

pub returns-in_err-put-clause-put : goal.returns-in_err-put-clause-put
returns-in_err-put-clause-put g c =
    put_as (line_parts _ c.args.roster.now c.args.examiner c.args.row.now (c.as_bytes.ensures.bytes ∙ c.text_for.ensures.text)
    (omega (arith, c.ranges.examiner.fits)))
    (put_failed c.from_residual.ensures.0 (stopped_before _ _ c.in_err-put.ensures.stopped) c.in_err-put.ensures.failed)

pub returns-in_err-write-clause-put : goal.returns-in_err-write-clause-put
returns-in_err-write-clause-put g c =
    put_as (line_parts _ c.args.roster.now c.args.examiner c.args.row.now (c.as_bytes.ensures.bytes ∙ c.text_for.ensures.text)
    (omega (arith, c.ranges.examiner.fits)))
    (put_then _ _ c.in_ok-put.ensures.written (put_failed c.from_residual-in_err-write.ensures.0
    (stopped_before _ _ c.in_err-write.ensures.put.stopped) c.in_err-write.ensures.put.failed))

pub returns-clause-put : goal.returns-clause-put
returns-clause-put g c =
    put_as (line_parts _ c.args.roster.now c.args.examiner c.args.row.now (c.as_bytes.ensures.bytes ∙ c.text_for.ensures.text)
    (omega (arith, c.ranges.examiner.fits)))
    (put_then _ _ c.in_ok-put.ensures.written (put_then _ _ c.in_ok-write.ensures.put.written c.put_tail.ensures.put))
