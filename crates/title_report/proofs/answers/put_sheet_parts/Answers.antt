-- The rows of one part more, behind those before it.
use Rattle.std.proofs.Common.{map}
use Rattle.title_page.specs.Laws.Rows.{rows_of_one_more, stopped_at_one}
use Rattle.title_report.{specs.Replies.{sheet_row}, proofs.Puts.{put_failed}}
use Rattle.title_report.proofs.answers.put_sheet_parts.Goals as goal

pub loop-part-preserved : goal.loop-part-preserved
loop-part-preserved g c = (
  rows_of_one_more (λ part. map (sheet_row c.args.roster.now c.args.examiner) part) c.args.parts.now c.loop-part.part-index
      c.part-item.result c.loop-part-test.true c.part-item.is c.loop-part.invariant.0
      (rw c.lines.ensures.lines at c.in_ok-put_sheet_lines.ensures.put.written),
  c.in_ok-put_sheet_lines.ensures.put.well,
  c.in_ok-put_sheet_lines.ensures.front,
)

pub returns-in_err-put_sheet_lines-clause-put : goal.returns-in_err-put_sheet_lines-clause-put
returns-in_err-put_sheet_lines-clause-put g c =
    put_failed c.from_residual.ensures.0 (stopped_at_one (λ part. map (sheet_row c.args.roster.now c.args.examiner) part)
    c.args.parts.now c.loop-part.part-index c.part-item.result c.loop-part-test.true c.part-item.is c.loop-part.invariant.0
    (rw c.lines.ensures.lines at c.in_err-put_sheet_lines.ensures.put.stopped)) c.in_err-put_sheet_lines.ensures.put.failed
