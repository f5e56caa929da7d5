-- One row more, behind those before it.
use Rattle.std.proofs.Common.{◌<◌, arith, length}
use Rattle.title_chain.specs.KeptRows.{rows_in}
use Rattle.title_page.specs.Laws.Rows.{one_row_more, stopped_at_a_row}
use Rattle.title_report.{specs.Replies.{sheet_row}, proofs.Puts.{put_failed}}
use Rattle.title_report.proofs.answers.put_sheet_lines.Goals as goal

pub loop-index-preserved : goal.loop-index-preserved
loop-index-preserved g c =
    let within : c.loop-index.index < length (rows_in c.args.lines.now) =
    omega (arith, c.len-index-end.ensures.len, c.loop-index-test.true) in (
      one_row_more (sheet_row c.args.roster.now c.args.examiner) (rows_in c.args.lines.now) c.loop-index.index c.row_at-row.result
          within c.row_at-row.ensures.row c.loop-index.invariant.0 c.in_ok-put_sheet_row.ensures.put.written,
      c.in_ok-put_sheet_row.ensures.put.well,
      c.in_ok-put_sheet_row.ensures.front,
    )

pub returns-in_err-put_sheet_row-clause-put : goal.returns-in_err-put_sheet_row-clause-put
returns-in_err-put_sheet_row-clause-put g c =
    let within : c.loop-index.index < length (rows_in c.args.lines.now) =
    omega (arith, c.len-index-end.ensures.len, c.loop-index-test.true) in
    put_failed c.from_residual.ensures.0 (stopped_at_a_row (sheet_row c.args.roster.now c.args.examiner) (rows_in c.args.lines.now)
    c.loop-index.index c.row_at-row.result within c.row_at-row.ensures.row c.loop-index.invariant.0
    c.in_err-put_sheet_row.ensures.put.stopped) c.in_err-put_sheet_row.ensures.put.failed
