-- One row more, behind those before it.
use Rattle.title_page.specs.Laws.Rows.{one_row_more, stopped_at_a_row}
use Rattle.title_report.{specs.Replies.{entry_row}, proofs.Puts.{put_failed}}
use Rattle.title_report.proofs.answers.put_entries.Goals as goal

pub loop-entry-preserved : goal.loop-entry-preserved
loop-entry-preserved g c = (
  one_row_more (entry_row c.args.roster.now c.args.examiner) c.args.entries.now c.loop-entry.entry-index c.entry-item.result
      c.loop-entry-test.true c.entry-item.is c.loop-entry.invariant.0 c.in_ok-put_entry.ensures.put.written,
  c.in_ok-put_entry.ensures.put.well,
  c.in_ok-put_entry.ensures.lines,
)

pub returns-in_err-put_entry-clause-put : goal.returns-in_err-put_entry-clause-put
returns-in_err-put_entry-clause-put g c =
    put_failed c.from_residual.ensures.0 (stopped_at_a_row (entry_row c.args.roster.now c.args.examiner)
    c.args.entries.now c.loop-entry.entry-index c.entry-item.result c.loop-entry-test.true c.entry-item.is
    c.loop-entry.invariant.0 c.in_err-put_entry.ensures.put.stopped) c.in_err-put_entry.ensures.put.failed
