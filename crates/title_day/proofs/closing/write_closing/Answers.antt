-- The rows, the last row, and what stands on the page.
use Rattle.title_page.specs.Laws.{InTurn.{on_err}, Whole.{part_at_end, part_at_last, part_of_rows, whole_given}}
use Rattle.title_report.specs.Replies.{end_row}
use Rattle.title_day.specs.Closings.{closed_rows}
use Rattle.title_day.proofs.closing.write_closing.Goals as goal

pub returns-in_err-put_closing-clause-part : goal.returns-in_err-put_closing-clause-part
returns-in_err-put_closing-clause-part g c =
    on_err c.from_residual.result (part_of_rows (closed_rows c.args.closing.now) (end_row c.args.closing.now.steps)
    c.new-page.ensures.empty c.in_err-put_closing.ensures.stopped)

pub returns-in_err-put_end-clause-part : goal.returns-in_err-put_end-clause-part
returns-in_err-put_end-clause-part g c =
    on_err c.from_residual-in_err-put_end.result (part_at_last (closed_rows c.args.closing.now) (end_row c.args.closing.now.steps)
    c.new-page.ensures.empty c.in_ok-put_closing.ensures.written c.in_err-put_end.ensures.stopped)

pub returns-in_err-pass-clause-part : goal.returns-in_err-pass-clause-part
returns-in_err-pass-clause-part g c =
    on_err c.from_residual-in_err-pass.result (part_at_end (closed_rows c.args.closing.now) (end_row c.args.closing.now.steps)
    c.new-page.ensures.empty c.in_ok-put_closing.ensures.written c.in_ok-put_end.ensures.written c.in_err-pass.ensures.stopped)

pub returns-clause-bytes : goal.returns-clause-bytes
returns-clause-bytes g c =
    whole_given (closed_rows c.args.closing.now) (end_row c.args.closing.now.steps) c.new-page.ensures.empty
    c.in_ok-put_closing.ensures.written c.in_ok-put_end.ensures.written c.in_ok-pass.ensures.written c.in_ok-pass.ensures.empty
