-- What the sink took is a beginning of the row.
use Rattle.std.proofs.{Common.{[], ◌∷◌}, lemmas.Result.{on_err_weaker}}
use Rattle.title_page.specs.{Rows.{rows_text}, Laws.InTurn.{on_err}}
use Rattle.title_report.specs.Replies.{end_row}
use Rattle.title_lasting.specs.Laws.Begun.{part, part_at_end}
use Rattle.title_kept_desk.proofs.sitting.put_last.Goals as goal

pub returns-in_err-put_end-clause-begun : goal.returns-in_err-put_end-clause-begun
returns-in_err-put_end-clause-begun g c =
    let text = rows_text (end_row c.args.steps ∷ []) in
    on_err c.from_residual.result (part text c.new-page.ensures.empty c.in_err-put_end.ensures.stopped)

pub returns-clause-begun : goal.returns-clause-begun
returns-clause-begun g c =
    let text = rows_text (end_row c.args.steps ∷ []) in
    on_err_weaker c.pass.result (λ v. part_at_end text c.new-page.ensures.empty c.in_ok-put_end.ensures.written v) c.pass.ensures.stopped
