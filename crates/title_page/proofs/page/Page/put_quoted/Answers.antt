-- The quote, the bytes, and the quote.
use Rattle.std.proofs.{Common.{◌∷◌, []}, lemmas.Result.{on_ok_weaker, on_err_weaker}}
use Rattle.csv.specs.Writing.{escaped}
use Rattle.title_page.specs.{Rows.{row_writer}, Laws.InTurn.{on_err, stopped_before, stopped_then, written_then}}
use Rattle.title_page.proofs.page.Page.put_quoted.Goals as goal

pub returns-in_err-put-clause-stopped : goal.returns-in_err-put-clause-stopped
returns-in_err-put-clause-stopped g c = on_err c.from_residual.result (stopped_before (34 ∷ []) _ c.in_err-put.ensures.stopped)

pub returns-in_err-put_inside-clause-stopped : goal.returns-in_err-put_inside-clause-stopped
returns-in_err-put_inside-clause-stopped g c =
    on_err c.from_residual-in_err-put_inside.result (stopped_then (34 ∷ []) _ c.in_ok-put.ensures.written
    (stopped_before (escaped row_writer c.args.field.now) (34 ∷ []) c.in_err-put_inside.ensures.stopped))

pub returns-clause-written : goal.returns-clause-written
returns-clause-written g c = on_ok_weaker c.put-2.result
    (λ w. written_then (34 ∷ []) _ c.in_ok-put.ensures.written
    (written_then (escaped row_writer c.args.field.now) (34 ∷ []) c.in_ok-put_inside.ensures.written w))
    c.put-2.ensures.written

pub returns-clause-stopped : goal.returns-clause-stopped
returns-clause-stopped g c = on_err_weaker c.put-2.result
    (λ v. stopped_then (34 ∷ []) _ c.in_ok-put.ensures.written
    (stopped_then (escaped row_writer c.args.field.now) (34 ∷ []) c.in_ok-put_inside.ensures.written v))
    c.put-2.ensures.stopped
