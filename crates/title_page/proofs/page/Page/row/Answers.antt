-- The fields, and the line's end.
use Rattle.std.proofs.{Common.{◌<◌, ◌∷◌, [], length, map, arith}, lemmas.{List.{length-map}, Result.{on_ok_weaker, on_err_weaker}}}
use Rattle.title_page.specs.{Rows.{row}, Laws.{InTurn.{on_err, stopped_before, stopped_then, written_then}, RowTexts.{row_ends}}}
use Rattle.title_page.proofs.page.Page.row.Goals as goal

pub returns-in_err-fields-clause-stopped : goal.returns-in_err-fields-clause-stopped
unfolding row
returns-in_err-fields-clause-stopped g c =
    let texts = map g.F.Field.text c.args.fields.now in
    let size = length-map c.args.fields.now g.F.Field.text in
    let several : 1 < length texts = omega (arith, size, c.requires.several) in
    on_err c.from_residual.result (rw (row_ends texts several) (stopped_before _ (10 ∷ []) c.in_err-fields.ensures.stopped))

pub returns-clause-written : goal.returns-clause-written
unfolding row
returns-clause-written g c =
    let texts = map g.F.Field.text c.args.fields.now in
    let size = length-map c.args.fields.now g.F.Field.text in
    let several : 1 < length texts = omega (arith, size, c.requires.several) in
    rw (row_ends texts several)
    (on_ok_weaker c.put.result (λ w. written_then _ (10 ∷ []) c.in_ok-fields.ensures.written w) c.put.ensures.written)

pub returns-clause-stopped : goal.returns-clause-stopped
unfolding row
returns-clause-stopped g c =
    let texts = map g.F.Field.text c.args.fields.now in
    let size = length-map c.args.fields.now g.F.Field.text in
    let several : 1 < length texts = omega (arith, size, c.requires.several) in
    rw (row_ends texts several)
    (on_err_weaker c.put.result (λ v. stopped_then _ (10 ∷ []) c.in_ok-fields.ensures.written v) c.put.ensures.stopped)
