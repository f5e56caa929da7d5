-- The comma, and the field.
use Rattle.std.proofs.{Common.{◌≡◌, ◌==◌, ◌∷◌, [], false}, lemmas.{Bool.{ne_eqb}, Result.{on_ok_weaker, on_err_weaker}}}
use Rattle.title_page.specs.Laws.InTurn.{on_err, stopped_before, stopped_then, written_then}
use Rattle.title_page.proofs.page.Page.next.Goals as goal

pub returns-in_err-put-clause-stopped : goal.returns-in_err-put-clause-stopped
returns-in_err-put-clause-stopped g c =
    let later : (c.args.at == 0) ≡ false = ne_eqb c.args.at 0 c.if-at-eq0.false in
    on_err c.from_residual.result (rw later (stopped_before (44 ∷ []) _ c.in_err-put.ensures.stopped))

pub returns-clause-written : goal.returns-clause-written
returns-clause-written g c =
    let later : (c.args.at == 0) ≡ false = ne_eqb c.args.at 0 c.if-at-eq0.false in
    rw later (on_ok_weaker c.write-2.result (λ w. written_then (44 ∷ []) _ c.in_ok-put.ensures.written w) c.write-2.ensures.written)

pub returns-clause-stopped : goal.returns-clause-stopped
returns-clause-stopped g c =
    let later : (c.args.at == 0) ≡ false = ne_eqb c.args.at 0 c.if-at-eq0.false in
    rw later (on_err_weaker c.write-2.result (λ v. stopped_then (44 ∷ []) _ c.in_ok-put.ensures.written v) c.write-2.ensures.stopped)
