-- The bytes up to the next quote, that quote twice, and the rest.
use Rattle.std.proofs.{Common.{◌∷◌, ◌∙◌, ◌+◌, ◌++◌, [], ℕ, List, ap, arith, drop, length-drop, refl, take}, lemmas.List.{take_rest}}
use Rattle.std.proofs.lemmas.Result.{on_ok_weaker, on_err_weaker}
use Rattle.csv.specs.Writing.{escaped}
use Rattle.title_page.{specs.Rows.{row_writer}, proofs.Texts.{quote_behind}}
use Rattle.title_page.specs.Laws.InTurn.{on_err, stopped_as, stopped_before, stopped_then, written_as, written_none, written_then}
use Rattle.title_page.proofs.page.Page.put_inside.Goals as goal

pub loop-at-init : goal.loop-at-init
loop-at-init g c = (([], written_none _ _, refl), c.requires.works, omega arith)

pub loop-at-preserved : goal.loop-at-preserved
loop-at-preserved g c =
    let sofar = c.loop-at.invariant.0 in
    let before = take c.in-Some.at c.loop-at.rest.now in
    let behind = drop (c.in-Some.at + 1) c.loop-at.rest.now in (
      (
        sofar.0 ++ (before ++ 34 ∷ 34 ∷ []),
        written_then sofar.0 _ sofar.1 (written_then before (34 ∷ 34 ∷ []) c.in_ok-put.ensures.written c.in_ok-put-2.ensures.written),
        rw (take_rest c.loop-at.rest.now (c.in-Some.at + 1))
            (quote_behind sofar.0 before (escaped row_writer behind) sofar.2 c.in-Some.ensures.some),
      ),
      c.in_ok-put-2.ensures.well,
      rw (take_rest c.loop-at.rest.now (c.in-Some.at + 1))
          (omega (arith, length-drop (c.in-Some.at + 1) c.loop-at.rest.now, c.loop-at.invariant.2)),
    )

pub returns-in_err-put-clause-stopped : goal.returns-in_err-put-clause-stopped
returns-in_err-put-clause-stopped g c =
    let sofar = c.loop-at.invariant.0 in
    on_err c.from_residual.result (stopped_as (sofar.2 ∙ ap (λ (rest : List ℕ). sofar.0 ++ rest) c.in-Some.ensures.some)
    (stopped_then sofar.0 _ sofar.1 (stopped_before (take c.in-Some.at c.loop-at.rest.now)
    (34 ∷ 34 ∷ escaped row_writer (drop (c.in-Some.at + 1) c.loop-at.rest.now)) c.in_err-put.ensures.stopped)))

pub returns-in_err-put-2-clause-stopped : goal.returns-in_err-put-2-clause-stopped
returns-in_err-put-2-clause-stopped g c =
    let sofar = c.loop-at.invariant.0 in
    on_err c.from_residual-in_err-put-2.result (stopped_as (sofar.2 ∙ ap (λ (rest : List ℕ). sofar.0 ++ rest) c.in-Some.ensures.some)
    (stopped_then sofar.0 _ sofar.1 (stopped_then (take c.in-Some.at c.loop-at.rest.now) _ c.in_ok-put.ensures.written
    (stopped_before (34 ∷ 34 ∷ []) (escaped row_writer (drop (c.in-Some.at + 1) c.loop-at.rest.now)) c.in_err-put-2.ensures.stopped))))

pub returns-clause-written : goal.returns-clause-written
returns-clause-written g c =
    let sofar = c.loop-at.invariant.0 in
    on_ok_weaker c.put-2.result
    (λ w. written_as (sofar.2 ∙ ap (λ (rest : List ℕ). sofar.0 ++ rest) c.in_default.ensures.none) (written_then sofar.0 _ sofar.1 w))
    c.put-2.ensures.written

pub returns-clause-stopped : goal.returns-clause-stopped
returns-clause-stopped g c =
    let sofar = c.loop-at.invariant.0 in
    on_err_weaker c.put-2.result
    (λ v. stopped_as (sofar.2 ∙ ap (λ (rest : List ℕ). sofar.0 ++ rest) c.in_default.ensures.none) (stopped_then sofar.0 _ sofar.1 v))
    c.put-2.ensures.stopped
