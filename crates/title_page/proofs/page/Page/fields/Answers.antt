-- One field more, behind those before it.
use Rattle.std.proofs.{Common.{◌≡◌, ◌∙◌, ◌+◌, ◌<◌, [], suc, length, map, arith, sym, ap}, lemmas.List.{get_or-map, length-map}}
use Rattle.csv.proofs.WriteFacts.{row-step}
use Rattle.title_page.specs.{Rows.{row_writer}, Laws.InTurn.{on_err, stopped_before, stopped_then, written_then}}
use Rattle.title_page.proofs.Texts.{row_front}
use Rattle.title_page.proofs.page.Page.fields.Goals as goal

pub loop-at-preserved : goal.loop-at-preserved
loop-at-preserved g c =
    let texts = map g.F.Field.text c.args.fields.now in
    let size = length-map c.args.fields.now g.F.Field.text in
    let lt : c.loop-at.at < length texts = omega (arith, size, c.loop-at-test.true) in
    let one = get_or-map g.F.Field.text c.args.fields.now c.loop-at.at c.index-fields-at.result [] c.loop-at-test.true
    ∙ ap g.F.Field.text (sym c.index-fields-at.is) in
    let step = rw one at (row-step row_writer texts c.loop-at.at lt) in (
      rw step (written_then _ _ c.loop-at.invariant.0 c.in_ok-next.ensures.written),
      c.in_ok-next.ensures.well,
    )

pub returns-in_err-next-clause-stopped : goal.returns-in_err-next-clause-stopped
returns-in_err-next-clause-stopped g c =
    let texts = map g.F.Field.text c.args.fields.now in
    let size = length-map c.args.fields.now g.F.Field.text in
    let lt : c.loop-at.at < length texts = omega (arith, size, c.loop-at-test.true) in
    let one = get_or-map g.F.Field.text c.args.fields.now c.loop-at.at c.index-fields-at.result [] c.loop-at-test.true
    ∙ ap g.F.Field.text (sym c.index-fields-at.is) in
    let step = rw one at (row-step row_writer texts c.loop-at.at lt) in
    let more : suc c.loop-at.at ≡ c.loop-at.at + 1 = omega arith in
    let (rest, front) = row_front row_writer texts c.loop-at.at in
    let upto = stopped_then _ _ c.loop-at.invariant.0 c.in_err-next.ensures.stopped in
    on_err c.from_residual.result (rw (front, more, step) (stopped_before _ rest upto))
