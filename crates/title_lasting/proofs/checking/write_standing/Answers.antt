-- What the sink took is a beginning of the text.
use Rattle.title_daybook.specs.Books.{standing_of}
use Rattle.std.proofs.lemmas.Result.{on_err_weaker}
use Rattle.title_page.specs.{Rows.{rows_text}, Laws.InTurn.{on_err}}
use Rattle.title_lasting.specs.Tells.{standing_rows}
use Rattle.title_lasting.specs.Laws.Begun.{part, part_at_end}
use Rattle.title_lasting.proofs.checking.write_standing.Goals as goal

pub returns-in_err-put_standing-clause-begun : goal.returns-in_err-put_standing-clause-begun
returns-in_err-put_standing-clause-begun g c =
    let text = rows_text (standing_rows (standing_of c.args.stands.now) c.args.tail) in
    on_err c.from_residual.result (part text c.new-page.ensures.empty c.in_err-put_standing.ensures.stopped)

pub returns-clause-begun : goal.returns-clause-begun
returns-clause-begun g c =
    let text = rows_text (standing_rows (standing_of c.args.stands.now) c.args.tail) in
    on_err_weaker c.pass.result (λ v. part_at_end text c.new-page.ensures.empty c.in_ok-put_standing.ensures.written v)
    c.pass.ensures.stopped
