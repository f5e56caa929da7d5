-- What stood on the page went before the text.
use Rattle.std.proofs.{Common.{◌≡◌, [], rules}, lemmas.Result.{on_ok_weaker, on_err_weaker}}
use Rattle.title_page.specs.Laws.InTurn.{stopped_then, written_then}
use Rattle.title_page.proofs.page.Page.put.Goals as goal

pub returns-clause-written : goal.returns-clause-written
returns-clause-written g c =
    let kept : c.args.self.now ≡ c.try_extend_from_slice.new.self.items = search rules in
    rw kept (on_ok_weaker c.put_first.result
    (λ w. written_then [] c.args.text.now c.in_ok-pass.ensures.written w) c.put_first.ensures.written)

pub returns-clause-stopped : goal.returns-clause-stopped
returns-clause-stopped g c =
    let kept : c.args.self.now ≡ c.try_extend_from_slice.new.self.items = search rules in
    rw kept (on_err_weaker c.put_first.result
    (λ v. stopped_then [] c.args.text.now c.in_ok-pass.ensures.written v) c.put_first.ensures.stopped)
