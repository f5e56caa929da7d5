-- The sink took the page, or a beginning of it.
use Rattle.std.proofs.Common.{◌≡◌, rules}
use Rattle.title_page.specs.Laws.InTurn.{on_err, stopped_page}
use Rattle.title_page.proofs.page.Page.pass.Goals as goal

pub returns-in_err-write_all-clause-stopped : goal.returns-in_err-write_all-clause-stopped
returns-in_err-write_all-clause-stopped g c =
    let (n, taken) = c.in_err-write_all.ensures.part in
    let whole : c.as_slice.result.now ≡ c.args.self.now = search rules in
    on_err c.from_residual.result (stopped_page c.args.self.now n (rw whole at taken))
