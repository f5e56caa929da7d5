-- A text that no page holds goes to the sink at once.
use Rattle.std.proofs.lemmas.Result.{on_err_weaker}
use Rattle.title_page.specs.Laws.InTurn.{stopped_at_once}
use Rattle.title_page.proofs.page.Page.put_first.Goals as goal

pub returns-clause-stopped : goal.returns-clause-stopped
returns-clause-stopped g c = rw c.requires.empty (on_err_weaker c.write_all.result
    (λ part. let (n, taken) = part in stopped_at_once c.args.text.now n taken) c.write_all.ensures.part)
