-- The transaction that is begun is empty.
use Rattle.title_desk.proofs.Found.{set_at}
use Rattle.title_desk.proofs.open_transactions.OpenTransactions.begin.Goals as goal

pub returns-clause-begun : goal.returns-clause-begun
returns-clause-begun g c = rw (← c.self.view_is) (rw (c.new.ensures.new, c.new-2.ensures.items) at
    (set_at c.args.examiner _ c.self.inside.by_examiner c.insert.new.self c.in_ok-insert.ensures.updates.0))
