-- The shorter begins the longer.
use Rattle.title_ledger.specs.Laws.Entries.{sure_later}
use Rattle.title_ledger.proofs.front.Front.longer.Goals as goal

pub returns-then-begins-clause-this : goal.returns-then-begins-clause-this
returns-then-begins-clause-this g c =
    rw (c.again.ensures.again, ← c.self.view_is, ← c.other.view_is) (sure_later c.self.inside.page.log c.other.inside.page.log
    (c.begins.ensures.this c.if-begins.true))

pub returns-else-begins-clause-that : goal.returns-else-begins-clause-that
returns-else-begins-clause-that g c =
    rw (c.again-else-begins.ensures.again, ← c.self.view_is, ← c.other.view_is) (sure_later c.other.inside.page.log
    c.self.inside.page.log (c.begins.ensures.that c.if-begins.false))
