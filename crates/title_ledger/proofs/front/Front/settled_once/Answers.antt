-- The front's records are serial once the one that was tried is committed.
use Rattle.std.proofs.Common.{ap, ◌∙◌}
use Rattle.title_ledger.specs.Laws.Entries.{settled_ok}
use Rattle.title_ledger.proofs.front.Front.settled_once.Goals as goal

pub invariant_of-result : goal.invariant_of-result
invariant_of-result g c =
    let serial = settled_ok g.B.Room.setting.townships c.self.inside.page.log c.in_ok-page.page.log
    (ap (λ p. p.log) c.in_ok-page.ensures.added) c.self.invariant.1 in
    (ap (λ p. p.book) c.in_ok-page.ensures.added ∙ c.self.invariant.0, serial.0, serial.1)
