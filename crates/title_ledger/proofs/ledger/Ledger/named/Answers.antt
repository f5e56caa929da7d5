-- The front that has seen no entry.
use Rattle.std.proofs.Common.{◌∙◌}
use Rattle.title_ledger.specs.Laws.Entries.{empty_ok}
use Rattle.title_ledger.proofs.ledger.Ledger.named.Goals as goal

pub invariant_of-result-2 : goal.invariant_of-result-2
invariant_of-result-2 g c =
    let e = empty_ok g.B.Room.setting.townships c.self.inside.seen.log c.self.invariant.0 in
    (c.self.view_is ∙ c.requires.book, e.0, e.1)
