-- The front's records are serial with the one that is tried.
use Rattle.std.proofs.Common.{◌≡◌, ◌++◌, [], ◌∷◌, ap, ◌∙◌}
use Rattle.title_ledger.specs.declared.entry.Entry.TheVariants as entry
use Rattle.title_ledger.specs.{Ledgers.{AreSerial, sure_of}, Laws.Entries.{tried_ok}}
use Rattle.title_ledger.proofs.front.Front.tried_once.Goals as goal

pub invariant_of-result : goal.invariant_of-result
invariant_of-result g c =
    let is : c.in_ok-page.page.log ≡ c.self.inside.page.log ++ entry.Tried c.args.rec.now ∷ [] =
    ap (λ p. p.log) c.in_ok-page.ensures.added in
    let next : AreSerial g.B.Room.setting.townships (sure_of c.self.inside.page.log ++ c.args.rec.now ∷ []) =
    rw c.self.view_is c.requires.serial in
    let serial =
    tried_ok g.B.Room.setting.townships c.self.inside.page.log c.in_ok-page.page.log c.args.rec.now is next c.self.invariant.2 in
    (ap (λ p. p.book) c.in_ok-page.ensures.added ∙ c.self.invariant.0, serial.0, serial.1)
