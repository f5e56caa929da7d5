-- The image is one of the store's.
use Rattle.std.proofs.Common.{sym, subst}
use Rattle.title_store.specs.Loans.{IsOut}
use Rattle.title_desk.proofs.shown_store.ShownStoreStore.restore.Goals as goal

pub restore-requires-clause-out : goal.restore-requires-clause-out
restore-requires-clause-out g c = subst (λ s. IsOut (g.S.Store.number c.args.image) (g.S.Store.out s)) (sym c.self.view_is) c.requires.out
