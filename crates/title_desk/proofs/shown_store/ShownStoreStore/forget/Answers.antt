-- The image is one of the store's, and no cell changes.
use Rattle.std.proofs.Common.{sym, subst}
use Rattle.title_store.specs.Loans.{IsOut}
use Rattle.title_desk.proofs.Shows.{kept_same}
use Rattle.title_desk.proofs.shown_store.ShownStoreStore.forget.Goals as goal

pub forget-requires-clause-out : goal.forget-requires-clause-out
forget-requires-clause-out g c = subst (λ s. IsOut (g.S.Store.number c.args.image) (g.S.Store.out s)) (sym c.self.view_is) c.requires.out

pub invariant_of-self : goal.invariant_of-self
invariant_of-self g c = kept_same _ _ _ _ c.self.inside.kept c.forget.ensures.declared c.forget.ensures.content c.self.invariant
