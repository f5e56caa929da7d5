-- No cell changes.
use Rattle.title_desk.proofs.Shows.{kept_same}
use Rattle.title_desk.proofs.shown_store.ShownStoreStore.tidy.Goals as goal

pub invariant_of-self : goal.invariant_of-self
invariant_of-self g c = kept_same _ _ _ _ c.self.inside.kept c.tidy.ensures.declared c.tidy.ensures.content c.self.invariant
