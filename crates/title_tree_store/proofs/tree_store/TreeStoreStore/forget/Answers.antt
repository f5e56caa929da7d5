-- What is left was out before.
use Rattle.title_tree_store.{specs.Forests.{plots}, proofs.{Joining.{joined_less}, Keeps.{kept_less}, Operations.{is_taken, forget_out}}}
use Rattle.title_tree_store.proofs.tree_store.TreeStoreStore.forget.Goals as goal

pub invariant_of-self : goal.invariant_of-self
invariant_of-self c =
    let store = c.args.self.now in
    let out = (is_taken store.townships (plots store.forest) _ _ _ c.take.result c.requires.out c.take.ensures.taken).2 in
    record {
      once = store.once;
      kept = rw c.take.ensures.next (kept_less out store.kept);
      joined = joined_less out store.joined;
      noted = store.noted;
    }

pub returns-clause-out : goal.returns-clause-out
returns-clause-out c =
    let store = c.args.self.now in
    forget_out (is_taken store.townships (plots store.forest) _ _ _ c.take.result c.requires.out c.take.ensures.taken).2 c.requires.first
    store.kept
