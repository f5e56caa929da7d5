-- The image that is taken out has its pieces' paths in the trees, and they hold what its cells held.
use Rattle.std.{proofs.Common.{is_some, ap, sym, subst, ℕ, length}, specs.Global.{Vec}}
use Rattle.title_instrument.specs.declared.parts.Estate.{Estate}
use Rattle.title_tree_store.specs.{declared.forest.Written.{Written}, Forests.{plots, parts_of, AreAll, AreHomes}, Out.{images}}
use Rattle.title_tree_store.{specs.Keeping.{IsTakenOut, IsBacked}, proofs.Contents.{each, for_each, everywhere}}
use Rattle.title_tree_store.proofs.{Joining.{joined_restored}, Keeps.{goes_back, out_in}}
use Rattle.title_tree_store.proofs.Operations.{is_taken, restored_kept, restored_out, restores}
use Rattle.title_tree_store.proofs.tree_store.TreeStoreStore.restore.Goals as goal

pub unwrap-lent-requires : goal.unwrap-lent-requires
unwrap-lent-requires c =
    let store = c.args.self.now in
    ap is_some (is_taken store.townships (plots store.forest) _ _ _ c.take.result c.requires.out c.take.ensures.taken).1

pub home_of-home-requires : goal.home_of-home-requires
home_of-home-requires c = record {
  within = (c.args.self.now.kept.backed _ (out_in (rw c.unwrap-lent.ensures at c.take.ensures.taken))).within;
}

pub exchange-requires : goal.exchange-requires
exchange-requires c =
    let store = c.args.self.now in
    let lent = c.unwrap-lent.result in
    let taken : IsTakenOut c.args.image.number lent (images store.lent) (images c.take.new.self) =
    rw c.unwrap-lent.ensures at c.take.ensures.taken in
    let backed : IsBacked store.townships lent = store.kept.backed lent (out_in taken) in
    record {
      there = for_each (λ e. rw (store.kept.sized e) c.home_of-home.ensures.there);
      all = for_each (λ e. subst (λ (n : ℕ). AreAll n (parts_of lent.trees e)) (sym (store.kept.sized e)) (backed.all e));
      wanted = for_each (λ e i. rw c.home_of-home.ensures.home (store.kept.wanted e i lent (out_in taken)));
      goes = for_each (λ e. rw c.home_of-home.ensures.home (everywhere (sym (store.kept.sized e)) (goes_back taken store.kept e)));
    }

pub invariant_of-self : goal.invariant_of-self
invariant_of-self c =
    let store = c.args.self.now in
    let taken = rw c.unwrap-lent.ensures at c.take.ensures.taken in
    let swap = λ (e : Estate). rw c.home_of-home.ensures.home at (each c.exchange.ensures.exchanged e) in
    record {
      once = store.once;
      kept = rw c.take.ensures.next (restored_kept c.exchange.new.self taken c.requires.last store.kept swap store.once);
      joined = joined_restored taken c.exchange.ensures.written swap store.joined;
      noted = subst (λ (ws : Vec Written). AreHomes (length store.townships) ws.items) (sym c.exchange.ensures.written) store.noted;
    }

pub returns-clause-content : goal.returns-clause-content
returns-clause-content c = restores c.exchange.new.self (rw c.unwrap-lent.ensures at c.take.ensures.taken) c.requires.last
    c.args.self.now.kept (λ e. rw c.home_of-home.ensures.home at (each c.exchange.ensures.exchanged e))

pub returns-clause-out : goal.returns-clause-out
returns-clause-out c = restored_out c.exchange.new.self (rw c.unwrap-lent.ensures at c.take.ensures.taken) c.requires.last
    c.args.self.now.kept (λ e. rw c.home_of-home.ensures.home at (each c.exchange.ensures.exchanged e))
