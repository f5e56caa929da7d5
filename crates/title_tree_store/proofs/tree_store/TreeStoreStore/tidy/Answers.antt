-- Where no image is out the trees may be joined.
use Rattle.std.proofs.{Common.{◌∙◌, ap, length, subst, sym, ℕ}, lemmas.List.Elements.{All-nil}}
use Rattle.title_land.specs.Depth.{depth}
use Rattle.title_tree_store.specs.{Spots.{IsHome}, Forests.{plots, AreHomes}, Keeping.{loans_of}, Out.{images}}
use Rattle.title_tree_store.{specs.declared.forest.Written.{Written}, proofs.Contents.{each, for_each, everywhere, content_agrees}}
use Rattle.title_tree_store.proofs.{Keeps.{no_loans, kept_none}, Joining.{all_joined, joined_none, joined_tidied}}
use Rattle.title_tree_store.proofs.tree_store.TreeStoreStore.tidy.Goals as goal

pub tidy-requires : goal.tidy-requires
tidy-requires c = record {
  there = for_each (λ e. subst (λ (n : ℕ). AreHomes n c.args.self.now.forest.written.items) (sym (c.args.self.now.kept.sized e))
      c.args.self.now.noted);
}

pub invariant_of-self : goal.invariant_of-self
invariant_of-self c =
    let store = c.args.self.now in
    let none = no_loans store.townships (plots store.forest) (images store.lent) c.requires.none in
    record {
      once = store.once;
      kept = rw none (kept_none _ (λ e. (each c.tidy.ensures.tidied e).sized ∙ store.kept.sized e) (λ e i j a b.
          (everywhere (store.kept.sized e) (each c.tidy.ensures.tidied e).tidied i j a b).within depth (store.kept.fit e i j a b)));
      joined = joined_none store.townships c.tidy.new.self (images store.lent) none
          (joined_tidied c.tidy.new.self (each c.tidy.ensures.tidied) store.joined);
      noted = subst (AreHomes (length store.townships)) (sym c.tidy.ensures.written)
          (All-nil (λ (w : Written). IsHome (length store.townships) w.home));
    }

pub returns-clause-content : goal.returns-clause-content
returns-clause-content c x =
    let store = c.args.self.now in
    content_agrees store.townships (plots store.forest) (plots c.tidy.new.self)
    (λ e i j a b p. (everywhere (store.kept.sized e) (each c.tidy.ensures.tidied e).tidied i j a b).content p) x

pub returns-clause-out : goal.returns-clause-out
returns-clause-out c =
    let store = c.args.self.now in
    ap (loans_of store.townships (plots c.tidy.new.self))
    (no_loans store.townships (plots store.forest) (images store.lent) c.requires.none)

pub returns-clause-joined : goal.returns-clause-joined
returns-clause-joined c = all_joined c.tidy.new.self (joined_tidied c.tidy.new.self (each c.tidy.ensures.tidied) c.args.self.now.joined)
