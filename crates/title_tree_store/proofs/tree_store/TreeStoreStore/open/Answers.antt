-- Party 0 has all, no image is out, and nothing is to be joined.
use Rattle.std.proofs.{Common.{◌≡◌, ◌∙◌, ap, sym, subst, length}, lemmas.List.Elements.{All-nil}}
use Rattle.title_land.specs.Depth.{depth}
use Rattle.title_tree.specs.Plots.{fits}
use Rattle.title_tree_store.specs.{Spots.{IsHome}, Forests.{plots, AreHomes}, Out.{images}, declared.forest.Written.{Written}}
use Rattle.title_tree_store.proofs.{Contents.{each, everywhere}, Keeps.{kept_none}, Operations.{opens}}
use Rattle.title_tree_store.proofs.Joining.{all_joined, joined_none, opened_tidy}
use Rattle.title_tree_store.proofs.tree_store.TreeStoreStore.open.Goals as goal

pub invariant_of-result : goal.invariant_of-result
invariant_of-result c =
    let f = c.in_ok-forest.forest in
    let made = c.in_ok-forest.ensures in
    let ts = c.in_ok-townships.townships in
    let size : length c.args.townships.now ≡ length ts = ap length (sym c.in_ok-townships.ensures.list) in
    record {
      once = rw c.in_ok-townships.ensures.list c.requires.once;
      kept = rw c.new-2.ensures.images (kept_none _ (λ e. each made.sized e ∙ size)
          (λ e. everywhere size (λ i j a b. ap (fits depth) (each made.opening e i j a b))));
      joined = joined_none ts f (images c.new-2.result) c.new-2.ensures.images
          (opened_tidy f (each made.sized) (each made.opening) (each made.closed));
      noted = subst (AreHomes (length ts)) (sym made.written) (All-nil (λ (w : Written). IsHome (length ts) w.home));
    }

pub returns-clause-content : goal.returns-clause-content
returns-clause-content c x =
    let ts = c.in_ok-townships.townships in
    let size : length c.args.townships.now ≡ length ts = ap length (sym c.in_ok-townships.ensures.list) in
    opens ts (plots c.in_ok-forest.forest) (λ e. everywhere size (each c.in_ok-forest.ensures.opening e)) x

pub returns-clause-joined : goal.returns-clause-joined
returns-clause-joined c =
    let made = c.in_ok-forest.ensures in
    all_joined c.in_ok-forest.forest
    (opened_tidy c.in_ok-forest.forest (each made.sized) (each made.opening) (each made.closed))
