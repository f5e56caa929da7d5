use Rattle.std.proofs.Common.{◌∙◌, ap, sym, List, map, tests, rules}
use Rattle.std.proofs.lemmas.{Iterator.{YieldsList-from_slice}, Iterator.Search.{all_from_yields_List}, List.Folds.{list_all-map}}
use Rattle.title_tree.specs.{declared.tree.Tree.{Tree}, Plots.{same_leaf}, Trees.{plot}}
use Rattle.title_tree_store.specs.Grounds.{are_one}
use Rattle.title_tree_store.proofs.ground.are_one.Goals as goal

pub returns : goal.returns
returns c = record {
  one = all_from_yields_List (λ (t : Tree). same_leaf (plot c.in-Some.first.now) (plot t)) _ _ _ c.all.ensures.ran
      (YieldsList-from_slice c.in-Some.rest.now cc) (λ x b q k. search (rules, tests))
      ∙ sym (list_all-map (same_leaf (plot c.in-Some.first.now)) plot c.in-Some.rest.now)
      ∙ ap (λ (ts : List Tree). are_one (map plot ts)) (sym c.in-Some.ensures.cases.0);
}
