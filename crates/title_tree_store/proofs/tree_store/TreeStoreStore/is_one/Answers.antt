-- What stands in the section has one holding where its cells have.
use Rattle.std.proofs.Common.{◌∙◌}
use Rattle.title_tree.specs.Trees.{plot}
use Rattle.title_tree_store.proofs.Holdings.{section_one, one_test}
use Rattle.title_tree_store.proofs.tree_store.TreeStoreStore.is_one.Goals as goal

pub returns : goal.returns
returns c =
    let store = c.args.self.now in
    record {
      one = one_test (λ held. held.now) c.uniform.result c.is_some.result _ c.is_some.ensures (c.uniform.ensures.uniform
          ∙ section_one store.kept store.once c.args.estate c.args.section (plot c.section_tree-stands.result.now) c.requires.within
          (rw c.of-tree.ensures.of at c.section_tree-stands.ensures.stands));
    }
