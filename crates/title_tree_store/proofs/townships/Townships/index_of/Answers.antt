-- The table tells it.
use Rattle.std.proofs.{Common.{◌∙◌, ℕ, ap, get_or, arith}, lemmas.List.{get_or_read}}
use Rattle.title_tree_store.specs.Spots.{index_of}
use Rattle.title_tree_store.proofs.townships.Townships.index_of.Goals as goal

pub returns : goal.returns
returns c =
    let indices = c.self.inside.indices.items in
    record {
      index = get_or_read indices c.number_of.result c.index.result.now (omega arith) c.index.ensures 0
          ∙ ap (λ (n : ℕ). get_or indices n 0) c.number_of.ensures.number ∙ c.self.invariant.found c.args.township
          ∙ (λ i. index_of (c.self.view_is i) c.args.township);
    }
