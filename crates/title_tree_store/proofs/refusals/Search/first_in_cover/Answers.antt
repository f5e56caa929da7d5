-- The nodes come in their order.
use Rattle.std.proofs.Common.{◌∙◌, sym}
use Rattle.title_land.specs.{Depth.{depth}, CellLists.{part_cells}}
use Rattle.title_tree_store.proofs.Firsts.{next_here, next_later}
use Rattle.title_tree_store.proofs.refusals.Search.first_in_cover.Goals as goal

pub returns-then-is_some : goal.returns-then-is_some
returns-then-is_some c = record {
  first = next_here c.args.self.now (part_cells depth c.args.section) c.cover-cover.result.now c.loop-node.node-index
      c.loop-node-test.true c.node-item.is c.first_in_node-found.ensures.first (sym c.is_some.ensures ∙ c.if-is_some.true)
      ∙ sym c.loop-node.invariant;
}

pub loop-node-preserved : goal.loop-node-preserved
loop-node-preserved c = c.loop-node.invariant
    ∙ next_later c.args.self.now (part_cells depth c.args.section) c.cover-cover.result.now c.loop-node.node-index
    c.loop-node-test.true c.node-item.is c.first_in_node-found.ensures.first (sym c.is_some.ensures ∙ c.if-is_some.false)
