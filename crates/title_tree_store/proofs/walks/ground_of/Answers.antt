-- The township is one of the list, which has a place for each.
use Rattle.std.proofs.Common.{arith, subst, ℕ}
use Rattle.title_tree_store.{specs.SquareSheets.{IsAt}, proofs.{CellPaths.{index_below}, Squares.{ground_at}}}
use Rattle.title_tree_store.proofs.walks.ground_of.Goals as goal

pub returns : goal.returns
returns c =
    let i = c.index_of.result in
    let below = index_below c.args.townships.now c.args.township c.requires.of in
    record {
      at = subst (λ (n : ℕ). IsAt c.args.grounds.now n c.index-grounds-index_of.result) c.index_of.ensures.index
          (ground_at c.args.grounds.now i c.index-grounds-index_of.result (omega (arith, below, c.requires.sized, c.index_of.ensures.index))
          c.index-grounds-index_of.is);
    }
