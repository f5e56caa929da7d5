use Rattle.title_tree_store.proofs.refusals.+first_cell.Given as goal

abbrev pub decreases-first_cell : goal.decreases-first_cell
decreases-first_cell l = l.below
