-- The sheets of the nodes so far are added.
use Rattle.std.{proofs.Common.{◌≡◌, ◌++◌, take}, specs.List.{flat_map}}
use Rattle.title_tree.specs.Trees.{plot}
use Rattle.title_tree_store.specs.SquareSheets.{part_sheet}
use Rattle.title_tree_store.proofs.sheets.add_parts.Given as goal

abbrev pub invariant-loop-node : goal.invariant-loop-node
invariant-loop-node l = l.rows.items ≡ l.fn.rows.items ++ flat_map (part_sheet (plot l.tree) l.estate) (take l.node-index l.nodes)
