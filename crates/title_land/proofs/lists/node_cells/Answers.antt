-- The cells of the land that has the node's cells.
use Rattle.std.{proofs.Common.{◌≡◌, List, ap, ◌∙◌, subst}, specs.Prelude.{IfOk}}
use Rattle.title_land.specs.{Depth.{depth}, declared.{survey.Cell.{Cell}, tract.Land.{Land}}, CellLists.{cells_of}}
use Rattle.title_land.proofs.ListSteps.{cells_of-land_of}
use Rattle.title_land.proofs.lists.node_cells.Goals as goal

pub returns : goal.returns
returns c =
    let same = ap (λ (x : Land). cells_of depth c.args.townships.now x) c.of-tract.ensures.of
    ∙ cells_of-land_of depth c.args.townships.now c.args.node c.is_in_tree.ensures.tree in
    record { cells = subst (λ (cs : List Cell). IfOk c.cells_of.result (λ cells. cells.items ≡ cs)) same c.cells_of.ensures.cells }
