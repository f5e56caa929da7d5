-- A rectangle added to no cells.
use Rattle.std.proofs.Common.{◌∙◌}
use Rattle.title_land.specs.{Depth.{depth}, Laws.GridLaws.{with_rectangle-empty}}
use Rattle.title_land.proofs.grid.Grid.of.Goals as goal

pub returns : goal.returns
returns c = record { of = c.with.ensures.with ∙ with_rectangle-empty depth c.empty.result c.args.r c.empty.ensures.has }
