-- The section itself is the whole square.
use Rattle.std.proofs.Common.{sym, ap, ◌∙◌}
use Rattle.title_land.specs.{Depth.{depth}, Nodes.{square}}
use Rattle.title_land.proofs.node.Within.+square.Goals as goal

pub returns-in-None-clause-square : goal.returns-in-None-clause-square
returns-in-None-clause-square t c = c.section.ensures.section ∙ ap (square depth) (sym c.in-None.ensures.split)
