-- Squares have one number exactly where their paths are one.
use Rattle.std.proofs.Common.{◌∙◌}
use Rattle.title_land.specs.Laws.NodeNumbers.{path_number_at}
use Rattle.title_land.proofs.node.Within.is.Goals as goal

pub returns-clause-told : goal.returns-clause-told
returns-clause-told c = c.eq.ensures ∙ path_number_at c.args.self c.args.other
