-- The node itself.
use Rattle.std.proofs.Common.{◌∙◌}
use Rattle.title_lock.proofs.SpotLaws.{told}
use Rattle.title_lock.proofs.spots.Spot.of.Goals as goal

pub returns : goal.returns
returns c = record { of = told c.numbered.result.is c.args.node.now (c.numbered.ensures.number ∙ c.number.ensures.number) }
