-- What was found near the node knows what is filed above the nodes below the same one.
use Rattle.std.proofs.Common.{ap, sym, ◌∙◌}
use Rattle.title_land.specs.NodeNumbers.{number_above}
use Rattle.title_chain.proofs.FoundLaws.{near_knows}
use Rattle.title_chain.proofs.filing.found.Found.add_near.Goals as goal

pub invariant_of-self-2 : goal.invariant_of-self-2
invariant_of-self-2 c =
    let below = c.number_above-parent.ensures.above ∙ ap number_above c.number-number.ensures.number in
    record {
      known = near_knows c.args.self.now.filing.now c.args.node.now c.number_above-parent.result c.args.self.now.spots.items
          c.find_near.new.found.items below
          (c.in_ok-find_near.ensures.found c.args.node.now c.number-number.ensures.number
          (λ known p higher. c.knows_above-is_known.ensures.knows known c.args.node.now (sym below) p higher));
    }
