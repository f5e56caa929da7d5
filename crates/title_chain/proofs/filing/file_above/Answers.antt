-- The spot is filed under one node above more, up to the whole plant.
use Rattle.std.proofs.Common.{Bool, ap, ◌||◌, ◌∙◌}
use Rattle.title_land.specs.Nodes.{same_node, above}
use Rattle.title_chain.{specs.{PostSpots.{same_spot, is_listed}, SpotMaps.{spots_under}}, proofs.Filings.{any_with, at_node}}
use Rattle.title_chain.proofs.Filings.{climbed_further, climbed_to_the_top}
use Rattle.title_chain.proofs.filing.file_above.Goals as goal

pub loop-reached-preserved : goal.loop-reached-preserved
loop-reached-preserved c n is =
    climbed_further (c.loop-reached.invariant n is) c.loop-reached-test.true c.number_above-reached.ensures.above
    (λ a at x. at_node c.loop-reached.lists c.file_under.new.lists c.number_above-reached.result a c.args.spot at
    c.in_ok-file_under.ensures.filed x.0 x.1)

pub returns : goal.returns
returns c = record {
  filed = λ n is q p. climbed_to_the_top (c.loop-reached.invariant n is) c.loop-reached-test.false (q, p)
      ∙ ap (λ (b : Bool). is_listed p (spots_under c.args.lists.now q) || b) (any_with (same_node q) (same_spot p c.args.spot) (above n));
}
