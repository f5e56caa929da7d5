-- The spots under one node above more were found, up to the whole plant.
use Rattle.std.proofs.Common.{List, ap, ◌||◌, ◌∙◌}
use Rattle.title_chain.specs.{declared.spot.Spot.{Spot}, PostSpots.{is_listed}, SpotMaps.{spots_numbered}}
use Rattle.title_chain.proofs.Filings.{climbed_further, climbed_to_the_top}
use Rattle.title_chain.proofs.filing.found.find_above.Goals as goal

pub loop-reached-preserved : goal.loop-reached-preserved
loop-reached-preserved c n is =
    climbed_further (c.loop-reached.invariant n is) c.loop-reached-test.true c.number_above-reached.ensures.above
    (λ a at p. c.in_ok-find_all.ensures.found p ∙ ap (λ (spots : List Spot). is_listed p c.loop-reached.found.items || is_listed p spots)
    (c.spots_at.ensures.spots ∙ ap (spots_numbered c.args.filing.now.at) at))

pub returns : goal.returns
returns c = record { found = λ n is. climbed_to_the_top (c.loop-reached.invariant n is) c.loop-reached-test.false }
