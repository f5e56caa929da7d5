-- A spot of two lists in turn stands in one of them.
use Rattle.std.proofs.{Common.{List, ap, ◌∙◌}, lemmas.List.Folds.{list_any-append}}
use Rattle.title_chain.specs.{declared.spot.Spot.{Spot}, PostSpots.{same_spot, is_listed}}
use Rattle.title_chain.proofs.filing.found.find_all.Goals as goal

pub returns : goal.returns
returns c = record {
  found = λ p. ap (λ (spots : List Spot). is_listed p spots) c.in_ok-extend_from_slice.ensures.items
      ∙ list_any-append (same_spot p) c.args.found.now.items c.args.spots.now;
}
