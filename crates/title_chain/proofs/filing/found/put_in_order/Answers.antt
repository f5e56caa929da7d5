-- Spots that ascend stay, and others are sorted.
use Rattle.std.{proofs.{Common.{subst, sym, List, ap, ◌∙◌}, lemmas.List.Filters.{dedup_is}}, specs.List.Sorted.{IsStrictlySortedBy}}
use Rattle.title_chain.specs.{declared.spot.Spot.{Spot}, SpotMaps.{spot_cmp}, PostSpots.{same_spot, is_listed}}
use Rattle.title_chain.proofs.SpotsInOrder.{sorted_same, sorted_ascends}
use Rattle.title_chain.proofs.filing.found.put_in_order.Goals as goal

pub returns-then-not-ascend : goal.returns-then-not-ascend
returns-then-not-ascend c =
    let is = dedup_is same_spot _ _ c.dedup.ensures.filtered in record {
      ordered = subst (λ (xs : List Spot). IsStrictlySortedBy spot_cmp xs) (sym is)
          (sorted_ascends c.sort_unstable.new.self.items c.sort_unstable.ensures.sorted);
      same = λ p. ap (λ (xs : List Spot). is_listed p xs) is
          ∙ sorted_same c.args.spots.now.items c.sort_unstable.new.self.items p c.sort_unstable.ensures.permutation;
    }
