-- What is left of the parts after the first is ready too.
use Rattle.std.proofs.Common.{List, ap, map, rules}
use Rattle.title_tree.specs.{declared.part.Part.{Part}, Parts.{piece}, Laws.Swaps.{ready_next}}
use Rattle.title_tree.proofs.part.+exchange_all.Goals as goal

pub exchange_all-requires : goal.exchange_all-requires
exchange_all-requires t c =
    let whole = ap (λ (xs : List Part). map piece xs) c.in-Some.ensures.cases.0 in
    (search rules, ready_next _ _ _ _ _ whole c.exchange.ensures.root c.requires.disjoint c.requires.ready)
