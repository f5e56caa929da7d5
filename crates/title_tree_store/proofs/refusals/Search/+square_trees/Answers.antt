-- A square stands in the one around it.
use Rattle.std.proofs.Common.{List, ap, arith, length}
use Rattle.title_land.specs.declared.rectangle.Quarter.{Quarter}
use Rattle.title_tree_store.proofs.Standing.{stands_down}
use Rattle.title_tree_store.proofs.refusals.Search.+square_trees.Goals as goal

pub square_trees-below-requires : goal.square_trees-below-requires
square_trees-below-requires t c = (omega (arith, c.decreases, ap (λ (w : List Quarter). length w) c.in-Some.ensures.split), c.requires.here)

pub returns-clause-stands : goal.returns-clause-stands
returns-clause-stands t c =
    stands_down c.args.self.now c.args.section c.in-Some.parts.1 c.args.within c.in-Some.parts.0 c.square_trees-below.result.0
    c.quarter.result c.square_trees-below.ensures.stands c.in-Some.ensures.split c.quarter.ensures.quarters
