-- What is left of the parts after the first may take its places, and is joined as if all had.
use Rattle.std.proofs.Common.{List, ap, map, rules}
use Rattle.title_tree.specs.{declared.part.Part.{Part}, Parts.{piece}, Laws.Settled.{settled_then, settled_ready}, Trees.{plot}}
use Rattle.title_tree.proofs.part.+settle_all.Goals as goal

pub settle_all-requires : goal.settle_all-requires
settle_all-requires t c =
    let whole = ap (λ (xs : List Part). map piece xs) c.in-Some.ensures.cases.0 in
    let there = settled_ready _ _ _ _ (plot c.settle.new.self) whole (rw c.first_path.ensures.first at c.settle.ensures.tree)
    c.requires.disjoint c.requires.ready c.requires.order in
    (search rules, there)

pub returns-in-Some : goal.returns-in-Some
returns-in-Some t c =
    let whole = ap (λ (xs : List Part). map piece xs) c.in-Some.ensures.cases.0 in
    record {
      root = settled_then _ _ _ _ _ _ whole (rw c.first_path.ensures.first at c.settle.ensures.tree) c.settle_all.ensures.root
          c.requires.disjoint c.requires.order;
    }
