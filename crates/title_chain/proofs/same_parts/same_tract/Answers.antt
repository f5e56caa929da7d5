-- Tracts whose covers are one node each are one exactly where the nodes are.
use Rattle.title_chain.proofs.CoverTells.{same_by_node}
use Rattle.title_chain.proofs.same_parts.same_tract.Goals as goal

pub returns-in-Some-Some : goal.returns-in-Some-Some
returns-in-Some-Some c = record {
  same = same_by_node c.args.a.now c.args.b.now _ _ _ c.in-Some-Some.ensures.sized c.in-Some-Some.ensures'.sized
      c.in-Some-Some.ensures.sole c.in-Some-Some.ensures'.sole c.is.ensures.same;
}
