-- The nodes so far are those of the quarters so far.
use Rattle.std.proofs.Common.{◌≡◌, ◌<◌, ◌∷◌, length, map, take}
use Rattle.title_land.specs.declared.node.Node.TheVariants as node
use Rattle.title_land.specs.Depth.{depth}
use Rattle.title_land.proofs.lists.quarters_of.Given as goal

abbrev pub invariant-loop-which : goal.invariant-loop-which
invariant-loop-which l =
    (l.nodes.items ≡ map (λ q. node.Part l.section (q ∷ l.within)) (take l.which-index l.which-items)) × (length l.within < depth)
