-- Two tracts meet where nodes of their covers do.
use Rattle.std.proofs.Common.{List, sym, ap, ◌∙◌}
use Rattle.std.specs.List.{list_any}
use Rattle.title_land.specs.{Depth.{depth}, declared.node.Node.{Node}, Nodes.{are_related}, Lands.{cover_of}}
use Rattle.title_land.specs.Laws.CoversMeet.{meets_by_covers}
use Rattle.title_land.proofs.tract.Tract.shares_with.Goals as goal

pub returns-else-either_keeps_set-clause-meets : goal.returns-else-either_keeps_set-clause-meets
returns-else-either_keeps_set-clause-meets c =
    let a = c.args.self.now in
    let b = c.args.other.now in
    c.nodes_meet.ensures.meet
    ∙ ap (λ (ns : List Node). list_any (λ (n : Node). list_any (are_related n) ns) c.cover-nodes.result.now) c.cover-others.ensures.cover
    ∙ ap (λ (ns : List Node). list_any (λ (n : Node). list_any (are_related n) (cover_of depth b)) ns) c.cover-nodes.ensures.cover
    ∙ sym (meets_by_covers depth a b c.cover-nodes.ensures.sized c.cover-others.ensures.sized)
