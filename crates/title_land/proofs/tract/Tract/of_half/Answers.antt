-- The two squares are those of the half, in order.
use Rattle.std.proofs.Common.{◌≡◌, ◌<◌, List, [], ◌∷◌, length, ap, ap₂, subst, sym, ◌∙◌}
use Rattle.title_land.specs.{Depth.{depth}, declared.{rectangle.Quarter.{Quarter}, tract.Halved.{Halved}}, Lands.{half_nodes}}
use Rattle.title_land.specs.Rectangles.{first_quarter, second_quarter}
use Rattle.title_land.specs.declared.node.Node.TheVariants as node
use Rattle.title_land.proofs.tract.Tract.of_half.Goals as goal

pub invariant_of-result : goal.invariant_of-result
invariant_of-result c =
    let s = c.args.section in
    let w = c.args.within in
    let first : c.quarter-first.result ≡ first_quarter c.args.which ∷ w =
    c.quarter-first.ensures.quarter ∙ ap (λ (q : Quarter). q ∷ w) c.quarters-quarters.ensures.first in
    let second : c.quarter-second.result ≡ second_quarter c.args.which ∷ w =
    c.quarter-second.ensures.quarter ∙ ap (λ (q : Quarter). q ∷ w) c.quarters-quarters.ensures.second in
    subst (λ (h : Halved). (length h.within < depth) × (h.nodes ≡ half_nodes h.section h.which h.within)) (sym c.in_ok-halved.ensures.ok)
    (c.requires.wide, ap₂ (λ (a b : List Quarter). node.Part s a ∷ node.Part s b ∷ []) first second)
