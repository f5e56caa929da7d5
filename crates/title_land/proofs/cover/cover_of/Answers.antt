-- The walk begins with the whole section and all its levels.
use Rattle.std.proofs.Common.{◌++◌, List, [], ℕ, map, sym, ap, ◌∙◌}
use Rattle.title_land.specs.{Depth.{depth}, declared.{rectangle.{TheConstants.{DEPTH}, Quarter.{Quarter}}, node.Node.{Node}}}
use Rattle.title_land.specs.{Covers.{cover_below, node_at}, Grids.{grid_has}, Laws.Sides.{depth_is}}
use Rattle.title_land.proofs.cover.cover_of.Goals as goal

pub returns-clause-cover : goal.returns-clause-cover
returns-clause-cover c =
    let list = λ (n : ℕ) (w : List Quarter). map (node_at c.args.section) (cover_below depth (grid_has c.args.grid.now) n w) in
    c.in_ok-add_cover.ensures.cover ∙ ap (λ (ns : List Node). ns ++ list DEPTH c.section-whole.result) c.new-nodes.ensures.items
    ∙ ap (list DEPTH) c.section-whole.ensures.whole ∙ ap (λ (n : ℕ). list n []) (sym depth_is)
