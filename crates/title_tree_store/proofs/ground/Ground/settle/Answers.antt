-- Where one section is still quartered the township isn't one tree's.
use Rattle.std.proofs.Common.{◌≡◌, ◌∙◌, ◌<◌, ap, arith, length, map, set}
use Rattle.std.proofs.lemmas.List.{length-map, length-set}
use Rattle.title_tree.specs.Trees.{plot}
use Rattle.title_tree_store.{specs.Grounds.{nothing}, proofs.GroundLaws.{section_trees, read_at, quartered_apart}}
use Rattle.title_tree_store.proofs.ground.Ground.settle.Goals as goal

pub returns-in-Leaf-clause-others : goal.returns-in-Leaf-clause-others
returns-in-Leaf-clause-others c j lt ne = let stays = c.close.ensures.stays j lt in grind (arith, section_trees)

pub returns-in_default-clause-closed : goal.returns-in_default-clause-closed
returns-in_default-clause-closed c =
    let xs = c.in-Parted.sections.trees.items in
    let now = set xs c.args.index c.settle.new.self in
    let long : length now ≡ 36 = omega (arith, length-set xs c.args.index c.settle.new.self, c.in-Parted.sections.all) in
    let within : c.args.index < length now = omega (arith, long, c.requires.section) in
    quartered_apart (map plot now) c.args.index _ _ _ _ (length-map now plot ∙ long) c.requires.section
    (read_at plot now c.args.index c.index.result.now nothing within c.index.ensures ∙ ap plot c.in_default.is)
