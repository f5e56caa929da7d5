-- What is joined is the tree of one section, or the one of all.
use Rattle.std.proofs.Common.{◌≡◌, ◌∙◌, ◌<◌, ap, arith, [], length, map, set}
use Rattle.std.proofs.lemmas.{Grind.{common_steps}, List.{length-map, length-set}}
use Rattle.title_tree.specs.Trees.{plot}
use Rattle.title_tree_store.specs.Grounds.{nothing}
use Rattle.title_tree_store.proofs.{GroundLaws.{section_trees, read_at, quartered_apart}, Tidying.{tidied_here, tidied_wholly}}
use Rattle.title_tree_store.proofs.ground.Ground.tidy_at.Goals as goal

pub returns-in-Whole-clause-tidied : goal.returns-in-Whole-clause-tidied
returns-in-Whole-clause-tidied c = tidied_wholly _ _ _ (grind (arith, common_steps))

pub returns-in-Whole-clause-others : goal.returns-in-Whole-clause-others
returns-in-Whole-clause-others c j lt ne = tidied_wholly _ _ _ (grind (arith, common_steps))

pub returns-in-Leaf-clause-tidied : goal.returns-in-Leaf-clause-tidied
returns-in-Leaf-clause-tidied c =
    let stays = c.close.ensures.stays c.args.index c.requires.section in tidied_here _ _ _ (grind (arith, section_trees))

pub returns-in-Leaf-clause-others : goal.returns-in-Leaf-clause-others
returns-in-Leaf-clause-others c j lt ne = let stays = c.close.ensures.stays j lt in tidied_here [] _ _ (grind (arith, section_trees))

pub returns-in_default-clause-tidied : goal.returns-in_default-clause-tidied
returns-in_default-clause-tidied c = tidied_here _ _ _ (grind (arith, section_trees))

pub returns-in_default-clause-others : goal.returns-in_default-clause-others
returns-in_default-clause-others c j lt ne = tidied_here [] _ _ (grind (arith, section_trees))

pub returns-in_default-clause-closed : goal.returns-in_default-clause-closed
returns-in_default-clause-closed c =
    let xs = c.in-Parted.sections.trees.items in
    let now = set xs c.args.index c.tidy_all.new.root in
    let long : length now ≡ 36 = omega (arith, length-set xs c.args.index c.tidy_all.new.root, c.in-Parted.sections.all) in
    let within : c.args.index < length now = omega (arith, long, c.requires.section) in
    quartered_apart (map plot now) c.args.index _ _ _ _ (length-map now plot ∙ long) c.requires.section
    (read_at plot now c.args.index c.index.result.now nothing within c.index.ensures ∙ ap plot c.in_default.is)
