-- A section is one of its township's.
use Rattle.std.proofs.Common.{◌∙◌, ap, ◌-◌}
use Rattle.title_tree_store.specs.Grounds.{stands}
use Rattle.title_tree_store.proofs.walks.section_tree.Goals as goal

pub returns : goal.returns
returns c = record {
  stands = c.section.ensures.stands ∙ ap (stands c.ground_of.result.now) c.from.ensures
      ∙ c.ground_of.ensures.at.sections (c.args.section.number - 1);
}
