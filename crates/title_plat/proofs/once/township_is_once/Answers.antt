-- All of the township's sections.
use Rattle.std.proofs.Common.{List, rules, tests}
use Rattle.std.proofs.lemmas.Iterator.{Consumers.{YieldsList-from_first}, Search.{all_from_yields_List}}
use Rattle.title_land.specs.{CellLists.{sections_of}, declared.survey.Section.{Section}}
use Rattle.title_plat.specs.Once.{section_is_once}
use Rattle.title_plat.proofs.once.township_is_once.Goals as goal

pub returns : goal.returns
returns c = record {
  once = all_from_yields_List (section_is_once c.args.parts.now) _ _ _ c.all.ensures.ran
      (YieldsList-from_first (λ (s : Section). s) (λ (sections : List Section). sections) (sections_of c.args.township)
      c.sections.ensures.sections)
      (λ x b q k. search (rules, tests));
}
