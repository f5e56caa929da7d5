-- The code's whole section is that of the definitions.
use Rattle.title_land.specs.Laws.Sides.{section_is, section_inside}
use Rattle.title_land.proofs.rectangle.Rectangle.section.Goals as goal

pub returns-clause-section : goal.returns-clause-section
returns-clause-section c = section_is

pub returns-clause-inside : goal.returns-clause-inside
returns-clause-inside c = section_inside
