-- What was left to show of `half_in_township`.
use Rattle.std.{proofs.Common.{ap}, specs.Option.{option_map}}
use Rattle.title_aliquot.specs.{Views.{section_view, land_view}, Laws.Lands.{parts_stand_as, section_stands}}
use Rattle.title_aliquot.proofs.squares.half_in_township.Goals as goal

pub returns-clause-half : goal.returns-clause-half
returns-clause-half c =
    section_stands (land_view c.args.land.now) c.in_ok-township.township (section_view c.in-Some.words)
    c.in_ok-section.section _ c.in_ok-township.ensures.new
    (ap (option_map section_view) c.in-Some.is) c.in_ok-section.ensures.new
    (parts_stand_as _ _ _ c.entries.ensures.parts c.in_ok-which.ensures.half.stands)

pub returns-clause-wide : goal.returns-clause-wide
returns-clause-wide c = c.in_ok-which.ensures.half.wide
