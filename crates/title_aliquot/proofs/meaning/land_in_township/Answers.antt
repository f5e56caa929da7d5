-- What was left to show of `land_in_township`.
use Rattle.std.{proofs.Common.{ap}, specs.Option.{option_map}}
use Rattle.title_aliquot.specs.{Views.{section_view, land_view}, Laws.Lands.{township_stands, section_stands}}
use Rattle.title_aliquot.proofs.meaning.land_in_township.Goals as goal

pub returns-in_default-section-clause-land : goal.returns-in_default-section-clause-land
returns-in_default-section-clause-land c =
    township_stands (land_view c.args.land.now) c.in-Some.township c.in-Some.ensures.new
    (ap (option_map section_view) c.in_default-section.is)

pub returns-clause-land : goal.returns-clause-land
returns-clause-land c =
    section_stands (land_view c.args.land.now) c.in-Some.township (section_view c.in-Some-section.words)
    c.in-Some-new.section c.in_ok-grid.grid c.in-Some.ensures.new
    (ap (option_map section_view) c.in-Some-section.is) c.in-Some-new.ensures.new
    (record { exist = c.in_ok-grid.ensures.exist; apart = c.in_ok-grid.ensures.apart; union_is = c.in_ok-grid.ensures.union })
