-- What was left to show of `node_in_township`.
use Rattle.std.{proofs.Common.{ap}, specs.Option.{option_map}}
use Rattle.title_aliquot.specs.{Views.{section_view, land_view}, Laws.Lands.{parts_stand_as, section_stands, township_stands}}
use Rattle.title_aliquot.proofs.squares.node_in_township.Goals as goal

pub returns-in_default : goal.returns-in_default
returns-in_default c = record {
  node = township_stands (land_view c.args.land.now) c.in_ok-township.township c.in_ok-township.ensures.new
      (ap (option_map section_view) c.in_default.is);
}

pub returns : goal.returns
returns c = record {
  node = section_stands (land_view c.args.land.now) c.in_ok-township.township (section_view c.in-Some.words)
      c.in_ok-section.section _ c.in_ok-township.ensures.new
      (ap (option_map section_view) c.in-Some.is) c.in_ok-section.ensures.new
      (parts_stand_as _ _ _ c.entries.ensures.parts c.in_ok-within.ensures.square);
}
