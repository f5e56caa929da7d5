-- The nodes of a cover are the plant, a township, or squares of one section.
use Rattle.std.{proofs.Common.{◌∙◌, ap, sym}, specs.List.{flat_map}}
use Rattle.title_tree.specs.Trees.{plot}
use Rattle.title_tree_store.{specs.SquareSheets.{part_sheet}, proofs.Squares.{plant_cover, township_cover, parts_cover}}
use Rattle.title_tree_store.proofs.sheets.add_estate.Goals as goal

pub returns-in-Everything : goal.returns-in-Everything
returns-in-Everything c = record {
  rows = rw (← plant_cover c.args.townships.now c.args.grounds.now c.args.estate c.args.tract.now
      (sym c.home.ensures.home ∙ c.in-Everything.is) c.requires.once c.requires.sized) c.add_plant.ensures.rows;
}

pub returns-in-Township : goal.returns-in-Township
returns-in-Township c = record {
  rows = rw (← township_cover c.args.townships.now c.args.grounds.now c.args.estate c.args.tract.now _ _
      (sym c.home.ensures.home ∙ c.in-Township.is) c.ground_of-ground.ensures.at) c.add_township.ensures.rows;
}

pub returns-in-Part : goal.returns-in-Part
returns-in-Part c =
    let rows = ap (flat_map (part_sheet (plot c.section_tree-stands.result.now) c.args.estate)) c.cover.ensures.cover
    ∙ parts_cover c.args.townships.now c.args.grounds.now c.args.estate c.args.tract.now _ _ _
    (sym c.home.ensures.home ∙ c.in-Part.is) c.section_tree-stands.ensures.stands in
    record { rows = rw (← rows) c.add_parts.ensures.rows }
