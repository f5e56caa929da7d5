-- A township's acres are those of its sections.
use Rattle.std.proofs.Common.{◌∙◌, ap, sym}
use Rattle.title_land.specs.{Depth.{depth}, Acres.{half_acres_of}, Laws.Sides.{township_half_acres}}
use Rattle.title_land.proofs.tract.Tract.half_acres.Goals as goal

pub returns-in-Township : goal.returns-in-Township
returns-in-Township c =
    record {
      half_acres = township_half_acres c.in-Township.field-0
          ∙ ap (half_acres_of depth) (sym c.in-Township.is ∙ c.land.ensures.land);
    }
