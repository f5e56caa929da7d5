-- What a tract keeps of a township's cells.
use Rattle.std.proofs.Common.{◌∙◌, sym}
use Rattle.title_land.{specs.Laws.CellFilters.{kept_of_township, kept_elsewhere, kept_of_part}, proofs.CellSquares.{on_ok}}
use Rattle.title_land.proofs.cells.add_cells.Goals as goal

pub returns-in-Township : goal.returns-in-Township
returns-in-Township c =
    record {
      cells = kept_of_township c.args.tract.now c.in-Township.other c.args.township c.args.cells.now.items (sym c.land.ensures.land
          ∙ c.in-Township.is) (sym c.is.ensures.is ∙ c.if-not-is.true);
    }

pub returns-then-is : goal.returns-then-is
returns-then-is c =
    record {
      cells = on_ok c.add_section.result _ _
          (λ e. kept_of_part c.args.tract.now c.in-Part.section c.in-Part.field-1 c.args.township c.args.cells.now.items
          c.add_section.new.cells.items (sym c.land.ensures.land ∙ c.in-Part.is) (sym c.is-in-Part.ensures.is ∙ c.if-is.true) e)
          c.add_section.ensures.cells;
    }

pub returns-else-is : goal.returns-else-is
returns-else-is c =
    record {
      cells = kept_elsewhere c.args.tract.now c.in-Part.section c.in-Part.field-1 c.args.township c.args.cells.now.items
          (sym c.land.ensures.land ∙ c.in-Part.is) (sym c.is-in-Part.ensures.is ∙ c.if-is.false);
    }
