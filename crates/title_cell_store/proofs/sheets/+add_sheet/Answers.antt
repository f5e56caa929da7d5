-- After the last child the sheet has all parts.
use Rattle.std.{proofs.{Common.{◌++◌, ◌-◌, List, sym, ap, ◌∙◌}, lemmas.List.{take_all}}, specs.List.{flat_map}}
use Rattle.title_land.specs.{Depth.{depth}, declared.{survey.Cell.{Cell}, node.Node.{Node}}}
use Rattle.title_store.specs.{declared.sheet_row.SheetRow.{SheetRow}, Sheets.{one_holding, sheet_below}}
use Rattle.title_cell_store.specs.CellMaps.{content_of}
use Rattle.title_store.specs.Laws.SheetSteps.{sheet_parts}
use Rattle.title_cell_store.proofs.sheets.+add_sheet.Goals as goal

pub returns : goal.returns
returns t c =
    let cells = c.deref.ensures.value ∙ c.in_ok-cells.ensures.cells in
    let none = ap (λ (cs : List Cell). one_holding c.args.estate (content_of c.args.map.now) cs) (sym cells)
    ∙ c.in_default.ensures.holding in
    let parts = sheet_parts c.args.levels depth c.args.townships.now (content_of c.args.map.now) c.args.estate c.args.node
    c.if-levels-eq0.false none in
    let children = take_all c.loop-child.child-index c.deref-child-items.result.now c.loop-child-test.false
    ∙ c.deref-child-items.ensures.value ∙ c.in_ok-children_of.ensures.children in
    record {
      rows = c.loop-child.invariant
          ∙ ap (λ (rows : List SheetRow). c.args.rows.now.items ++ rows)
          (ap (λ (ns : List Node). flat_map (sheet_below (c.args.levels - 1) depth c.args.townships.now (content_of c.args.map.now)
          c.args.estate) ns) children ∙ sym parts);
    }
