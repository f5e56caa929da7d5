-- One more cell has a slot, and those that had one keep it.
use Rattle.std.proofs.Common.{◌≡◌, ◌<◌, ◌∙◌, subst, true, length, arith}
use Rattle.title_land.specs.declared.survey.Cell.{Cell}
use Rattle.title_cell_store.{specs.CellMaps.{is_there}, proofs.MapLaws.{each_more}}
use Rattle.title_store.specs.Laws.Each.{each_from}
use Rattle.title_cell_store.proofs.cell_map.CellMap.make_slots.Goals as goal

pub loop-cell-preserved : goal.loop-cell-preserved
loop-cell-preserved c =
    let low : c.loop-cell.cell-index < length c.args.cells.now = omega arith in
    record {
      content = λ x. c.make_slot.ensures.content x ∙ c.loop-cell.invariant.content x;
      stays = λ x h. c.make_slot.ensures.stays x (c.loop-cell.invariant.stays x h);
      there = each_more (λ x. is_there c.make_slot.new.self x ≡ true) c.args.cells.now c.loop-cell.cell-index c.cell-item.result low
          (subst (λ (x : Cell). is_there c.make_slot.new.self x ≡ true) c.cell-item.is c.in_ok-make_slot.ensures.there)
          (each_from (λ x. is_there c.loop-cell.self x ≡ true) (λ x. is_there c.make_slot.new.self x ≡ true) _ c.make_slot.ensures.stays
          c.loop-cell.invariant.there);
    }
