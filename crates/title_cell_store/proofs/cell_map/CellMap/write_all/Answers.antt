-- The last that is kept has a slot, and its write leaves the others' slots.
use Rattle.std.{proofs.Common.{◌≡◌, ◌∙◌, ap, subst, true, List}, specs.{Prelude.{unwrap_or}, List.{AllByRecursion}}}
use Rattle.title_cell_store.specs.{declared.kept.Kept.{Kept}, CellMaps.{is_there, content_of, kept_at, kept_cells}}
use Rattle.title_store.specs.Laws.Each.{each_from}
use Rattle.title_cell_store.proofs.MapLaws.{kept_front, write_last, written_stays}
use Rattle.title_cell_store.proofs.cell_map.CellMap.write_all.Goals as goal

pub write-requires : goal.write-requires
write-requires c =
    let there = subst (λ (ks : List Kept). AllByRecursion (λ x. is_there c.loop-cell.self x ≡ true) (kept_cells ks)) c.in-Some.ensures.items
    c.loop-cell.invariant.there in
    record { there = (kept_front (λ x. is_there c.loop-cell.self x ≡ true) c.pop.new.self.items c.in-Some.field-0 there).1 }

pub loop-cell-preserved : goal.loop-cell-preserved
loop-cell-preserved c =
    let there = subst (λ (ks : List Kept). AllByRecursion (λ x. is_there c.loop-cell.self x ≡ true) (kept_cells ks)) c.in-Some.ensures.items
    c.loop-cell.invariant.there in
    let rest = kept_front (λ x. is_there c.loop-cell.self x ≡ true) c.pop.new.self.items c.in-Some.field-0 there in
    let stays = written_stays c.loop-cell.self.owners c.write.new.self.owners c.in-Some.field-0.cell c.in-Some.field-0.owners
    c.write.ensures.written in
    record {
      content = λ x.
          c.loop-cell.invariant.content x
          ∙ ap (λ (ks : List Kept). unwrap_or (kept_at ks x) (content_of c.loop-cell.self x)) c.in-Some.ensures.items
          ∙ write_last c.loop-cell.self.owners c.write.new.self.owners c.pop.new.self.items c.in-Some.field-0 c.write.ensures.written x;
      stays = λ x h. stays x (c.loop-cell.invariant.stays x h);
      there = each_from (λ x. is_there c.loop-cell.self x ≡ true) (λ x. is_there c.write.new.self x ≡ true) _ stays rest.0;
    }
