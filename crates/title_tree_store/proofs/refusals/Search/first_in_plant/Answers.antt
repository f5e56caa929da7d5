-- The townships come in their order.
use Rattle.std.{proofs.{Common.{◌∙◌, ap, sym, List}, lemmas.List.{at_drop_all}}, specs.List.{flat_map}}
use Rattle.title_land.specs.{Depth.{depth}, declared.survey.Township.{Township}, CellLists.{township_cells}}
use Rattle.title_tree_store.{specs.Refusing.{first_for}, proofs.Firsts.{at_place, next_here, next_later}}
use Rattle.title_tree_store.proofs.refusals.Search.first_in_plant.Goals as goal

pub returns-then-is_some : goal.returns-then-is_some
returns-then-is_some c = record {
  first = next_here c.args.self.now (township_cells depth) c.list-list.result.now c.loop-township.township-index
      c.loop-township-test.true c.township-item.is c.first_in_township-found.ensures.first (sym c.is_some.ensures ∙ c.if-is_some.true)
      ∙ sym c.loop-township.invariant;
}

pub loop-township-preserved : goal.loop-township-preserved
loop-township-preserved c = c.loop-township.invariant
    ∙ next_later c.args.self.now (township_cells depth) c.list-list.result.now c.loop-township.township-index
    c.loop-township-test.true c.township-item.is c.first_in_township-found.ensures.first (sym c.is_some.ensures ∙ c.if-is_some.false)

pub returns : goal.returns
returns c = record {
  first = sym (at_drop_all (λ (ts : List Township). first_for c.args.self.now (flat_map (township_cells depth) ts))
      c.list-list.result.now c.loop-township.township-index c.loop-township-test.false)
      ∙ sym c.loop-township.invariant;
}

pub loop-township-init : goal.loop-township-init
loop-township-init c =
    ap (λ (ts : List Township). first_for c.args.self.now (flat_map (township_cells depth) ts)) (sym c.list-list.ensures.list)

pub first_in_township-found-requires : goal.first_in_township-found-requires
first_in_township-found-requires c = record {
  sized = c.requires.sized;
  of = rw (← c.list-list.ensures.list) (at_place c.list-list.result.now c.loop-township.township-index c.township-item.result
      c.loop-township-test.true c.township-item.is);
}
