-- What the cells so far held and are to hold; the first that refuses is among the rest.
use Rattle.std.proofs.Common.{◌≡◌, take, drop}
use Rattle.title_instrument.specs.Effect.{cell_effect}
use Rattle.title_store.specs.Plants.{first_failing, done_or}
use Rattle.title_cell_store.specs.CellMaps.{content_of, keep_from}
use Rattle.title_cell_store.proofs.posts.compute.Given as goal

abbrev pub invariant-loop-cell : goal.invariant-loop-cell
invariant-loop-cell l = record {
  old : l.old.items ≡ keep_from (content_of l.map) (take l.cell-index l.cells);
  new : l.new.items ≡ keep_from (λ c. done_or (content_of l.map c) (cell_effect l.instrument (content_of l.map c)))
      (take l.cell-index l.cells);
  none : first_failing l.instrument (content_of l.map) l.cells ≡ first_failing l.instrument (content_of l.map) (drop l.cell-index l.cells);
}
