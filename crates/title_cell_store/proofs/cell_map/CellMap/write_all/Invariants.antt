-- What is left to be written, over what the map has, is what was to be written over what it had.
use Rattle.std.{proofs.Common.{◌≡◌, true, vec_len}, specs.{Prelude.{unwrap_or}, List.{AllByRecursion}}}
use Rattle.title_land.specs.declared.survey.Cell.{Cell}
use Rattle.title_cell_store.specs.CellMaps.{content_of, is_there, kept_at, kept_cells}
use Rattle.title_cell_store.proofs.cell_map.CellMap.write_all.Given as goal

abbrev pub invariant-loop-cell : goal.invariant-loop-cell
invariant-loop-cell l = record {
  content : (c : Cell) → unwrap_or (kept_at l.fn.kept.items c) (content_of l.fn.self c)
      ≡ unwrap_or (kept_at l.kept.items c) (content_of l.self c);
  stays : (c : Cell) → is_there l.fn.self c ≡ true → is_there l.self c ≡ true;
  there : AllByRecursion (λ c. is_there l.self c ≡ true) (kept_cells l.kept.items);
}

abbrev pub decreases-loop-cell : goal.decreases-loop-cell
decreases-loop-cell l = vec_len l.kept
