-- The rows so far stand behind the section.
use Rattle.std.{proofs.Common.{◌≡◌, ◌++◌}, specs.{List.{flat_map, range_with_len}, String.{string_bytes}}}
use Rattle.title_land.specs.Grids.{grid_has}
use Rattle.title_spelling.specs.Cells.{row_text}
use Rattle.title_spelling.proofs.cells.spell_cells.Given as goal

abbrev pub invariant-loop-row : goal.invariant-loop-row
invariant-loop-row l = string_bytes l.text ≡ string_bytes l.initial.text ++ flat_map (row_text (grid_has l.cells)) (range_with_len 0 l.row)
