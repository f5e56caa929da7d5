-- The sheets of the sections that are left are still to be added.
use Rattle.std.{proofs.Common.{◌≡◌, ◌++◌}, specs.List.{flat_map}}
use Rattle.title_land.specs.CellLists.{sections_of}
use Rattle.title_tree_store.specs.SquareSheets.{section_sheet}
use Rattle.title_tree_store.proofs.sheets.add_township.Given as goal

abbrev pub invariant-loop-section : goal.invariant-loop-section
invariant-loop-section l = l.rows.items ++ flat_map (section_sheet l.ground l.estate) l.section-iterator
    ≡ l.fn.rows.items ++ flat_map (section_sheet l.ground l.estate) (sections_of l.fn.township)
