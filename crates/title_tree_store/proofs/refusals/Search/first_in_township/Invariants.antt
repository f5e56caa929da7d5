-- The first cell that refuses is among those of the sections that are left, which are the township's.
use Rattle.std.{proofs.Common.{◌≡◌}, specs.List.{flat_map}}
use Rattle.title_land.specs.{Depth.{depth}, declared.survey.Section.{Section}, CellLists.{section_cells, township_cells}, Laws.Members.{In}}
use Rattle.title_tree_store.specs.Refusing.{first_for}
use Rattle.title_tree_store.proofs.refusals.Search.first_in_township.Given as goal

abbrev pub invariant-loop-section : goal.invariant-loop-section
invariant-loop-section l =
    (first_for l.self (township_cells depth l.fn.township) ≡ first_for l.self (flat_map (section_cells depth) l.section-iterator))
    × ((s : Section) → In s l.section-iterator → s.township ≡ l.fn.township)
