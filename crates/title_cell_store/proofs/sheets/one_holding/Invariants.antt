-- Each cell so far has the first cell's holding.
use Rattle.std.{proofs.Common.{◌≡◌, drop}, specs.List.{list_all}}
use Rattle.title_instrument.specs.Owners.{holding_of}
use Rattle.title_cell_store.specs.CellMaps.{content_of}
use Rattle.title_store.specs.Sheets.{same_division}
use Rattle.title_cell_store.proofs.sheets.one_holding.Given as goal

abbrev pub invariant-loop-cell : goal.invariant-loop-cell
invariant-loop-cell l =
    list_all (λ c. same_division (holding_of l.estate (content_of l.map c)) l.held) l.others
    ≡ list_all (λ c. same_division (holding_of l.estate (content_of l.map c)) l.held) (drop l.cell-index l.others)
