-- The rows of the entries so far are added.
use Rattle.std.proofs.Common.{◌≡◌, ◌++◌, map, take}
use Rattle.title_cell_store.proofs.sheets.add_entries.Given as goal

abbrev pub invariant-loop-entry : goal.invariant-loop-entry
invariant-loop-entry l = l.rows.items ≡ l.fn.rows.items
    ++ map (λ r. record { node = l.node; estate = l.estate; party = r.0; units = r.1 }) (take l.entry-index l.entry-items)
