-- The rows of the entries so far are added, and there is room for the others.
use Rattle.std.{proofs.Common.{◌≡◌, ◌+◌, ◌≤◌, ◌++◌, length, map, take}, specs.Vec.{vec_len, vec_capacity}}
use Rattle.title_tree_store.proofs.sheets.add_entries.Given as goal

abbrev pub invariant-loop-entry : goal.invariant-loop-entry
invariant-loop-entry l = (l.rows.items ≡ l.fn.rows.items
    ++ map (λ r. record { node = l.node; estate = l.estate; party = r.0; units = r.1 }) (take l.entry-index l.entries))
    × (vec_len l.rows + length l.entries ≤ vec_capacity l.rows + l.entry-index)
