-- The rows so far are kept, and there is room for the others.
use Rattle.std.{proofs.Common.{◌≡◌, ◌+◌, ◌≤◌, length, map, take}, specs.Vec.{vec_len, vec_capacity}}
use Rattle.title_chain.specs.SquareRows.{row_in}
use Rattle.title_chain.proofs.square_row.squares_of.Given as goal

abbrev pub invariant-loop-row : goal.invariant-loop-row
invariant-loop-row l = (map (row_in l.section l.estate) l.squares.items ≡ take l.row-index l.rows)
    × (vec_len l.squares + length l.rows ≤ vec_capacity l.squares + l.row-index)
