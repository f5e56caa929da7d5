-- At each index before this one the rows are the same.
use Rattle.std.proofs.Common.{◌≡◌, ◌<◌, ℕ, slice_get}
use Rattle.title_chain.proofs.same_sheets.same_row_by_row.Given as goal

abbrev pub invariant-loop-index : goal.invariant-loop-index
invariant-loop-index l = (k : ℕ) → k < l.index → slice_get l.a k ≡ slice_get l.b k
