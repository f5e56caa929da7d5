-- The set has the cells so far that the text has.
use Rattle.title_spelling.{specs.Cells.{is_marked}, proofs.Marked.{HasFirst}}
use Rattle.title_spelling.proofs.cells.marked.Given as goal

abbrev pub invariant-loop-number : goal.invariant-loop-number
invariant-loop-number l = HasFirst (is_marked l.rows) l.number l.cells
