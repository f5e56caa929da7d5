-- The puts so far are joined.
use Rattle.std.proofs.Common.{take}
use Rattle.title_tree_store.specs.Forests.{AreTidied}
use Rattle.title_tree_store.proofs.forest.tidy_written.Given as goal

abbrev pub invariant-loop-put : goal.invariant-loop-put
invariant-loop-put l = AreTidied l.estate (take l.put-index l.written) l.fn.grounds l.grounds
