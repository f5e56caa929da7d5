-- The copy has the elements so far.
use Rattle.std.proofs.Common.{◌≡◌, take}
use Rattle.title_chain.proofs.lists.Records.copy_of.Given as goal

abbrev pub invariant-loop-record : goal.invariant-loop-record
invariant-loop-record l = l.items.items ≡ take l.record-index l.records
