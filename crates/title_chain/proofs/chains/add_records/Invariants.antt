-- The entries are those of the records so far, and the place is their number.
use Rattle.std.proofs.Common.{◌≡◌, ◌++◌, reverse, take}
use Rattle.title_chain.specs.Chains.{record_entries}
use Rattle.title_chain.proofs.chains.add_records.Given as goal

abbrev pub invariant-loop-record : goal.invariant-loop-record
invariant-loop-record l = record {
  listed : l.entries.items ≡ l.initial.entries.items ++ record_entries l.tract (reverse (take l.record-index l.records));
  counted : l.place ≡ l.record-index;
}
