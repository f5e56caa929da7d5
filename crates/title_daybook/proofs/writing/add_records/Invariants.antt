use Rattle.std.{proofs.Common.{◌≡◌, ◌++◌, map, take}, specs.{List.{flat_map}, String.{string_bytes}}}
use Rattle.title_daybook.specs.Added.{record_rows, text_of}
use Rattle.title_daybook.proofs.writing.add_records.Given as goal

abbrev pub invariant-loop-record : goal.invariant-loop-record
invariant-loop-record l =
    l.out.items ≡ l.fn.out.items ++ text_of (map string_bytes l.parties.keys) (flat_map record_rows (take l.record-index l.records))
