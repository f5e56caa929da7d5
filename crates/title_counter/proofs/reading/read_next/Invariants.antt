-- What is left to read is the same from here on.
use Rattle.std.proofs.Common.{◌≡◌, [], drop}
use Rattle.csv.specs.{Machine.{next_record}, Reading.{default_config}, Records.{fields_of, partial_of}}
use Rattle.title_counter.specs.Positions.{state_of}
use Rattle.title_counter.proofs.reading.read_next.Given as goal

abbrev pub invariant-loop-at : goal.invariant-loop-at
invariant-loop-at l = record {
  same : next_record default_config (state_of l.fn.position) [] [] (drop l.fn.from l.text)
      ≡ next_record default_config (state_of l.position) (fields_of l.begun.raw) l.begun.field.items (drop l.at l.text);
  clean : partial_of l.begun.raw ≡ [];
}
