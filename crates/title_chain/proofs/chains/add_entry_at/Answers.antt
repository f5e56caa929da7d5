-- A spot past the records gives no entry, and else it gives that of its record's step.
use Rattle.std.proofs.{Common.{length, refl}, lemmas.{List.{append-nil}, Option.{slice_get_past, slice_get_read}}}
use Rattle.title_chain.proofs.chains.add_entry_at.Goals as goal

pub returns-in_default : goal.returns-in_default
returns-in_default c = record {
  added = rw (slice_get_past c.args.records.now c.args.spot.record c.in_default.ensures.lookup.3, append-nil) refl;
}

pub returns : goal.returns
returns c =
    let found = c.in-Some.ensures.lookup in
    let records = c.args.records.now in
    let is = slice_get_read records (length records) c.args.spot.record c.in-Some.record.now refl found.3.0 found.1 in
    record { added = rw is (rw c.as_slice-steps.ensures.slice at c.add_step_at.ensures.added) }
