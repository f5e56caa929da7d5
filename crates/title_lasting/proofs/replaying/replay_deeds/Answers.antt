-- The replay stopped at the first record that can't stand.
use Rattle.std.proofs.Common.{map}
use Rattle.title_standing.specs.Records.{record_of}
use Rattle.title_lasting.proofs.Refused.{refused_at}
use Rattle.title_lasting.proofs.replaying.replay_deeds.Goals as goal

pub returns-in-Some : goal.returns-in-Some
returns-in-Some c = let was = c.deref_mut.ensures.value in record {
  replayed = refused_at c.replayed_records_are_committed.ensures.law c.kept_records_are_served_again.ensures.serial
      c.args.townships.now (map record_of c.args.deeds.now) c.in_ok-refused.refused c.in-Some.place c.in_ok-desk.desk.value
      c.replay.new.desk c.in_ok-desk.ensures.setting (rw was at c.replay.ensures.setting) (rw was at c.in_ok-refused.ensures.told)
      c.in-Some.is (rw c.deref.ensures at c.is_serial.ensures.committed_records) c.requires.short;
}
