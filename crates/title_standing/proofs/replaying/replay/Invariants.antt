-- The records so far stand, and the place is their number.
use Rattle.std.proofs.Common.{◌≡◌, map, reverse, take}
use Rattle.title_standing.specs.{Standing.{replayed}, Records.{record_of}}
use Rattle.title_standing.proofs.replaying.replay.Given as goal

abbrev pub invariant-loop-kept : goal.invariant-loop-kept
invariant-loop-kept g l = record {
  setting : l.desk.setting ≡ l.initial.desk.setting;
  stand : l.desk.trace ≡ replayed (reverse (map record_of (take l.kept-index l.deeds)));
  counted : l.place ≡ l.kept-index;
}
