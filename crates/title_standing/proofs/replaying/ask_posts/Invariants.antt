-- The posts so far were posted.
use Rattle.std.proofs.Common.{◌≡◌, map, reverse, take}
use Rattle.title_standing.specs.{Standing.{asked_by}, Records.{posted_step}}
use Rattle.title_standing.proofs.replaying.ask_posts.Given as goal

abbrev pub invariant-loop-posting : goal.invariant-loop-posting
invariant-loop-posting g l = record {
  setting : l.desk.setting ≡ l.initial.desk.setting;
  posted : l.desk.trace ≡ asked_by l.examiner (reverse (map posted_step (take l.posting-index l.posts))) l.initial.desk.trace;
}
