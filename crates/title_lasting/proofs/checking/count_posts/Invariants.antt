use Rattle.std.proofs.Common.{◌≡◌, map, reverse, take}
use Rattle.title_standing.specs.Records.{record_of}
use Rattle.title_lasting.specs.Tells.{posts_in, told_number}
use Rattle.title_lasting.proofs.checking.count_posts.Given as goal

abbrev pub invariant-loop-kept : goal.invariant-loop-kept
invariant-loop-kept l = l.posts ≡ told_number (posts_in (reverse (map record_of (take l.kept-index l.deeds))))
