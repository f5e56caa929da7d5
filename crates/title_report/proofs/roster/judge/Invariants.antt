-- The names of the words so far are judged.
use Rattle.std.{proofs.Common.{◌≡◌, length, map}, specs.String.{string_bytes}}
use Rattle.title_report.specs.Rosters.{AreJudged}
use Rattle.title_report.proofs.roster.judge.Given as goal

abbrev pub invariant-loop-word : goal.invariant-loop-word
invariant-loop-word l = AreJudged (map string_bytes l.names) l.words.items × (length l.words.items ≡ l.word)
