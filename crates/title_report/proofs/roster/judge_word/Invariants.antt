-- The bits of the names so far.
use Rattle.std.{proofs.Common.{map}, specs.String.{string_bytes}}
use Rattle.title_report.proofs.Judged.{HasBits}
use Rattle.title_report.proofs.roster.judge_word.Given as goal

abbrev pub invariant-loop-at : goal.invariant-loop-at
invariant-loop-at l = HasBits (map string_bytes l.names) l.word l.at
