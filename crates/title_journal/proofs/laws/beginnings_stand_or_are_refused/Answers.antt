use Rattle.title_journal.proofs.Beginning.{begins, too_short}
use Rattle.title_journal.proofs.laws.beginnings_stand_or_are_refused.Goals as goal

pub returns-clause-begins : goal.returns-clause-begins
returns-clause-begins c file blocks n is long = begins file blocks n is long

pub returns-clause-short : goal.returns-clause-short
returns-clause-short c file n short = too_short file n short
