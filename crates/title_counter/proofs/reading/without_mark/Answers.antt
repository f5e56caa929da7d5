-- What strip_prefix tells of a text's first bytes.
use Rattle.std.proofs.Common.{◌∙◌}
use Rattle.title_counter.proofs.RecordsOf.{marked, unmarked}
use Rattle.title_counter.proofs.reading.without_mark.Goals as goal

pub returns-in-Some : goal.returns-in-Some
returns-in-Some c = record { text = c.in-Some.ensures.cases.1 ∙ marked c.args.text.now c.in-Some.ensures.cases.0 }

pub returns-in-None : goal.returns-in-None
returns-in-None c = record { text = unmarked c.args.text.now c.in-None.ensures.cases }
