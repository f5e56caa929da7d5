-- What the scripts came to is what is settled.
use Rattle.std.proofs.Common.{map}
use Rattle.title_turns.specs.Dealt.{told_by}
use Rattle.title_day.proofs.office_day.run_opened.Goals as goal

pub returns-in-Ok-run_scripts-clause-made : goal.returns-in-Ok-run_scripts-clause-made
returns-in-Ok-run_scripts-clause-made g c = λ old is.
    c.settle.ensures.made old (map told_by c.args.scripts.items) (rw c.in-Ok-stood.is at is) c.in-Ok-run_scripts.ensures.runs

pub returns-in-Ok-run_scripts-clause-begins : goal.returns-in-Ok-run_scripts-clause-begins
returns-in-Ok-run_scripts-clause-begins g c = λ old is. c.settle.ensures.begins old (rw c.in-Ok-stood.is at is)
