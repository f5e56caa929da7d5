-- What was left to show of `step_may_begin`.
use Rattle.std.{proofs.Common.{◌∙◌, ◌++◌, List, ℕ, sym, ap}, specs.Str.{chars}}
use Rattle.title_aliquot.{specs.{Letters.{letters}, Readers.{description_at}, Views.{words_view}}, proofs.TextWalks.{step_letters}}
use Rattle.title_aliquot.specs.Laws.Whole.{got_begins, stuck_begins}
use Rattle.title_aliquot.proofs.describe.step_may_begin.Goals as goal

pub returns-in_default-clause-may : goal.returns-in_default-clause-may
returns-in_default-clause-may c =
    let both = c.of_both-reader.ensures.both ∙ ap (λ (z : List ℕ). letters (chars c.args.before.now) ++ z) step_letters in
    let got = ap description_at (sym both) ∙ c.in_default.ensures.read in
    rw c.is_done.ensures.done (got_begins _ (words_view c.in_default.field-0) c.description.new.self got)

pub returns-in-Stuck-clause-may : goal.returns-in-Stuck-clause-may
returns-in-Stuck-clause-may c =
    let both = c.of_both-reader.ensures.both ∙ ap (λ (z : List ℕ). letters (chars c.args.before.now) ++ z) step_letters in
    let stuck = ap description_at (sym both) ∙ (rw c.in-Stuck.is at c.in-Err.ensures.read) in
    rw c.is_done-in-Stuck.ensures.done (stuck_begins _ c.description.new.self stuck)
