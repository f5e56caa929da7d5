-- The next section, and those after it.
use Rattle.std.proofs.Common.{◌∙◌, sym, rules}
use Rattle.title_land.proofs.Sections.{left_next, left_none}
use Rattle.title_land.proofs.walks.SectionsIterator.next.Goals as goal

pub returns-in_err-section-clause-steps : goal.returns-in_err-section-clause-steps
returns-in_err-section-clause-steps c =
    let none = sym c.self.view_is ∙ left_none c.self.inside.township c.self.inside.next c.self.invariant c.in_err-section.ensures.new in
    search (rules, none)

pub returns-clause-steps : goal.returns-clause-steps
returns-clause-steps c = sym c.self.view_is ∙ left_next c.self.inside.township c.self.inside.next c.in_ok-section.section
    c.in_ok-section.ensures.new

pub returns-clause-goes : goal.returns-clause-goes
returns-clause-goes c =
    let steps = returns-clause-steps c in
    rw steps (search rules)
