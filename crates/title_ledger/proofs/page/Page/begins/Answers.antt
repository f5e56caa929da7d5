-- Both pages begin what is then seen, so the shorter begins the longer.
use Rattle.std.proofs.{Common.{◌≤◌, List, length, ap, arith, subst}, lemmas.Bool.Decides.{nat_tests}}
use mathlib.Core.List.{IsPrefix}
use Rattle.title_ledger.specs.{declared.entry.Entry.{Entry}, Laws.Beginnings.{prefix_shorter}}
use Rattle.title_ledger.proofs.page.Page.begins.Goals as goal

pub returns-clause-this : goal.returns-clause-this
returns-clause-this c h =
    let this : IsPrefix c.self.inside.seen.log c.learn.new.self.log =
    subst (λ (l : List Entry). IsPrefix l c.learn.new.self.log) (ap (λ s. s.log) c.again-both.ensures) c.learn.ensures.2 in
    let less : length c.self.inside.seen.log ≤ length c.other.inside.seen.log =
    grind (arith, nat_tests, h, c.self.invariant, c.other.invariant) in
    rw (← c.self.view_is, ← c.other.view_is) (prefix_shorter c.self.inside.seen.log c.other.inside.seen.log c.learn.new.self.log
    this c.learn.ensures.3 less)

pub returns-clause-that : goal.returns-clause-that
returns-clause-that c h =
    let this : IsPrefix c.self.inside.seen.log c.learn.new.self.log =
    subst (λ (l : List Entry). IsPrefix l c.learn.new.self.log) (ap (λ s. s.log) c.again-both.ensures) c.learn.ensures.2 in
    let less : length c.other.inside.seen.log ≤ length c.self.inside.seen.log =
    grind (arith, nat_tests, h, c.self.invariant, c.other.invariant) in
    rw (← c.self.view_is, ← c.other.view_is) (prefix_shorter c.other.inside.seen.log c.self.inside.seen.log c.learn.new.self.log
    c.learn.ensures.3 this less)
