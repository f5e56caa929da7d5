-- The front and the page begin one ledger, and the page lacks one entry at most.
use Rattle.std.proofs.{Common.{◌≡◌, ◌+◌, length, arith, ap, ◌∙◌}, lemmas.Bool.Decides.{nat_tests}}
use Rattle.title_ledger.specs.{Ledgers.{IsSettled}, Laws.Entries.{covers_more, covers_last}}
use Rattle.title_ledger.proofs.front.Front.covered_by.Goals as goal

pub returns-then-begins-clause-covered : goal.returns-then-begins-clause-covered
returns-then-begins-clause-covered g c h =
    rw (← c.self.view_is) (covers_more c.self.inside.page.log c.args.page.now.log (c.begins.ensures.this h))

pub returns-else-begins-clause-covered : goal.returns-else-begins-clause-covered
returns-else-begins-clause-covered g c h =
    let settled : IsSettled c.self.inside.page.log = rw c.self.view_is c.requires.settled in
    let its : c.self-inside.inside.0.0.entries ≡ length c.self.inside.page.log =
    c.self-inside.invariant ∙ ap (λ f. length f.page.log) c.self-inside.view_is in
    let mine : c.page.inside.entries ≡ length c.args.page.now.log = c.page.invariant ∙ ap (λ p. length p.log) c.page.view_is in
    let long : length c.self.inside.page.log ≡ length c.args.page.now.log + 1 = grind (arith, nat_tests, h, its, mine) in
    rw (← c.self.view_is) (covers_last c.self.inside.page.log c.args.page.now.log settled (c.begins.ensures.that c.if-begins.false) long)
