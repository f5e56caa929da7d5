-- What the store and the index give is what the ask gets alone; what is open looks as it did.
use Rattle.std.proofs.Common.{◌∙◌, ap, refl, reverse}
use Rattle.title_chain.specs.declared.ask.Answer.TheVariants.{Entries, Rows}
use Rattle.title_desk.proofs.{States.{keeps_as}, Steps.{chain_due, sheet_due}}
use Rattle.title_desk.proofs.desk.Desk.read.Goals as goal

pub invariant_of-self-in_err-entries-in-Chain : goal.invariant_of-self-in_err-entries-in-Chain
invariant_of-self-in_err-entries-in-Chain g c =
    keeps_as c.self.invariant refl (ap reverse c.chain.ensures.records) c.chain.ensures.same refl (λ d. refl) refl refl

pub invariant_of-self-in-Chain : goal.invariant_of-self-in-Chain
invariant_of-self-in-Chain g c =
    keeps_as c.self.invariant refl (ap reverse c.chain.ensures.records) c.chain.ensures.same refl (λ d. refl) refl refl

pub returns-in_ok-rows-in-Sheet-clause-alone : goal.returns-in_ok-rows-in-Sheet-clause-alone
returns-in_ok-rows-in-Sheet-clause-alone g c =
    let free = rw (c.in-Sheet.is, ← c.self.view_is) at c.requires.free in
    rw (c.in-Sheet.is, ← c.self.view_is)
    (ap Rows c.in_ok-rows-in-Sheet.ensures.rows ∙ sheet_due c.args.examiner c.in-Sheet.tract c.self.invariant free)

pub returns-in_ok-entries-in-Chain-clause-alone : goal.returns-in_ok-entries-in-Chain-clause-alone
returns-in_ok-entries-in-Chain-clause-alone g c = rw (c.in-Chain.is, ← c.self.view_is)
    (ap Entries c.in_ok-entries-in-Chain.ensures.chain ∙ chain_due c.args.examiner c.in-Chain.tract c.self.invariant)
