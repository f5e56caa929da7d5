-- A chain is a step.
use Rattle.title_office.proofs.office.Office.chain.Goals as goal

pub returns : goal.returns
returns g c = record { answered = c.step.ensures.answered; own = c.step.ensures.own }
