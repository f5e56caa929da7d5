-- What is left was there before.
use Rattle.std.proofs.Common.{◌∙◌, ap, subst, List}
use Rattle.title_store.specs.{Loans.{Loan, IsAmong}, Laws.LoanLaws.{among_without}}
use Rattle.title_cell_store.{specs.CellMaps.{loans_of}, proofs.LentLaws.{loans_without}}
use Rattle.title_cell_store.proofs.Backing.{backed_fewer}
use Rattle.title_cell_store.proofs.cell_store.CellStoreStore.forget.Goals as goal

pub invariant_of-self : goal.invariant_of-self
invariant_of-self c =
    let left = ap loans_of c.remove.ensures.entries ∙ loans_without c.args.image.number c.args.self.now.lent.entries c.args.self.now.ordered
    in
    record {
      ordered = c.remove.ensures.ordered;
      numbered = λ x i. c.args.self.now.numbered x (among_without x c.args.image.number (loans_of c.args.self.now.lent.entries)
          (subst (λ (out : List Loan). IsAmong x out) left i));
      backed = backed_fewer c.args.self.now.townships.items c.args.self.now.map c.args.self.now.lent c.remove.new.self c.args.image.number
          c.remove.ensures.updates.0 c.args.self.now.backed;
    }

pub returns-clause-out : goal.returns-clause-out
returns-clause-out c = ap loans_of c.remove.ensures.entries
    ∙ loans_without c.args.image.number c.args.self.now.lent.entries c.args.self.now.ordered
