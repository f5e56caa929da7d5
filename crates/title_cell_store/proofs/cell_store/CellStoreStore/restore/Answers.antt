-- The image that is found holds what its cells held, and each has a slot.
use Rattle.std.{proofs.Common.{◌≡◌, ◌∙◌, true, refl, sym, ap, subst, List, Option}, specs.Option.{IsSome}}
use Rattle.title_cell_store.specs.{declared.kept.Lent.{Lent}, CellMaps.{is_there, loans_of}}
use Rattle.title_store.specs.Loans.{Loan, IsAmong}
use Rattle.title_cell_store.proofs.LentLaws.{loans_without, found_as}
use Rattle.title_store.specs.Laws.LoanLaws.{among_without}
use Rattle.title_cell_store.proofs.Backing.{each_kept, backed_stays, backed_fewer, restored}
use Rattle.title_cell_store.proofs.cell_store.CellStoreStore.restore.Goals as goal

pub unwrap-lent-requires : goal.unwrap-lent-requires
unwrap-lent-requires c =
    let found = found_as c.args.image.number c.args.self.now.lent.entries c.args.self.now.ordered c.requires.out.0 c.requires.out.1 in
    subst (λ (o : Option Lent). IsSome o) (sym (c.remove.ensures.value ∙ found.1)) refl

pub write_all-requires : goal.write_all-requires
write_all-requires c =
    let is = sym c.remove.ensures.value ∙ c.unwrap-lent.ensures in
    let backed = c.args.self.now.backed c.args.image.number c.unwrap-lent.result is in
    record {
      there = each_kept (λ x. is_there c.args.self.now.map x ≡ true) c.unwrap-lent.result.old.items
          (λ x h. (backed x).1 (sym (backed x).0 ∙ h));
    }

pub invariant_of-self : goal.invariant_of-self
invariant_of-self c =
    let left = ap loans_of c.remove.ensures.entries ∙ loans_without c.args.image.number c.args.self.now.lent.entries c.args.self.now.ordered
    in
    record {
      ordered = c.remove.ensures.ordered;
      numbered = λ x i. c.args.self.now.numbered x (among_without x c.args.image.number (loans_of c.args.self.now.lent.entries)
          (subst (λ (out : List Loan). IsAmong x out) left i));
      backed = backed_fewer c.args.self.now.townships.items c.write_all.new.self c.args.self.now.lent c.remove.new.self c.args.image.number
          c.remove.ensures.updates.0
          (backed_stays c.args.self.now.townships.items c.args.self.now.map c.write_all.new.self c.args.self.now.lent
          c.write_all.ensures.stays c.args.self.now.backed);
    }

pub returns-clause-content : goal.returns-clause-content
returns-clause-content c =
    restored c.args.self.now.townships.items c.args.self.now.map c.write_all.new.self c.args.self.now.lent c.args.image.number
    c.unwrap-lent.result
    (sym c.remove.ensures.value ∙ c.unwrap-lent.ensures) c.args.self.now.ordered c.args.self.now.backed c.write_all.ensures.content

pub returns-clause-out : goal.returns-clause-out
returns-clause-out c = ap loans_of c.remove.ensures.entries
    ∙ loans_without c.args.image.number c.args.self.now.lent.entries c.args.self.now.ordered
