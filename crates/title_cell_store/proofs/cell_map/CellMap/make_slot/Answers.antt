-- A new slot holds the opening owners, so nothing changes hands.
use Rattle.std.proofs.Common.{◌∙◌, sym, subst}
use Rattle.title_instrument.specs.declared.owners.Owners.{Owners}
use Rattle.title_cell_store.proofs.MapLaws.{Writes, slot_content, written_stays}
use Rattle.title_cell_store.proofs.cell_map.CellMap.make_slot.Goals as goal

pub returns-clause-content : goal.returns-clause-content
returns-clause-content c =
    slot_content c.args.self.now.owners c.insert.new.self c.args.cell
    (subst (λ (w : Owners). Writes c.args.self.now.owners c.insert.new.self c.args.cell w)
    (c.in_ok-owners.ensures.copy ∙ c.args.self.now.opens) c.in_ok-insert.ensures.updates.0)
    (sym c.contains_key.ensures ∙ c.if-contains_key.false)

pub returns-clause-stays : goal.returns-clause-stays
returns-clause-stays c = written_stays c.args.self.now.owners c.insert.new.self c.args.cell c.in_ok-owners.owners
    c.in_ok-insert.ensures.updates.0
