-- Where the section has no one holding its quarters' parts are its own.
use Rattle.std.{proofs.Common.{◌≡◌, ◌∙◌, false, List, [], OnOk, subst, sym}, specs.Prelude.{is_some}}
use Rattle.title_land.specs.{Depth.{depth}, CellLists.{node_cells}}
use Rattle.title_land.specs.declared.node.Node.TheVariants as node
use Rattle.title_store.specs.{declared.sheet_row.SheetRow.{SheetRow}, Sheets.{one_holding}}
use Rattle.title_chain.specs.SheetParts.{all_rows}
use Rattle.title_desk.proofs.OfSections.{quarters_are}
use Rattle.title_desk.proofs.shown_store.ShownStore.add_estate.Goals as goal

pub returns-clause-rows : goal.returns-clause-rows
returns-clause-rows g c =
    let none = subst (λ s. false ≡ is_some (one_holding c.args.estate (g.S.Store.content s)
    (node_cells depth (g.S.Store.declared s) (node.Part c.args.section [])))) c.self.view_is
    (sym c.if-is_one.false ∙ c.in_ok-is_one.ensures.one) in
    subst (λ (xs : List SheetRow). OnOk c.add_quarters.result (all_rows c.add_quarters.new.parts.items ≡ xs))
    (quarters_are (g.S.Store.declared c.args.self.now) (g.S.Store.content c.args.self.now) c.args.section c.args.estate
    (all_rows c.args.parts.now.items) none)
    c.add_quarters.ensures.rows
