-- The record is tried, published and committed, or tried alone.
use Rattle.std.proofs.Common.{[], ◌∷◌, ◌++◌, ap, sym, ◌∙◌}
use Rattle.title_ledger.specs.Ledgers.{sure_of}
use Rattle.title_views.proofs.Additions.{tried_lists, settled_lists}
use Rattle.title_views.proofs.fronts.Fronts.add.Goals as goal

pub publish_one-requires-clause-page : goal.publish_one-requires-clause-page
publish_one-requires-clause-page g c =
    let t = tried_lists c.self.inside.last c.page.result.log c.args.rec c.self.inside.writer.desk.shown.value.records
    (c.page.ensures.log ∙ c.tried-tried.ensures.tried) c.self.invariant.0 in
    (c.page.ensures.book, t.1)

pub invariant_of-self : goal.invariant_of-self
invariant_of-self g c =
    let i = c.self.invariant in
    let t = tried_lists c.self.inside.last c.tried-tried.result c.args.rec c.self.inside.writer.desk.shown.value.records
    c.tried-tried.ensures.tried i.0 in
    let shown = c.in_err-publish_one.ensures.shown in
    (t.0 ∙ sym shown, i.1 ∙ sym shown, i.2, c.in_err-publish_one.ensures.places)

pub invariant_of-self-2 : goal.invariant_of-self-2
invariant_of-self-2 g c =
    let was = c.self.inside.writer.desk.shown.value.records in
    let t = tried_lists c.self.inside.last c.tried-tried.result c.args.rec was c.tried-tried.ensures.tried c.self.invariant.0 in
    let s = settled_lists c.tried-tried.result c.settled.result (was ++ c.args.rec ∷ []) c.settled.ensures.settled t.1 in
    let shown = c.in_ok-publish_one.ensures.shown in (
      ap sure_of c.again.ensures.again ∙ s.0 ∙ sym shown,
      s.0 ∙ sym shown,
      s.1,
      c.in_ok-publish_one.ensures.places,
    )
