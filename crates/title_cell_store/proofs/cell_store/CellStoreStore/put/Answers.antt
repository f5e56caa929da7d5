-- A put that is refused leaves all as it was; one that is done lends what the tract's cells held.
use Rattle.std.{proofs.Common.{◌∙◌, ◌<◌, ℕ, None, refl, sym, ap, subst, List, arith}, specs.List.{AllByRecursion}}
use Rattle.title_land.specs.{Depth.{depth}, declared.survey.{Cell.{Cell}, Township.{Township}}, CellLists.{cells_of}}
use Rattle.title_instrument.specs.Effect.{cell_effect}
use Rattle.title_cell_store.specs.declared.kept.Lent.{Lent}
use Rattle.title_store.specs.{Loans.{AllBelow}, Plants.{first_failing, done_or}}
use Rattle.title_cell_store.{specs.CellMaps.{content_of, keep_from, loans_of}, proofs.MapLaws.{refused_content, post_content}}
use Rattle.title_store.specs.Laws.RefusedPuts.{refused_by}
use Rattle.title_cell_store.proofs.{Backing.{backed_stays, backed_same}, Puts.{below_after, taken, backed_after, slots_kept}}
use Rattle.title_store.specs.Laws.RefusedPuts.{refused_put}
use Rattle.title_cell_store.proofs.cell_store.CellStoreStore.put.Goals as goal

pub returns-in-Refused-clause-put : goal.returns-in-Refused-clause-put
returns-in-Refused-clause-put c =
    let listed = c.deref-2.ensures.value ∙ c.in_ok-cells.ensures.cells
    ∙ ap (λ (ts : List Township). cells_of depth ts c.args.tract.now) c.deref.ensures.value in
    let failing = rw c.in-Refused.is at c.in_ok-rule.ensures.computed in (
      refused_put c.args.instrument.now (content_of c.args.self.now.map) c.args.self.now.townships.items c.args.tract.now
          c.deref-2.result.now _ c.node_of.result listed failing c.node_of.ensures.node,
      refl,
    )

pub returns-in-Refused-clause-content : goal.returns-in-Refused-clause-content
returns-in-Refused-clause-content c x =
    let listed = c.deref-2.ensures.value ∙ c.in_ok-cells.ensures.cells
    ∙ ap (λ (ts : List Township). cells_of depth ts c.args.tract.now) c.deref.ensures.value in
    let failing = rw c.in-Refused.is at c.in_ok-rule.ensures.computed in
    refused_content c.args.instrument.now (content_of c.args.self.now.map) c.args.self.now.townships.items c.args.tract.now x _
    (ap (first_failing c.args.instrument.now (content_of c.args.self.now.map)) (sym listed) ∙ failing)

pub invariant_of-self : goal.invariant_of-self
invariant_of-self c =
    record {
      ordered = c.args.self.now.ordered;
      numbered = c.args.self.now.numbered;
      backed = backed_stays c.args.self.now.townships.items c.args.self.now.map c.make_slots.new.self c.args.self.now.lent
          c.make_slots.ensures.stays c.args.self.now.backed;
    }

pub invariant_of-self-in-Break-branch-5 : goal.invariant_of-self-in-Break-branch-5
invariant_of-self-in-Break-branch-5 c =
    let same = c.in_err-insert-in-Done.ensures.err in
    record {
      ordered = c.insert.ensures.ordered;
      numbered = subst (λ (es : List (ℕ × Lent)). AllBelow c.args.self.now.next (loans_of es)) (sym same) c.args.self.now.numbered;
      backed = backed_same c.args.self.now.townships.items c.make_slots.new.self c.args.self.now.lent c.insert.new.self same
          (backed_stays c.args.self.now.townships.items c.args.self.now.map c.make_slots.new.self c.args.self.now.lent
          c.make_slots.ensures.stays c.args.self.now.backed);
    }

pub write_all-requires : goal.write_all-requires
write_all-requires c =
    let computed = rw c.in-Done.is at c.in_ok-rule.ensures.computed in
    record {
      there = slots_kept (λ x. done_or (content_of c.args.self.now.map x)
          (cell_effect c.args.instrument.now (content_of c.args.self.now.map x))) c.make_slots.new.self c.deref-2.result.now
          c.in-Done.new.items computed.2
          (subst (AllByRecursion _) (c.deref-in-Done.ensures.value ∙ sym c.deref-2.ensures.value)
          c.in_ok-make_slots-in-Done.ensures.there);
    }

pub invariant_of-self-in-Done : goal.invariant_of-self-in-Done
invariant_of-self-in-Done c =
    let listed = c.deref-2.ensures.value ∙ c.in_ok-cells.ensures.cells
    ∙ ap (λ (ts : List Township). cells_of depth ts c.args.tract.now) c.deref.ensures.value in
    let computed = rw c.in-Done.is at c.in_ok-rule.ensures.computed in
    let more : c.args.self.now.next < c.in-Some.next = omega (arith, c.in-Some.ensures) in
    record {
      ordered = c.insert.ensures.ordered;
      numbered = below_after c.args.self.now.lent c.insert.new.self c.args.self.now.next c.in-Some.next _ c.args.self.now.numbered more
          c.in_ok-insert-in-Done.ensures.entries;
      backed = backed_after (content_of c.args.self.now.map) c.args.self.now.townships.items c.args.tract.now c.deref-2.result.now
          c.args.self.now.map c.make_slots.new.self c.write_all.new.self
          c.args.self.now.lent c.insert.new.self c.args.self.now.next _ listed c.land-land.ensures.land computed.1
          c.make_slots.ensures.stays
          (subst (AllByRecursion _) (c.deref-in-Done.ensures.value ∙ sym c.deref-2.ensures.value) c.in_ok-make_slots-in-Done.ensures.there)
          c.write_all.ensures.stays c.in_ok-insert-in-Done.ensures.updates.0 c.args.self.now.backed;
    }

pub returns-clause-put : goal.returns-clause-put
returns-clause-put c =
    let listed = c.deref-2.ensures.value ∙ c.in_ok-cells.ensures.cells
    ∙ ap (λ (ts : List Township). cells_of depth ts c.args.tract.now) c.deref.ensures.value in
    let computed = rw c.in-Done.is at c.in_ok-rule.ensures.computed in (
      refused_by c.args.instrument.now (content_of c.args.self.now.map) c.args.self.now.townships.items c.args.tract.now None
          (ap (first_failing c.args.instrument.now (content_of c.args.self.now.map)) (sym listed) ∙ computed.0),
      taken (content_of c.args.self.now.map) c.args.self.now.townships.items c.args.tract.now c.deref-2.result.now c.args.self.now.lent
          c.insert.new.self c.args.self.now.next _
          listed c.land-land.ensures.land computed.1 c.args.self.now.numbered c.in_ok-insert-in-Done.ensures.entries,
    )

pub returns-clause-content : goal.returns-clause-content
returns-clause-content c x =
    let listed = c.deref-2.ensures.value ∙ c.in_ok-cells.ensures.cells
    ∙ ap (λ (ts : List Township). cells_of depth ts c.args.tract.now) c.deref.ensures.value in
    let computed = rw c.in-Done.is at c.in_ok-rule.ensures.computed in
    c.write_all.ensures.content x
    ∙ post_content c.args.instrument.now (content_of c.args.self.now.map) c.args.self.now.townships.items c.args.tract.now
    c.in-Done.new.items x (content_of c.make_slots.new.self x)
    (ap (first_failing c.args.instrument.now (content_of c.args.self.now.map)) (sym listed) ∙ computed.0)
    (computed.2 ∙ ap (keep_from (λ (y : Cell). done_or (content_of c.args.self.now.map y)
    (cell_effect c.args.instrument.now (content_of c.args.self.now.map y)))) listed)
    (c.make_slots.ensures.content x)
