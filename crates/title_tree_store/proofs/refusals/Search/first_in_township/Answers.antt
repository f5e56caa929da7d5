-- The sections come in their order.
use Rattle.std.{proofs.Common.{◌∙◌, inl, inr, refl, sym}, specs.List.{flat_map}}
use Rattle.title_land.specs.{Depth.{depth}, CellLists.{section_cells}, Laws.CellMembers.{sections_of-in}}
use Rattle.title_tree_store.proofs.Firsts.{section_is, first_here, first_later}
use Rattle.title_tree_store.proofs.refusals.Search.first_in_township.Goals as goal

pub returns-then-is_some : goal.returns-then-is_some
returns-then-is_some c = record {
  first = rw (c.loop-section.invariant.0, c.in-Some.ensures.steps) (first_here c.args.self.now
      (section_cells depth c.in-Some.section) (flat_map (section_cells depth) c.next.new.self) c.first_in_node-found.result
      (c.first_in_node-found.ensures.first ∙ section_is c.args.self.now c.in-Some.section _ c.node.ensures.node)
      (sym c.is_some.ensures ∙ c.if-is_some.true));
}

pub loop-section-preserved : goal.loop-section-preserved
loop-section-preserved c = (
  rw (c.loop-section.invariant.0, c.in-Some.ensures.steps) (first_later c.args.self.now
      (section_cells depth c.in-Some.section) (flat_map (section_cells depth) c.next.new.self) c.first_in_node-found.result
      (c.first_in_node-found.ensures.first ∙ section_is c.args.self.now c.in-Some.section _ c.node.ensures.node)
      (sym c.is_some.ensures ∙ c.if-is_some.false)),
  λ s i. c.loop-section.invariant.1 s (rw c.in-Some.ensures.steps (inr i)),
)

pub loop-section-init : goal.loop-section-init
loop-section-init c =
    let all = c.into_iter-section-iterator.ensures.into_iter_gives ∙ c.sections-section-items.ensures.sections in
    (rw all refl, λ s i. sections_of-in c.args.township s (rw all at i))

pub section_trees-trees-requires : goal.section_trees-trees-requires
section_trees-trees-requires c =
    let mine = c.loop-section.invariant.1 c.in-Some.section (rw c.in-Some.ensures.steps (inl refl)) in
    record { sized = c.requires.sized; of = rw mine c.requires.of }
