-- What is made at the first path, and then at the others, is what would be made at all.
use Rattle.std.proofs.{Common.{◌∙◌, [], refl, subst, sym}, lemmas.Result.{err_from_is_err_and}}
use Rattle.title_tree.specs.{Faults.{Tells}, Pieces.{Disjoint}}
use Rattle.title_tree.specs.Laws.{Adding.{stays_refines, stays_within, stays_elsewhere, refusal_more, fresh_more}, Depths.{within_split}}
use Rattle.title_tree.specs.Laws.{Joined.{elsewhere_more}, Swaps.{on_err, refines_split}}
use Rattle.title_tree_store.proofs.forest.changed_at.Goals as goal

pub returns-in_err-parts-clause-err : goal.returns-in_err-parts-clause-err
returns-in_err-parts-clause-err c =
    refines_split c.from_residual-in_err-parts.result _ _ _ _ c.in_ok-tree.ensures.split (on_err _ _ (stays_refines _))

pub returns-in_err-parts-clause-err_fits : goal.returns-in_err-parts-clause-err_fits
returns-in_err-parts-clause-err_fits c =
    within_split c.from_residual-in_err-parts.result c.in-Some.first.now c.in-Some.rest.now c.args.paths.now _ _ _
    c.in-Some.ensures.cases.0 c.in_ok-tree.ensures.split (on_err _ _ (stays_within _ _))

pub returns-in_err-parts-clause-err_elsewhere : goal.returns-in_err-parts-clause-err_elsewhere
returns-in_err-parts-clause-err_elsewhere c =
    elsewhere_more c.from_residual-in_err-parts.result c.in-Some.first.now c.in-Some.rest.now c.args.paths.now _ _ _
    c.in-Some.ensures.cases.0 c.in_ok-tree.ensures.split (on_err _ _ (stays_elsewhere _ _))

pub returns-in_err-add_changed-clause-why : goal.returns-in_err-add_changed-clause-why
returns-in_err-add_changed-clause-why c =
    let out = err_from_is_err_and c.from_residual-in_err-add_changed.result c.from_residual-in_err-add_changed.ensures.1 in
    rw (out.1, out.2) (subst (Tells _)
    (refusal_more _ c.in-Some.first.now c.in-Some.rest.now c.args.paths.now _ _ c.in-Some.ensures.cases.0 c.in_ok-tree.ensures.split
    (subst Disjoint c.in-Some.ensures.cases.0 c.requires.disjoint).0 c.in_ok-tree.ensures.none)
    (rw c.changed_at.ensures.same at c.in_err-add_changed.ensures.why))

pub returns-in_err-add_changed-clause-err : goal.returns-in_err-add_changed-clause-err
returns-in_err-add_changed-clause-err c =
    refines_split c.from_residual-in_err-add_changed.result _ _ _ _ c.in_ok-tree.ensures.split
    (on_err _ _ c.in_err-add_changed.ensures.err)

pub returns-in_err-add_changed-clause-err_fits : goal.returns-in_err-add_changed-clause-err_fits
returns-in_err-add_changed-clause-err_fits c =
    within_split c.from_residual-in_err-add_changed.result c.in-Some.first.now c.in-Some.rest.now c.args.paths.now _ _ _
    c.in-Some.ensures.cases.0 c.in_ok-tree.ensures.split (on_err _ _ c.in_err-add_changed.ensures.err_fits)

pub returns-in_err-add_changed-clause-err_elsewhere : goal.returns-in_err-add_changed-clause-err_elsewhere
returns-in_err-add_changed-clause-err_elsewhere c =
    elsewhere_more c.from_residual-in_err-add_changed.result c.in-Some.first.now c.in-Some.rest.now c.args.paths.now _ _ _
    c.in-Some.ensures.cases.0 c.in_ok-tree.ensures.split (on_err _ _ c.in_err-add_changed.ensures.err_elsewhere)

pub returns-clause-none : goal.returns-clause-none
returns-clause-none c =
    sym (refusal_more _ c.in-Some.first.now c.in-Some.rest.now c.args.paths.now _ _ c.in-Some.ensures.cases.0 c.in_ok-tree.ensures.split
    (subst Disjoint c.in-Some.ensures.cases.0 c.requires.disjoint).0 c.in_ok-tree.ensures.none)
    ∙ (rw c.changed_at.ensures.same at c.in_ok-add_changed.ensures.none)

pub returns-clause-new : goal.returns-clause-new
returns-clause-new c =
    fresh_more _ c.in-Some.first.now c.in-Some.rest.now c.args.paths.now _ _ [] _ _ c.in-Some.ensures.cases.0 c.in_ok-tree.ensures.split
    (subst Disjoint c.in-Some.ensures.cases.0 c.requires.disjoint).0
    (rw (c.push_reserved.ensures.items, c.in_ok-parts.ensures.items, c.in_ok-tree.ensures.new) refl)
    (rw c.changed_at.ensures.same at c.in_ok-add_changed.ensures.new)
