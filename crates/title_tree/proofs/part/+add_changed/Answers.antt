-- What is made at the first path, and then at the others, is what would be made at all.
use Rattle.std.proofs.{Common.{subst, ◌≡◌, None, Option}, lemmas.Result.{on_ok_weaker}}
use Rattle.std.specs.Prelude.{IfErr, OnOk}
use Rattle.title_tree.specs.{Faults.{Tells}, Pieces.{Disjoint}}
use Rattle.title_tree.specs.Laws.{Depths.{within_split}, Joined.{elsewhere_more}, Swaps.{on_err, refines_split}}
use Rattle.title_tree.specs.Laws.Adding.{stays_refines, stays_within, stays_elsewhere, refusal_more, fresh_more}
use Rattle.title_tree.proofs.part.+add_changed.Goals as goal

pub returns-in_err-push_part-clause-err : goal.returns-in_err-push_part-clause-err
returns-in_err-push_part-clause-err g t c =
    refines_split c.from_residual-in_err-push_part.result _ _ _ _ c.in_ok-tree.ensures.split (on_err _ _ (stays_refines _))

pub returns-in_err-push_part-clause-err_fits : goal.returns-in_err-push_part-clause-err_fits
returns-in_err-push_part-clause-err_fits g t c =
    within_split c.from_residual-in_err-push_part.result c.in-Some.path.now c.in-Some.rest.now c.args.paths.now _ _ _
    c.in-Some.ensures.cases.0 c.in_ok-tree.ensures.split (on_err _ _ (stays_within _ _))

pub returns-in_err-push_part-clause-err_elsewhere : goal.returns-in_err-push_part-clause-err_elsewhere
returns-in_err-push_part-clause-err_elsewhere g t c =
    elsewhere_more c.from_residual-in_err-push_part.result c.in-Some.path.now c.in-Some.rest.now c.args.paths.now _ _ _
    c.in-Some.ensures.cases.0 c.in_ok-tree.ensures.split (on_err _ _ (stays_elsewhere _ _))

pub returns-clause-none : goal.returns-clause-none
returns-clause-none g t c =
    subst (λ (z : Option _). OnOk c.add_changed.result (z ≡ None))
    (refusal_more _ c.in-Some.path.now c.in-Some.rest.now c.args.paths.now _ _ c.in-Some.ensures.cases.0 c.in_ok-tree.ensures.split
    (subst Disjoint c.in-Some.ensures.cases.0 c.requires.disjoint).0 c.in_ok-tree.ensures.none)
    (rw c.changed_at.ensures.same at c.add_changed.ensures.none)

pub returns-clause-new : goal.returns-clause-new
returns-clause-new g t c =
    on_ok_weaker c.add_changed.result
    (fresh_more _ c.in-Some.path.now c.in-Some.rest.now c.args.paths.now _ _ _ _ _ c.in-Some.ensures.cases.0 c.in_ok-tree.ensures.split
    (subst Disjoint c.in-Some.ensures.cases.0 c.requires.disjoint).0 (rw c.in_ok-tree.ensures.new at c.in_ok-push_part.ensures.parts))
    (rw c.changed_at.ensures.same at c.add_changed.ensures.new)

pub returns-clause-why : goal.returns-clause-why
returns-clause-why g t c =
    subst (λ (z : Option _). IfErr c.add_changed.result (λ fault. Tells fault z))
    (refusal_more _ c.in-Some.path.now c.in-Some.rest.now c.args.paths.now _ _ c.in-Some.ensures.cases.0 c.in_ok-tree.ensures.split
    (subst Disjoint c.in-Some.ensures.cases.0 c.requires.disjoint).0 c.in_ok-tree.ensures.none)
    (rw c.changed_at.ensures.same at c.add_changed.ensures.why)

pub returns-clause-err : goal.returns-clause-err
returns-clause-err g t c = refines_split _ _ _ _ _ c.in_ok-tree.ensures.split c.add_changed.ensures.err

pub returns-clause-err_fits : goal.returns-clause-err_fits
returns-clause-err_fits g t c =
    within_split c.add_changed.result c.in-Some.path.now c.in-Some.rest.now c.args.paths.now _ _ _ c.in-Some.ensures.cases.0
    c.in_ok-tree.ensures.split c.add_changed.ensures.err_fits

pub returns-clause-err_elsewhere : goal.returns-clause-err_elsewhere
returns-clause-err_elsewhere g t c =
    elsewhere_more c.add_changed.result c.in-Some.path.now c.in-Some.rest.now c.args.paths.now _ _ _ c.in-Some.ensures.cases.0
    c.in_ok-tree.ensures.split c.add_changed.ensures.err_elsewhere
