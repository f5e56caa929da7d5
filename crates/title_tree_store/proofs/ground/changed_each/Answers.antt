use Rattle.std.proofs.{Common.{◌<◌, arith}, lemmas.Result.{err_from_is_err_and}}
use Rattle.title_tree.specs.Trees.{plot}
use Rattle.title_tree_store.{specs.Grounds.{nothing}, proofs.GroundLaws.{read_at}}
use Rattle.title_tree_store.proofs.ground.changed_each.Goals as goal

pub returns-in_err-changed-clause-why : goal.returns-in_err-changed-clause-why
returns-in_err-changed-clause-why g c =
    let out = err_from_is_err_and c.from_residual-in_err-changed.result c.from_residual-in_err-changed.ensures.1 in
    let lt : c.loop-tree.tree-index < 36 = omega arith in
    let read = read_at plot c.args.trees.now c.loop-tree.tree-index c.tree-item.result nothing c.loop-tree-test.true c.tree-item.is in
    rw (out.1, out.2) (c.loop-tree.tree-index, lt, rw (read, ← c.loop-tree.invariant.same) c.in_err-changed.ensures.why)
