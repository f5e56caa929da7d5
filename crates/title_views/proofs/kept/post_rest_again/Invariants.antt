-- The plant was made of the records so far.
use Rattle.title_views.specs.Views.{IsMade}
use Rattle.title_views.proofs.kept.post_rest_again.Given as goal

abbrev pub invariant-loop-index : goal.invariant-loop-index
invariant-loop-index g l =
    IsMade (g.S.Store.declared l.initial.store) l.records l.index (g.S.Store.content l.store) (g.S.Store.declared l.store)
    (g.S.Store.out l.store)
