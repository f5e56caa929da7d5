-- When the others have gone back, the first image is the last that is out.
use Rattle.std.proofs.Common.{sym, subst}
use Rattle.title_store.specs.{Loans.{IsOut, IsLast}, Laws.Taken.{image_out, image_last}}
use Rattle.title_tests.proofs.images.go_back.Goals as goal

pub restore-requires-clause-out : goal.restore-requires-clause-out
restore-requires-clause-out g c =
    subst (IsOut (g.S.Store.number c.put-first.result)) (sym c.both_go_back.ensures.out) (image_out c.put-first.ensures.taken)

pub restore-requires-clause-last : goal.restore-requires-clause-last
restore-requires-clause-last g c =
    subst (IsLast (g.S.Store.number c.put-first.result)) (sym c.both_go_back.ensures.out) (image_last c.put-first.ensures.taken)
