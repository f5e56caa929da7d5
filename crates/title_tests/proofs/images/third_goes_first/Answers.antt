-- The newest image goes back first.
use Rattle.std.proofs.Common.{◌∙◌, sym, ap, subst}
use Rattle.title_store.specs.{Loans.{IsOut, IsLast, without}, Laws.Taken.{image_out, image_last, taken_out}}
use Rattle.title_tests.proofs.images.third_goes_first.Goals as goal

pub restore-requires-clause-out : goal.restore-requires-clause-out
restore-requires-clause-out g c = image_out c.put-third.ensures.taken

pub restore-requires-clause-last : goal.restore-requires-clause-last
restore-requires-clause-last g c = image_last c.put-third.ensures.taken

pub restore-requires-2-clause-out : goal.restore-requires-2-clause-out
restore-requires-2-clause-out g c = subst (IsOut (g.S.Store.number c.put-second.result))
    (sym (c.restore.ensures.out ∙ taken_out c.put-third.ensures.taken)) (image_out c.put-second.ensures.taken)

pub restore-requires-2-clause-last : goal.restore-requires-2-clause-last
restore-requires-2-clause-last g c = subst (IsLast (g.S.Store.number c.put-second.result))
    (sym (c.restore.ensures.out ∙ taken_out c.put-third.ensures.taken)) (image_last c.put-second.ensures.taken)

pub returns : goal.returns
returns g c = record {
  out = c.restore-2.ensures.out
      ∙ ap (without (g.S.Store.number c.put-second.result)) (c.restore.ensures.out ∙ taken_out c.put-third.ensures.taken)
      ∙ taken_out c.put-second.ensures.taken;
}
