-- The second image goes back before the third, with which it shares no cell.
use Rattle.std.proofs.Common.{◌∙◌, sym, ap, subst}
use Rattle.title_store.specs.{Loans.{IsOut, IsLast, without}, Laws.Taken.{image_out, image_last, taken_out}}
use Rattle.title_tests.proofs.Earlier.{earlier_out, earlier_last, without_earlier}
use Rattle.title_tests.proofs.images.second_goes_first.Goals as goal

pub restore-requires-clause-out : goal.restore-requires-clause-out
restore-requires-clause-out g c = earlier_out c.put-second.ensures.taken c.put-third.ensures.taken

pub restore-requires-clause-last : goal.restore-requires-clause-last
restore-requires-clause-last g c =
    earlier_last c.put-second.ensures.taken c.put-third.ensures.taken (sym c.meets.ensures.meets ∙ c.if-meets.false)

pub restore-requires-2-clause-out : goal.restore-requires-2-clause-out
restore-requires-2-clause-out g c = subst (IsOut (g.S.Store.number c.put-third.result)) (sym c.restore.ensures.out)
    (image_out (without_earlier c.put-second.ensures.taken c.put-third.ensures.taken))

pub restore-requires-2-clause-last : goal.restore-requires-2-clause-last
restore-requires-2-clause-last g c = subst (IsLast (g.S.Store.number c.put-third.result)) (sym c.restore.ensures.out)
    (image_last (without_earlier c.put-second.ensures.taken c.put-third.ensures.taken))

pub returns : goal.returns
returns g c = record {
  out = c.restore-2.ensures.out ∙ ap (without (g.S.Store.number c.put-third.result)) c.restore.ensures.out
      ∙ taken_out (without_earlier c.put-second.ensures.taken c.put-third.ensures.taken);
}
