-- One image more has been let go.
use Rattle.std.proofs.Common.{◌∙◌}
use Rattle.title_store.specs.Loans.{IsFirst}
use Rattle.title_desk.proofs.Loaned.{first_in_turn, gone_first}
use Rattle.title_desk.proofs.images.forget_all.Goals as goal

pub loop-image-preserved : goal.loop-image-preserved
loop-image-preserved g c =
    let s = g.S.Store in
    let items = c.in-Some.ensures.items in
    record {
      able = rw c.forget.ensures.out (first_in_turn IsFirst s.number _ _ _ _ items c.loop-image.invariant.able).2;
      declared = c.forget.ensures.declared ∙ c.loop-image.invariant.declared;
      content = λ d. c.forget.ensures.content d ∙ c.loop-image.invariant.content d;
      gone = gone_first s.number _ _ _ _ _ items c.forget.ensures.out ∙ c.loop-image.invariant.gone;
    }

pub forget-requires : goal.forget-requires
forget-requires g c =
    let able = first_in_turn IsFirst g.S.Store.number _ _ _ _ c.in-Some.ensures.items c.loop-image.invariant.able in
    record { out = able.0; first = able.1 }
