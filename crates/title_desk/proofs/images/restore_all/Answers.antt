-- One image more has gone back.
use Rattle.std.proofs.Common.{◌∙◌, subst}
use Rattle.title_store.specs.{Loans.{IsLast}, Plants.{SameContent}}
use Rattle.title_desk.{specs.Images.{put_back}, proofs.Loaned.{first_in_turn, gone_first, restored_first}}
use Rattle.title_desk.proofs.images.restore_all.Goals as goal

pub loop-image-preserved : goal.loop-image-preserved
loop-image-preserved g c =
    let s = g.S.Store in
    let items = c.in-Some.ensures.items in
    record {
      able = rw c.restore.ensures.out (first_in_turn IsLast s.number _ _ _ _ items c.loop-image.invariant.able).2;
      declared = c.restore.ensures.declared ∙ c.loop-image.invariant.declared;
      content = λ q h. c.loop-image.invariant.content q (restored_first s.number (s.declared c.args.store.now)
          (s.content c.loop-image.store) (s.content c.restore.new.self) (s.out c.loop-image.store) (s.out c.restore.new.self) _ _ _ items
          (λ b lent. subst (λ ts. SameContent (put_back ts b (s.content c.loop-image.store)) (s.content c.restore.new.self))
          c.loop-image.invariant.declared (c.restore.ensures.content b lent)) c.restore.ensures.out q h);
      gone = gone_first s.number _ _ _ _ _ items c.restore.ensures.out ∙ c.loop-image.invariant.gone;
    }

pub restore-requires : goal.restore-requires
restore-requires g c =
    let able = first_in_turn IsLast g.S.Store.number _ _ _ _ c.in-Some.ensures.items c.loop-image.invariant.able in
    record { out = able.0; last = able.1 }
