-- One node more.
use Rattle.std.{proofs.Common.{◌∙◌, List, [], None, subst, refl}, specs.List.{list_any}}
use Rattle.title_lock.specs.{Tables.{on_all, is_asked, IdleLess}, Walks.{Asked, asks_in, walk, walk_left}}
use Rattle.title_lock.proofs.{WalkLaws.{walk_shorter, walk_asks_in}, DoneLaws.{dropped_then, less_is}, IdleLaws.{less_same}}
use Rattle.title_lock.proofs.table.Table.drop_room_all.Goals as goal

pub loop-climb-init : goal.loop-climb-init
loop-climb-init c = record {
  modes = λ f n. refl;
  idle = λ v. subst (λ (z : List Asked). IdleLess (on_all c.args.self.now) v c.args.examiner (asks_in z)) c.of-walk.ensures.of;
  used = λ used. used;
}

pub loop-climb-preserved : goal.loop-climb-preserved
loop-climb-preserved c =
    let at = c.in-Some.climb in
    let made = c.drop_room.ensures in
    let so_far = c.loop-climb.invariant in
    record {
      modes = λ f n. made.modes f n ∙ so_far.modes f n;
      idle = λ v rest. so_far.idle v (dropped_then (on_all c.loop-climb.self) (on_all c.drop_room.new.self) c.args.examiner at.is_own
          at.spot.is.node (walk_left c.next.new.self) c.in-Some.ensures.next made.idle v rest);
      used = λ used. made.used (so_far.used used);
    }

pub loop-climb-smaller : goal.loop-climb-smaller
loop-climb-smaller c = walk_shorter c.in-Some.ensures.next

pub returns : goal.returns
returns c =
    let e = c.args.examiner in
    let cover = c.args.cover.now in
    let t = on_all c.args.self.now in
    let u = on_all c.loop-climb.self in
    let so_far = c.loop-climb.invariant in
    record {
      modes = so_far.modes;
      idle = less_is t u e (asks_in (walk None cover)) (λ n. list_any (is_asked n) cover) (walk_asks_in cover)
          (so_far.idle u (rw c.in_default.ensures.next (less_same u e (asks_in []) (λ n. refl))));
      used = so_far.used;
    }
