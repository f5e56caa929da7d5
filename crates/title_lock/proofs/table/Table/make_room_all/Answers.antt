-- One node more, or nothing above it.
use Rattle.std.{proofs.Common.{◌≡◌, ◌∙◌, true, ◌||◌, ◌++◌, None, List, refl, sym, ap, subst}, specs.List.{list_any}}
use Rattle.std.proofs.lemmas.Bool.{or_left}
use mathlib.Core.Bool.{or-false}
use Rattle.title_land.specs.{declared.node.Node.{Node}, Nodes.{same_node}, Laws.SameNode.{same_node-self, same_node-to}}
use Rattle.title_lock.specs.{Tables.{on_all, table_room, is_asked}, Walks.{Asked, asks_in, climb_left, walk, walk_left}}
use Rattle.title_lock.proofs.{WalkLaws.{walk_shorter, walk_asks_in}, IdleLaws.{more_same, more_join, more_wider}}
use Rattle.title_lock.proofs.{Climbing.{climb_begins, climb_comes, climb_goes, climb_skips}, Climbed.{room_closed, room_does}}
use Rattle.title_lock.proofs.table.Table.make_room_all.Goals as goal

pub loop-climb-init : goal.loop-climb-init
loop-climb-init c = record {
  climbing = climb_begins (λ n. table_room (on_all c.args.self.now) c.args.examiner n) (walk None c.args.cover.now)
      (room_closed (on_all c.args.self.now) c.args.examiner c.requires.roomy) c.of-walk.result.climb c.of-walk.result.last
      (walk_left c.of-walk.result) c.of-walk.ensures.climb c.of-walk.ensures.last c.of-walk.ensures.of;
  modes = λ f n. refl;
  idle = more_same (on_all c.args.self.now) c.args.examiner (asks_in (walk None c.args.cover.now));
  used = λ used. used;
}

pub loop-climb-preserved : goal.loop-climb-preserved
loop-climb-preserved c =
    let e = c.args.examiner in
    let t = on_all c.loop-climb.self in
    let u = on_all c.make_room.new.self in
    let next = c.next.new.self in
    let at = c.in-Some.climb.spot.is.node in
    let whole = walk None c.args.cover.now in
    let done = λ (n : Node). table_room t e n in
    let made = c.make_room.ensures in
    let so_far = c.loop-climb.invariant in
    let met = climb_comes done whole c.loop-climb.walk.climb next.climb c.loop-climb.walk.last next.last c.in-Some.climb
    (walk_left c.loop-climb.walk) (walk_left next) c.in-Some.ensures.next c.in-Some.ensures.above c.in-Some.ensures.goes
    c.in-Some.ensures.stays c.in-Some.ensures.begins c.in-Some.ensures.last so_far.climbing in
    record {
      climbing = climb_goes done whole (λ n. table_room u e n) at next.climb next.last (walk_left next)
          (room_does t u e at c.in_ok-make_room.ensures.room made.others) met;
      modes = λ f n. made.modes f n ∙ so_far.modes f n;
      idle = more_join (on_all c.args.self.now) t u e _ (asks_in whole)
          (λ n same. subst (λ (z : Node). asks_in whole z ≡ true) (sym (same_node-to n at same)) met.is_in) so_far.idle made.idle;
      used = λ used. made.used (so_far.used used);
    }

pub loop-climb-preserved-then-branch : goal.loop-climb-preserved-then-branch
loop-climb-preserved-then-branch c =
    let e = c.args.examiner in
    let t = on_all c.loop-climb.self in
    let u = on_all c.make_room.new.self in
    let next = c.next.new.self in
    let skipped = c.skip.new.self in
    let at = c.in-Some.climb.spot.is.node in
    let whole = walk None c.args.cover.now in
    let done = λ (n : Node). table_room t e n in
    let made = c.make_room.ensures in
    let so_far = c.loop-climb.invariant in
    let met = climb_comes done whole c.loop-climb.walk.climb next.climb c.loop-climb.walk.last next.last c.in-Some.climb
    (walk_left c.loop-climb.walk) (walk_left next) c.in-Some.ensures.next c.in-Some.ensures.above c.in-Some.ensures.goes
    c.in-Some.ensures.stays c.in-Some.ensures.begins c.in-Some.ensures.last so_far.climbing in
    record {
      climbing = climb_skips done whole (λ n. table_room u e n) at next.climb next.last (walk_left next)
          (room_does t u e at c.in_ok-make_room.ensures.room made.others) met
          (sym c.in_ok-make_room.ensures.had ∙ c.if-branch.true) skipped.climb skipped.last (walk_left skipped) c.skip.ensures.climb
          c.skip.ensures.last (ap (λ (l : List Asked). climb_left next.climb ++ l) (sym c.skip.ensures.skip));
      modes = λ f n. made.modes f n ∙ so_far.modes f n;
      idle = more_join (on_all c.args.self.now) t u e _ (asks_in whole)
          (λ n same. subst (λ (z : Node). asks_in whole z ≡ true) (sym (same_node-to n at same)) met.is_in) so_far.idle made.idle;
      used = λ used. made.used (so_far.used used);
    }

pub loop-climb-smaller : goal.loop-climb-smaller
loop-climb-smaller c = walk_shorter c.in-Some.ensures.next

pub returns-clause-room : goal.returns-clause-room
returns-clause-room c n asks =
    let here = table_room (on_all c.loop-climb.self) c.args.examiner n in
    sym (or-false here) ∙ ap (λ (l : List Asked). here || asks_in l n) (sym c.in_default.ensures.next)
    ∙ c.loop-climb.invariant.climbing.all n (walk_asks_in c.args.cover.now n ∙ asks)

pub returns-clause-idle : goal.returns-clause-idle
returns-clause-idle c =
    more_wider (on_all c.args.self.now) (on_all c.loop-climb.self) c.args.examiner (asks_in (walk None c.args.cover.now))
    (λ n. list_any (is_asked n) c.args.cover.now) (λ n asks. sym (walk_asks_in c.args.cover.now n) ∙ asks) c.loop-climb.invariant.idle

pub returns-in_err-make_room-clause-idle : goal.returns-in_err-make_room-clause-idle
returns-in_err-make_room-clause-idle c =
    let at = c.in-Some.climb.spot.is.node in
    let whole = walk None c.args.cover.now in
    let cover = c.args.cover.now in
    let in_whole = c.loop-climb.invariant.climbing.asked at (ap (λ (l : List Asked). asks_in l at) c.in-Some.ensures.next
    ∙ or_left (same_node at at) (asks_in (walk_left c.next.new.self) at) (same_node-self at)) in
    more_wider (on_all c.args.self.now) (on_all c.make_room.new.self) c.args.examiner (asks_in whole) (λ n. list_any (is_asked n) cover)
    (λ n asks. sym (walk_asks_in cover n) ∙ asks)
    (more_join (on_all c.args.self.now) (on_all c.loop-climb.self) (on_all c.make_room.new.self) c.args.examiner _ (asks_in whole)
    (λ n same. subst (λ (z : Node). asks_in whole z ≡ true) (sym (same_node-to n at same)) in_whole) c.loop-climb.invariant.idle
    c.make_room.ensures.idle)
