-- One node more, or nothing above it.
use Rattle.std.proofs.Common.{◌∙◌, ◌++◌, ◌&&◌, ◌||◌, not, None, List, is_some, refl, sym, ap}
use Rattle.std.{proofs.lemmas.Bool.{and_from}, specs.List.{list_any}}
use mathlib.Core.Bool.{or-false}
use Rattle.title_land.specs.declared.node.Node.{Node}
use Rattle.title_lock.specs.{Tables.{on_all, table_mode, is_asked}}
use Rattle.title_lock.specs.Walks.{Asked, asks_in, climb_left, walk, walk_left}
use Rattle.title_lock.proofs.WalkLaws.{walk_shorter, walk_asks_in}
use Rattle.title_lock.proofs.Climbing.{climb_begins, climb_comes, climb_goes, climb_skips}
use Rattle.title_lock.proofs.Climbed.{take_closed, take_does, others_stay, take_ends}
use Rattle.title_lock.proofs.table.Table.take_out_all.Goals as goal

pub loop-climb-init : goal.loop-climb-init
loop-climb-init c =
    let e = c.args.examiner in
    let t = on_all c.args.self.now in
    let cover = c.args.cover.now in
    record {
      climbing = climb_begins (λ n. list_any (is_asked n) cover && not (is_some (table_mode t e n))) (walk None cover)
          (take_closed t e cover c.requires.gone) c.of-walk.result.climb c.of-walk.result.last (walk_left c.of-walk.result)
          c.of-walk.ensures.climb c.of-walk.ensures.last c.of-walk.ensures.of;
      others = λ f n free. refl;
      idle = record { same = λ f n idle. idle };
      used = λ used. used;
    }

pub loop-climb-preserved : goal.loop-climb-preserved
loop-climb-preserved c =
    let e = c.args.examiner in
    let t = on_all c.loop-climb.self in
    let u = on_all c.take_out.new.self in
    let next = c.next.new.self in
    let at = c.in-Some.climb.spot.is.node in
    let cover = c.args.cover.now in
    let done = λ (n : Node). list_any (is_asked n) cover && not (is_some (table_mode t e n)) in
    let made = c.take_out.ensures in
    let so_far = c.loop-climb.invariant in
    let met = climb_comes done (walk None cover) c.loop-climb.walk.climb next.climb c.loop-climb.walk.last next.last c.in-Some.climb
    (walk_left c.loop-climb.walk) (walk_left next) c.in-Some.ensures.next c.in-Some.ensures.above c.in-Some.ensures.goes
    c.in-Some.ensures.stays c.in-Some.ensures.begins c.in-Some.ensures.last so_far.climbing in
    let asks = sym (walk_asks_in cover at) ∙ met.is_in in
    record {
      climbing = climb_goes done (walk None cover) (λ n. list_any (is_asked n) cover && not (is_some (table_mode u e n))) at next.climb
          next.last (walk_left next) (take_does t u e at made.modes cover asks) met;
      others = λ f n free. others_stay t u e at made.modes cover asks f n free ∙ so_far.others f n free;
      idle = record { same = λ f n idle. so_far.idle.same f n (made.idle.same f n idle) };
      used = λ used. made.used (so_far.used used);
    }

pub loop-climb-preserved-then-not-take_out : goal.loop-climb-preserved-then-not-take_out
loop-climb-preserved-then-not-take_out c =
    let e = c.args.examiner in
    let t = on_all c.loop-climb.self in
    let u = on_all c.take_out.new.self in
    let next = c.next.new.self in
    let skipped = c.skip.new.self in
    let at = c.in-Some.climb.spot.is.node in
    let cover = c.args.cover.now in
    let done = λ (n : Node). list_any (is_asked n) cover && not (is_some (table_mode t e n)) in
    let made = c.take_out.ensures in
    let so_far = c.loop-climb.invariant in
    let met = climb_comes done (walk None cover) c.loop-climb.walk.climb next.climb c.loop-climb.walk.last next.last c.in-Some.climb
    (walk_left c.loop-climb.walk) (walk_left next) c.in-Some.ensures.next c.in-Some.ensures.above c.in-Some.ensures.goes
    c.in-Some.ensures.stays c.in-Some.ensures.begins c.in-Some.ensures.last so_far.climbing in
    let asks = sym (walk_asks_in cover at) ∙ met.is_in in
    record {
      climbing = climb_skips done (walk None cover) (λ n. list_any (is_asked n) cover && not (is_some (table_mode u e n))) at next.climb
          next.last (walk_left next) (take_does t u e at made.modes cover asks) met
          (and_from (list_any (is_asked at) cover) (not (is_some (table_mode t e at))) asks
          (ap not (sym made.had ∙ c.if-not-take_out.true))) skipped.climb skipped.last (walk_left skipped) c.skip.ensures.climb
          c.skip.ensures.last (ap (λ (l : List Asked). climb_left next.climb ++ l) (sym c.skip.ensures.skip));
      others = λ f n free. others_stay t u e at made.modes cover asks f n free ∙ so_far.others f n free;
      idle = record { same = λ f n idle. so_far.idle.same f n (made.idle.same f n idle) };
      used = λ used. made.used (so_far.used used);
    }

pub loop-climb-smaller : goal.loop-climb-smaller
loop-climb-smaller c = walk_shorter c.in-Some.ensures.next

pub returns-clause-modes : goal.returns-clause-modes
returns-clause-modes c =
    let e = c.args.examiner in
    let u = on_all c.loop-climb.self in
    let cover = c.args.cover.now in
    let gone = λ (n : Node). list_any (is_asked n) cover && not (is_some (table_mode u e n)) in
    take_ends (on_all c.args.self.now) u e cover (λ n asks. sym (or-false (gone n))
    ∙ ap (λ (l : List Asked). gone n || asks_in l n) (sym c.in_default.ensures.next)
    ∙ c.loop-climb.invariant.climbing.all n (walk_asks_in cover n ∙ asks)) c.loop-climb.invariant.others
