-- One node more, or nothing above it.
use Rattle.std.{proofs.Common.{◌≡◌, ◌∙◌, ◌++◌, true, None, List, [], Option, cond, eqb, refl, sym, ap, subst}, specs.List.{list_any}}
use Rattle.title_land.specs.{declared.node.Node.{Node}, Nodes.{same_node}}
use Rattle.title_lock.specs.{declared.modes.Mode.{Mode}, Modes.{bound, is_enough}, Overlaps.{is_post}, Asking.{above_mode}}
use Rattle.title_lock.specs.{Tables.{on_all, table_mode, is_asked, IdleLess}}
use Rattle.title_lock.specs.Walks.{Asked, asked_in, asks_in, node_of, climb_left, walk, walk_left}
use Rattle.title_lock.proofs.{WalkLaws.{walk_shorter, walk_asks_in, walk_asked}, IdleLaws.{less_same}}
use Rattle.title_lock.proofs.{DoneLaws.{less_is, dropped_then}, Climbing.{to_come, climb_begins, climb_comes, climb_goes, climb_skips}}
use Rattle.title_lock.proofs.{Climbing.{climb_passed}, Climbed.{raise_closed, raise_does, raise_goes, raise_skips, less_skips, enough_own}}
use Rattle.title_lock.proofs.Climbed.{nothing_asked}
use Rattle.std.proofs.{Common.{ℕ, ◌&&◌, Some}, lemmas.Bool.{or_left}}
use Rattle.title_lock.proofs.table.Table.raise_all.Goals as goal

pub loop-climb-init : goal.loop-climb-init
loop-climb-init c =
    let e = c.args.examiner in
    let p = is_post c.args.access in
    let t = on_all c.args.self.now in
    let of = c.of-walk.ensures.of in
    record {
      climbing = climb_begins (λ n. is_enough (table_mode t e n) (above_mode p)) (walk None c.args.cover.now)
          (raise_closed t e p c.requires.rooted) c.of-walk.result.climb c.of-walk.result.last (walk_left c.of-walk.result)
          c.of-walk.ensures.climb c.of-walk.ensures.last of;
      modes = λ f n. ap (λ (l : List Asked). bound (table_mode t f n) (cond (eqb f e) (asked_in p l n) None)) of;
      room = c.requires.room;
      idle = λ v. subst (λ (l : List Asked). IdleLess t v e (asks_in l)) of;
      used = λ used. used;
    }

pub raise-had-requires : goal.raise-had-requires
raise-had-requires c =
    let e = c.args.examiner in
    let at = c.in-Some.climb.spot.is.node in
    let p = is_post c.args.access in
    let next = c.next.new.self in
    let met = climb_comes (λ n. is_enough (table_mode (on_all c.loop-climb.self) e n) (above_mode p)) (walk None c.args.cover.now)
    c.loop-climb.walk.climb next.climb c.loop-climb.walk.last next.last c.in-Some.climb (walk_left c.loop-climb.walk) (walk_left next)
    c.in-Some.ensures.next c.in-Some.ensures.above c.in-Some.ensures.goes c.in-Some.ensures.stays c.in-Some.ensures.begins
    c.in-Some.ensures.last c.loop-climb.invariant.climbing in
    record { room = c.loop-climb.invariant.room at (sym (walk_asks_in c.args.cover.now at) ∙ met.is_in) }

pub loop-climb-preserved : goal.loop-climb-preserved
loop-climb-preserved c =
    let e = c.args.examiner in
    let p = is_post c.args.access in
    let t = on_all c.loop-climb.self in
    let u = on_all c.raise-had.new.self in
    let next = c.next.new.self in
    let own = c.in-Some.climb.is_own in
    let at = c.in-Some.climb.spot.is.node in
    let whole = walk None c.args.cover.now in
    let made = c.raise-had.ensures in
    let so_far = c.loop-climb.invariant in
    let modes = subst (λ (m : Mode). (f : ℕ) (n : Node)
    → table_mode u f n ≡ bound (table_mode t f n) (cond (eqb f e && same_node n at) (Some m) None)) c.mode-mode.ensures.mode made.modes in
    let met = climb_comes (λ n. is_enough (table_mode t e n) (above_mode p)) whole c.loop-climb.walk.climb next.climb c.loop-climb.walk.last
    next.last c.in-Some.climb (walk_left c.loop-climb.walk) (walk_left next) c.in-Some.ensures.next c.in-Some.ensures.above
    c.in-Some.ensures.goes c.in-Some.ensures.stays c.in-Some.ensures.begins c.in-Some.ensures.last so_far.climbing in
    record {
      climbing = climb_goes (λ n. is_enough (table_mode t e n) (above_mode p)) whole (λ n. is_enough (table_mode u e n) (above_mode p)) at
          next.climb next.last (walk_left next) (raise_does t u e p own at modes) met;
      modes = λ f n. raise_goes t u e p own at modes (walk_left next) c.in-Some.ensures.next f n ∙ so_far.modes f n;
      room = λ n asks. made.stays e n (so_far.room n asks);
      idle = λ v rest. so_far.idle v (dropped_then t u e own at (walk_left next) c.in-Some.ensures.next made.idle v rest);
      used = λ used. made.used (so_far.used used);
    }

pub loop-climb-preserved-then-is_enough : goal.loop-climb-preserved-then-is_enough
loop-climb-preserved-then-is_enough c =
    let e = c.args.examiner in
    let p = is_post c.args.access in
    let t = on_all c.loop-climb.self in
    let u = on_all c.raise-had.new.self in
    let next = c.next.new.self in
    let skipped = c.skip.new.self in
    let own = c.in-Some.climb.is_own in
    let at = c.in-Some.climb.spot.is.node in
    let whole = walk None c.args.cover.now in
    let done = λ (n : Node). is_enough (table_mode t e n) (above_mode p) in
    let after = λ (n : Node). is_enough (table_mode u e n) (above_mode p) in
    let made = c.raise-had.ensures in
    let so_far = c.loop-climb.invariant in
    let modes = subst (λ (m : Mode). (f : ℕ) (n : Node)
    → table_mode u f n ≡ bound (table_mode t f n) (cond (eqb f e && same_node n at) (Some m) None)) c.mode-mode.ensures.mode made.modes in
    let met = climb_comes done whole c.loop-climb.walk.climb next.climb c.loop-climb.walk.last next.last c.in-Some.climb
    (walk_left c.loop-climb.walk) (walk_left next) c.in-Some.ensures.next c.in-Some.ensures.above c.in-Some.ensures.goes
    c.in-Some.ensures.stays c.in-Some.ensures.begins c.in-Some.ensures.last so_far.climbing in
    let does = raise_does t u e p own at modes in
    let had = enough_own p own (table_mode t e at) (subst (λ (m : Mode). is_enough (table_mode t e at) m ≡ true) c.mode-mode.ensures.mode
    (subst (λ (o : Option Mode). is_enough o c.mode-mode.result ≡ true) made.had (sym c.is_enough.ensures.enough ∙ c.if-is_enough.true))) in
    let parts = ap (λ (l : List Asked). climb_left next.climb ++ l) (sym c.skip.ensures.skip) in
    let passed = λ (n : Node) (coming : to_come next.climb n ≡ true). does n ∙ or_left (done n) (same_node n at)
    (climb_passed done whole after at next.climb next.last (walk_left next) does met had n coming) in
    record {
      climbing = climb_skips done whole after at next.climb next.last (walk_left next) does met had skipped.climb skipped.last
          (walk_left skipped) c.skip.ensures.climb c.skip.ensures.last parts;
      modes = λ f n. raise_skips u e p next.climb (node_of c.in-Some.climb.last) at c.in-Some.ensures.above passed (walk_left skipped)
          parts f n
          ∙ raise_goes t u e p own at modes (walk_left next) c.in-Some.ensures.next f n ∙ so_far.modes f n;
      room = λ n asks. made.stays e n (so_far.room n asks);
      idle = λ v rest. so_far.idle v (dropped_then t u e own at (walk_left next) c.in-Some.ensures.next made.idle v
          (less_skips u e p next.climb (node_of c.in-Some.climb.last) at c.in-Some.ensures.above passed (walk_left skipped) parts v rest));
      used = λ used. made.used (so_far.used used);
    }

pub loop-climb-smaller : goal.loop-climb-smaller
loop-climb-smaller c = walk_shorter c.in-Some.ensures.next

pub returns-clause-modes : goal.returns-clause-modes
returns-clause-modes c f n =
    let e = c.args.examiner in
    let p = is_post c.args.access in
    let u = on_all c.loop-climb.self in
    sym (ap (λ (l : List Asked). bound (table_mode u f n) (cond (eqb f e) (asked_in p l n) None)) c.in_default.ensures.next
    ∙ nothing_asked (table_mode u f n) (eqb f e))
    ∙ c.loop-climb.invariant.modes f n
    ∙ ap (λ (o : Option Mode). bound (table_mode (on_all c.args.self.now) f n) (cond (eqb f e) o None)) (walk_asked p c.args.cover.now n)

pub returns-clause-idle : goal.returns-clause-idle
returns-clause-idle c =
    let e = c.args.examiner in
    let cover = c.args.cover.now in
    let t = on_all c.args.self.now in
    let u = on_all c.loop-climb.self in
    less_is t u e (asks_in (walk None cover)) (λ n. list_any (is_asked n) cover) (walk_asks_in cover)
    (c.loop-climb.invariant.idle u (rw c.in_default.ensures.next (less_same u e (asks_in []) (λ n. refl))))
