-- A node's holders get room, and a new node's are nobody with room for one.
use Rattle.std.proofs.Common.{◌∙◌, eqb, ap, subst, ℕ, List, Some, None, rules, arith}
use Rattle.std.specs.{Ordering.{nat_cmp}, BTreeMap.{is_at}, Map.{lookup}}
use Rattle.title_land.specs.NodeNumbers.{node_number}
use Rattle.title_lock.specs.{Holders.{Modes}, Tables.{holders_at, unused_in}}
use Rattle.title_lock.proofs.{TableLaws.{NodeMap, Writes, stood, stands, same_at, more_at, is_found}}
use Rattle.title_lock.proofs.IdleLaws.{idles_more, idles_first, rooms_used, room_used}
use Rattle.title_lock.proofs.table.Table.make_room.Goals as goal

pub returns-in-Some : goal.returns-in-Some
returns-in-Some c =
    let e = c.args.examiner in
    let m = c.args.self.now.holders in
    let at = c.args.spot.now in
    let h = c.in-Some.holders.now in
    let w = c.make_room.new.self in
    let made = c.make_room.ensures in
    let found = c.in-Some.ensures.value in
    let was = stood m at.number at.is.node (Some h) at.is.numbered found in
    let now = stands m (c.get_mut.follows.lender w) at.number at.is.node (Some w) at.is.numbered
    ((c.get_mut.follows.holds w).3 (is_found _ _ found)).0 in
    record {
      had = search rules;
      modes = λ f n. same_at f _ (Some w) (was n) (now n) (made.modes f);
      room = search rules;
      stays = λ f n room. grind (arith, was n, now n, made.stays f);
      idle = record { more = λ f n. more_at f (eqb f e) _ (Some w) (was n) (now n) (idles_more h w f e (made.modes f) (made.others f)) };
      others = λ n other. grind (arith, now n, other);
      used = λ used. record { each = λ n. grind (arith, was n, now n, rooms_used h w made.stays, used.each n) };
    }

pub returns : goal.returns
returns c =
    let e = c.args.examiner in
    let m = c.args.self.now.holders in
    let at = c.args.spot.now in
    let h = c.new-holders in
    let v = c.make_room-2.new.self in
    let n = c.insert.new.self in
    let made = c.make_room-2.ensures in
    let was = stood m at.number at.is.node None at.is.numbered c.in_default.ensures.value in
    let now = stands m n at.number at.is.node (Some v) at.is.numbered
    (subst (λ (z : NodeMap). Writes z n at.number (Some v)) c.get_mut.follows.holds-at-none c.in_ok-insert.ensures.updates.0) in
    record {
      had = search rules;
      modes = λ f n. grind (arith, was n, now n, made.modes f, h.ensures.free f);
      room = search rules;
      stays = λ f n room. grind (arith, was n, now n);
      idle = record {
        more = λ f n idle. grind (arith, was n, now n, idles_first h.result v f e (h.ensures.rooms f) (made.modes f) (made.others f));
      };
      others = λ n other. grind (arith, now n, other);
      used = λ used. record { each = λ n. grind (arith, now n, room_used v e c.in_ok-make_room.ensures.room, used.each n) };
    }

pub returns-in_err-make_room-clause-used : goal.returns-in_err-make_room-clause-used
returns-in_err-make_room-clause-used c used = record {
  each = λ n. ap (λ (m : NodeMap). unused_in (holders_at m n)) c.get_mut.follows.holds-at-none ∙ used.each n;
}

pub returns-in_err-insert-clause-used : goal.returns-in_err-insert-clause-used
returns-in_err-insert-clause-used c used = record {
  each = λ n. ap (λ (es : List (ℕ × Modes)). unused_in (lookup (is_at (nat_cmp (node_number n))) es))
      (c.in_err-insert.ensures.err ∙ ap (λ (m : NodeMap). m.entries) c.get_mut.follows.holds-at-none)
      ∙ used.each n;
}
