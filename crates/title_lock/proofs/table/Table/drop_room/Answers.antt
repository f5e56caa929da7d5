-- One node's holders lose a room, and are dropped where nobody is left.
use Rattle.std.proofs.Common.{◌≡◌, ◌∙◌, ℕ, cond, ap, sym, eqb, Some, None, is_some, arith}
use Rattle.std.specs.{Ordering.{nat_cmp}, BTreeMap.{get}}
use Rattle.title_land.specs.{declared.node.Node.{Node}, Nodes.{same_node}, NodeNumbers.{node_number}}
use Rattle.title_lock.specs.Holders.{Modes, holder_mode, has_room}
use Rattle.title_lock.specs.Tables.{holders_at, table_mode, IdleLess, AllUsed}
use Rattle.title_lock.proofs.{TableLaws.{NodeMap, Writes, stood, stands, same_at, less_at, is_found}, IdleLaws.{idles_dropped}}
use Rattle.title_lock.proofs.TableLaws.{left_of, left_modes, left_idle, left_used, removed, kept}
use Rattle.title_lock.proofs.table.Table.drop_room.Goals as goal

-- what is left of a node's holders without one's room
dropped : (m n : NodeMap) (j : ℕ) (k : Node) (h w : Modes) (e : ℕ) → j ≡ node_number k → Some h ≡ get nat_cmp m j → Writes m n j (left_of w)
    → ((f : ℕ) → holder_mode w f ≡ holder_mode h f)
    → ((f : ℕ) → has_room w f ≡ cond (eqb f e) (is_some (holder_mode h f)) (has_room h f)) →
    ((f : ℕ) (q : Node) → table_mode (holders_at n) f q ≡ table_mode (holders_at m) f q)
    × IdleLess (holders_at m) (holders_at n) e (λ q. same_node q k) × (AllUsed (holders_at m) → AllUsed (holders_at n))
dropped m n j k h w e code found left modes rooms =
    let was = stood m j k (Some h) code found in
    let now = stands m n j k (left_of w) code left in (
      λ f q. same_at f _ (left_of w) (was q) (now q) (left_modes w f ∙ modes f),
      record {
        less = λ f q. less_at f (eqb f e) _ (left_of w) (was q) (now q) (left_idle w f ∙ idles_dropped h w f e (modes f) (rooms f));
      },
      λ used. record { each = λ q. grind (arith, now q, left_used w, used.each q) },
    )

pub returns-in_default-clause-idle : goal.returns-in_default-clause-idle
returns-in_default-clause-idle c =
    let at = c.args.spot.now in
    let was = stood c.args.self.now.holders at.number at.is.node None at.is.numbered c.in_default.ensures.value in
    record { less = λ f n. grind (arith, was n, ap (λ z. holders_at z n) c.get_mut.follows.holds-at-none) }

pub returns-in_default-clause-used : goal.returns-in_default-clause-used
returns-in_default-clause-used c used = record {
  each = λ n. grind (arith, ap (λ z. holders_at z n) c.get_mut.follows.holds-at-none, used.each n);
}

pub returns-then-is_free : goal.returns-then-is_free
returns-then-is_free c =
    let at = c.args.spot.now in
    let m = c.args.self.now.holders in
    let w = c.drop_room.new.self in
    let found = c.in-Some.ensures.value in
    let left = dropped m c.remove.new.self at.number at.is.node c.in-Some.holders.now w c.args.examiner at.is.numbered found
    (removed m (c.get_mut.follows.lender w) c.remove.new.self at.number w (sym c.is_free.ensures.free ∙ c.if-is_free.true)
    ((c.get_mut.follows.holds w).3 (is_found _ _ found)).0 c.remove.ensures.updates.0)
    c.drop_room.ensures.modes c.drop_room.ensures.rooms in
    record { modes = left.0; idle = left.1; used = left.2 }

pub returns-else-is_free : goal.returns-else-is_free
returns-else-is_free c =
    let at = c.args.spot.now in
    let m = c.args.self.now.holders in
    let w = c.drop_room.new.self in
    let found = c.in-Some.ensures.value in
    let left = dropped m (c.get_mut.follows.lender w) at.number at.is.node c.in-Some.holders.now w c.args.examiner at.is.numbered found
    (kept m (c.get_mut.follows.lender w) at.number w (sym c.is_free.ensures.free ∙ c.if-is_free.false)
    ((c.get_mut.follows.holds w).3 (is_found _ _ found)).0) c.drop_room.ensures.modes c.drop_room.ensures.rooms in
    record { modes = left.0; idle = left.1; used = left.2 }
