-- One node more, or nobody above it.
use Rattle.std.proofs.Common.{◌≡◌, ◌∙◌, true, ℕ, List, [], ◌∷◌, ◌++◌, Option, None, ap, sym, subst}
use Rattle.title_land.specs.{declared.node.Node.{Node}, Nodes.{above}}
use Rattle.title_lock.specs.{declared.modes.Mode.{Mode}, Modes.{is_enough}, Overlaps.{is_post, IsLeast}, Holders.{clashes}}
use Rattle.title_lock.specs.{Tables.{on_all, table_mode}, Walks.{Asked, asks_above, walk, node_of, walk_left}}
use Rattle.title_lock.proofs.DoneLaws.{IsSoFar, way_one, clear_held, so_far_begins, so_far_goes, so_far_skips, so_far_ends}
use Rattle.title_lock.proofs.table.Table.ways.Goals as goal

pub loop-climb-init : goal.loop-climb-init
loop-climb-init c = so_far_begins (is_post c.args.access) (λ f n. table_mode (on_all c.args.self.now) f n) c.args.examiner
    (walk None c.args.cover.now) (walk_left c.of-walk.result) c.of-walk.ensures.of

pub loop-climb-preserved-in-Some-way_of : goal.loop-climb-preserved-in-Some-way_of
loop-climb-preserved-in-Some-way_of c =
    let e = c.args.examiner in
    let p = is_post c.args.access in
    let at = c.in-Some.climb in
    let held = λ (f : ℕ) (n : Node). table_mode (on_all c.args.self.now) f n in
    let rest = walk_left c.next.new.self in
    let whole = walk None c.args.cover.now in
    let other = c.in-Some-way_of.other in
    let one = way_one p at.is_own held e at.spot.is.node other
    (subst (λ (m : Mode). IsLeast (λ f. clashes m (held f at.spot.is.node)) e other) c.mode.ensures.mode c.in-Some-way_of.ensures.way) in
    subst (λ (w : Option ℕ). IsSoFar p held e whole rest w) (sym c.least-way.ensures.least)
    (so_far_goes p held e whole ((at.spot.is.node, at.is_own) ∷ []) rest c.loop-climb.way other c.in-Some.ensures.next
    c.loop-climb.invariant one)

pub loop-climb-preserved : goal.loop-climb-preserved
loop-climb-preserved c =
    let e = c.args.examiner in
    let p = is_post c.args.access in
    let own = c.in-Some.climb.is_own in
    let at = c.in-Some.climb.spot.is.node in
    let last = node_of c.in-Some.climb.last in
    let t = on_all c.args.self.now in
    let rest = walk (node_of c.next.new.self.last) c.next.new.self.nodes.now in
    let enough = subst (λ (m : Mode). is_enough (table_mode t e at) m ≡ true) c.mode.ensures.mode c.in-None.ensures.held in
    let parts = c.in-Some.ensures.next ∙ ap (λ (z : List Asked). (at, own) ∷ (z ++ rest)) c.in-Some.ensures.above in
    subst (λ (z : List Asked). IsSoFar p (λ f n. table_mode t f n) e (walk None c.args.cover.now) z c.loop-climb.way)
    (sym c.skip.ensures.skip)
    (so_far_skips p (λ f n. table_mode t f n) e (walk None c.args.cover.now) ((at, own) ∷ asks_above last (above at)) rest c.loop-climb.way
    parts c.loop-climb.invariant
    (λ f other. clear_held t e f p own at last enough (c.requires.rooted at) (c.requires.apart f other)))

pub returns : goal.returns
returns c = record {
  way = so_far_ends (is_post c.args.access) (λ f n. table_mode (on_all c.args.self.now) f n) c.args.examiner (walk None c.args.cover.now)
      (walk_left c.loop-climb.walk) c.loop-climb.way c.in_default.ensures.next c.loop-climb.invariant;
}
