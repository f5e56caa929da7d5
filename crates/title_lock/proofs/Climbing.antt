-- A walk over what an access asks for that leaves out what lies above a node where enough is done already: whatever lies above such a
-- node is done, so that in the end all is done that the access asks for.
use Rattle.std.proofs.Common.{◌≡◌, Bool, true, false, ◌&&◌, ◌||◌, ◌∷◌, ◌++◌, List, Option, Some, None, refl, sym, ap, ◌∙◌, subst}
use Rattle.std.proofs.Common.{IfSome, IfNone, arith, true≢false, inl, inr}
use Rattle.std.proofs.lemmas.{Bool.{or_left, or_right, or_cases}, Option.{same_Some}, List.Folds.{list_any-append}}
use Rattle.title_land.specs.{declared.node.Node.{Node}, Nodes.{same_node, above, is_above}}
use Rattle.title_land.specs.Laws.{NodeSharing.{above_is_transitive}, SameNode.{same_node-self, same_node-to}}
use Rattle.title_lock.specs.declared.{spots.Spot.{Spot}, walks.Climb.{Climb}}
use Rattle.title_lock.specs.Walks.{Asked, is_known, asks_above, asks_in, node_of, climb_left}
use Rattle.title_lock.proofs.{NodeLaws.{above_apart}, WalkLaws.{above_asks, known_above}}

-- what a climb has still to come
abbrev pub to_come : Option Climb → Node → Bool
to_come climb n = asks_in (climb_left climb) n

-- a node lies below what comes next on a climb, if anything does
abbrev pub is_below : Option Climb → Node → Bool
is_below None n = true
is_below (Some c) n = is_above c.spot.is.node n

-- what comes next on a climb, if anything does, lies above the node of the cover that came last
abbrev pub is_high : Option Climb → Option Spot → Bool
is_high None last = true
is_high (Some c) last = is_known (node_of last) c.spot.is.node

-- on a walk over a whole, of which this is left: above a node where enough is done it is done too, or still to come on the way up from
-- a node below that
pub record IsClimbing (done : Node → Bool) (whole : List Asked) (climb : Option Climb) (last : Option Spot) (left : List Asked)
    : Type 0 where
  pub up : (n k : Node) → is_above k n ≡ true → done n ≡ true → (done k || (is_below climb n && to_come climb k)) ≡ true
  pub known : (k : Node) → is_known (node_of last) k ≡ true → (done k || to_come climb k) ≡ true
  pub high : is_high climb last ≡ true
  pub asked : (n : Node) → asks_in left n ≡ true → asks_in whole n ≡ true
  pub all : (n : Node) → asks_in whole n ≡ true → (done n || asks_in left n) ≡ true

-- the same where a node came, before anything is done there
pub record IsMet (done : Node → Bool) (whole : List Asked) (at : Node) (climb : Option Climb) (last : Option Spot) (left : List Asked)
    : Type 0 where
  pub up : (n k : Node) → is_above k n ≡ true → done n ≡ true → (done k || (is_above at n && (same_node k at || to_come climb k))) ≡ true
  pub over : (k : Node) → is_above k at ≡ true → (done k || to_come climb k) ≡ true
  pub known : (k : Node) → is_known (node_of last) k ≡ true → (done k || (same_node k at || to_come climb k)) ≡ true
  pub high : is_high climb last ≡ true
  pub next : is_below climb at ≡ true
  pub above : (k : Node) → to_come climb k ≡ true → is_above k at ≡ true
  pub is_in : asks_in whole at ≡ true
  pub asked : (n : Node) → asks_in left n ≡ true → asks_in whole n ≡ true
  pub all : (n : Node) → asks_in whole n ≡ true → (done n || (same_node n at || asks_in left n)) ≡ true

-- ---- nodes above

-- what comes next lies above a node where all that is to come does
next_above : (at : Node) (climb : Option Climb) → ((k : Node) → to_come climb k ≡ true → is_above k at ≡ true) → is_below climb at ≡ true
next_above at None h = refl
next_above at (Some d) h = h d.spot.is.node
    (or_left (same_node d.spot.is.node d.spot.is.node) (asks_in (asks_above (node_of d.last) (above d.spot.is.node)) d.spot.is.node)
    (same_node-self d.spot.is.node))

-- and below a node lies what is below it
below_under : (at n : Node) (climb : Option Climb) → is_below climb at ≡ true → is_above at n ≡ true → is_below climb n ≡ true
below_under at n None h under = refl
below_under at n (Some d) h under = above_is_transitive d.spot.is.node at n h under

high_over : (at : Node) (climb : Option Climb) (last : Option Spot) → is_known (node_of last) at ≡ true → is_below climb at ≡ true
    → is_high climb last ≡ true
high_over at None last known h = refl
high_over at (Some d) last known h = known_above (node_of last) at d.spot.is.node known h

high_begins : (s : Spot) (climb : Option Climb) → is_below climb s.is.node ≡ true → is_high climb (Some s) ≡ true
high_begins s None h = refl
high_begins s (Some d) h = h

other_above : (k at : Node) → is_above k at ≡ true → same_node k at ≡ false
other_above k at up = grind (arith, above_apart k at)

-- ---- tests

-- done already, or to come below another node: with the node done too
old_goes : (d s p a b : Bool) → (d || (a && (s || p))) ≡ true → (a ≡ true → b ≡ true) → ((d || s) || (b && p)) ≡ true
old_goes d s p a b h below = grind (arith, h, below)

old_skips : (d s p a : Bool) → (d || (a && (s || p))) ≡ true → (p ≡ true → d ≡ true) → ((d || s) || false) ≡ true
old_skips d s p a h passed = grind (arith, h, passed)

-- done, or to come
new_goes : (d s p b : Bool) → (d || p) ≡ true → b ≡ true → ((d || s) || (b && p)) ≡ true
new_goes d s p b h below = grind (arith, h, below)

new_skips : (d s p : Bool) → (d || p) ≡ true → (p ≡ true → d ≡ true) → ((d || s) || false) ≡ true
new_skips d s p h passed = grind (arith, h, passed)

-- done, the node itself, or to come
known_goes : (d s p : Bool) → (d || (s || p)) ≡ true → ((d || s) || p) ≡ true
known_goes d s p h = grind (arith, h)

known_skips : (d s p : Bool) → (d || (s || p)) ≡ true → (p ≡ true → d ≡ true) → ((d || s) || false) ≡ true
known_skips d s p h passed = grind (arith, h, passed)

all_skips : (d s p r : Bool) → (d || (s || (p || r))) ≡ true → (p ≡ true → d ≡ true) → ((d || s) || r) ≡ true
all_skips d s p r h passed = grind (arith, h, passed)

-- ---- a node that comes

module _ (done : Node → Bool) (whole : List Asked) where
  -- at first what lies above what is done is done
  pub climb_begins : ((n k : Node) → is_above k n ≡ true → done n ≡ true → done k ≡ true) → (climb : Option Climb) (last : Option Spot)
      (left : List Asked) → climb ≡ None → last ≡ None → left ≡ whole → IsClimbing done whole climb last left
  climb_begins closed climb last left none first all =
      rw (none, first, all) (record {
        up = λ n k over here. or_left (done k) false (closed n k over here);
        known = λ k known. absurd (true≢false (sym known));
        high = refl;
        asked = λ n asks. asks;
        all = λ n asks. or_right (done n) (asks_in whole n) asks;
      })

  -- the next node of the cover comes, or the next above
  pub climb_comes : (climb next : Option Climb) (last now : Option Spot) (c : Climb) (left rest : List Asked)
      → left ≡ (c.spot.is.node, c.is_own) ∷ rest → climb_left next ≡ asks_above (node_of c.last) (above c.spot.is.node)
      → IfSome climb (λ d. Some c ≡ Some d) → IfSome climb (λ d. now ≡ last) → IfNone climb (c.last ≡ last)
      → IfNone climb (now ≡ Some c.spot) → IsClimbing done whole climb last left → IsMet done whole c.spot.is.node next now rest
  climb_comes None next last now c left rest parts higher goes stays begins sets is =
      let at = c.spot.is.node in
      let comes = λ (k : Node). ap (λ (l : List Asked). asks_in l k) higher ∙ above_asks (node_of c.last) (above at) k in
      let lies : ((k : Node) → to_come next k ≡ true → is_above k at ≡ true) = λ k h. grind (arith, comes k, h) in
      let below = next_above at next lies in
      let over : ((k : Node) → is_above k at ≡ true → (done k || to_come next k) ≡ true) =
      λ k up. grind (arith, comes k, up, is.known k, ap (λ (l : Option Spot). is_known (node_of l) k) begins) in
      record {
        up = λ n k up here. grind (arith, is.up n k up here);
        over = over;
        known = λ k known. let up = over k (sym (ap (λ (l : Option Spot). is_known (node_of l) k) sets) ∙ known) in grind (arith, up);
        high = ap (λ (l : Option Spot). is_high next l) sets ∙ high_begins c.spot next below;
        next = below;
        above = lies;
        is_in = is.asked at (ap (λ (l : List Asked). asks_in l at) parts
            ∙ or_left (same_node at at) (asks_in rest at) (same_node-self at));
        asked = λ n asks. is.asked n (ap (λ (l : List Asked). asks_in l n) parts ∙ or_right (same_node n at) (asks_in rest n) asks);
        all = λ n asks. sym (ap (λ (l : List Asked). done n || asks_in l n) parts) ∙ is.all n asks;
      }
  climb_comes (Some d) next last now c left rest parts higher goes stays begins sets is =
      let at = c.spot.is.node in
      let same = same_Some c d goes in
      let comes = λ (k : Node). ap (λ (l : List Asked). asks_in l k) higher ∙ above_asks (node_of c.last) (above at) k in
      let lies : ((k : Node) → to_come next k ≡ true → is_above k at ≡ true) = λ k h. grind (arith, comes k, h) in
      let below = next_above at next lies in
      let was = subst (λ (o : Climb). IsClimbing done whole (Some o) last left) (sym same) is in
      let left_of = λ (k : Node). ap (λ (l : List Asked). same_node k at || asks_in l k) (sym higher) in
      record {
        up = λ n k up here. ap (λ (b : Bool). done k || (is_above at n && b)) (sym (left_of k)) ∙ was.up n k up here;
        over = λ k up. grind (arith, other_above k at up, left_of k, was.known k (known_above (node_of last) at k was.high up));
        known = λ k known. ap (λ (b : Bool). done k || b) (sym (left_of k))
            ∙ was.known k (sym (ap (λ (l : Option Spot). is_known (node_of l) k) stays) ∙ known);
        high = ap (λ (l : Option Spot). is_high next l) stays ∙ high_over at next last was.high below;
        next = below;
        above = lies;
        is_in = is.asked at (ap (λ (l : List Asked). asks_in l at) parts
            ∙ or_left (same_node at at) (asks_in rest at) (same_node-self at));
        asked = λ n asks. is.asked n (ap (λ (l : List Asked). asks_in l n) parts ∙ or_right (same_node n at) (asks_in rest n) asks);
        all = λ n asks. sym (ap (λ (l : List Asked). done n || asks_in l n) parts) ∙ is.all n asks;
      }

  module _ (after : Node → Bool) (at : Node) (climb : Option Climb) (last : Option Spot) (left : List Asked)
      (does : (n : Node) → after n ≡ (done n || same_node n at)) (met : IsMet done whole at climb last left) where
    -- it is done, and what lies above comes next
    pub climb_goes : IsClimbing after whole climb last left
    climb_goes = record {
      up = λ n k up now_done. ap (λ (b : Bool). b || (is_below climb n && to_come climb k)) (does k)
          ∙ elim (or_cases (done n) (same_node n at) (sym (does n) ∙ now_done)) [
            | inl old ↦ old_goes (done k) (same_node k at) (to_come climb k) (is_above at n) (is_below climb n) (met.up n k up old)
                (below_under at n climb met.next)
            | inr same ↦ new_goes (done k) (same_node k at) (to_come climb k) (is_below climb n)
                (met.over k (subst (λ (z : Node). is_above k z ≡ true) (same_node-to n at same) up))
                (subst (λ (z : Node). is_below climb z ≡ true) (sym (same_node-to n at same)) met.next)
          ];
      known = λ k known. ap (λ (b : Bool). b || to_come climb k) (does k)
          ∙ known_goes (done k) (same_node k at) (to_come climb k) (met.known k known);
      high = met.high;
      asked = met.asked;
      all = λ n asks. ap (λ (b : Bool). b || asks_in left n) (does n)
          ∙ known_goes (done n) (same_node n at) (asks_in left n) (met.all n asks);
    }

    -- where it was done already, so is what would have come above
    pub climb_passed : done at ≡ true → (k : Node) → to_come climb k ≡ true → done k ≡ true
    climb_passed here k coming = let up = met.above k coming in grind (arith, met.up at k up here, above_apart at at, same_node-self at)

    pub climb_skips : done at ≡ true → (skipped : Option Climb) (now : Option Spot) (rest : List Asked) → skipped ≡ None → now ≡ last
        → left ≡ climb_left climb ++ rest → IsClimbing after whole skipped now rest
    climb_skips here skipped now rest none stays parts =
        let in_left = λ (n : Node). ap (λ (l : List Asked). asks_in l n) parts
        ∙ list_any-append (λ (a : Asked). same_node n a.0) (climb_left climb) rest in
        rw (none, stays) (record {
          up = λ n k up now_done. ap (λ (b : Bool). b || false) (does k)
              ∙ elim (or_cases (done n) (same_node n at) (sym (does n) ∙ now_done)) [
                | inl old ↦ old_skips (done k) (same_node k at) (to_come climb k) (is_above at n) (met.up n k up old) (climb_passed here k)
                | inr same ↦ new_skips (done k) (same_node k at) (to_come climb k)
                    (met.over k (subst (λ (z : Node). is_above k z ≡ true) (same_node-to n at same) up)) (climb_passed here k)
              ];
          known = λ k known. ap (λ (b : Bool). b || false) (does k)
              ∙ known_skips (done k) (same_node k at) (to_come climb k) (met.known k known) (climb_passed here k);
          high = refl;
          asked = λ n asks. met.asked n (in_left n ∙ or_right (to_come climb n) (asks_in rest n) asks);
          all = λ n asks. ap (λ (b : Bool). b || asks_in rest n) (does n)
              ∙ all_skips (done n) (same_node n at) (to_come climb n) (asks_in rest n)
              (ap (λ (b : Bool). done n || (same_node n at || b)) (sym (in_left n)) ∙ met.all n asks) (climb_passed here n);
        })
