-- A node lies above another exactly where it is met on the way up by numbers.
use Rattle.std.proofs.{Common.{◌≡◌, ◌≢◌, ◌<◌, ◌≤◌, ℕ, false, ◌||◌, eqb, sym, ◌∙◌, arith}, lemmas.Bool.{false_from_ne_true}}
use Rattle.std.proofs.lemmas.Bool.Decides.{nat_tests}
use Rattle.title_land.specs.{declared.node.Node.{Node}, Nodes.{same_node, is_above}, NodeNumbers.{node_number, number_above}}
use Rattle.title_land.specs.Laws.{NodeNumbers.{numbers_tell_nodes, node_above, above_less, same_numbers}, SameNode.{same_node-self}}
use Rattle.title_lock.proofs.NodeLaws.{above_of}

-- ---- the way up from a node

-- a node with this number is on the way up from node o, so that n is this one or above it exactly where it is above o
pub record IsOnWay (n : Node) (o : Node) (k : ℕ) : Type 0 where
  pub at : Node
  pub numbered : k ≡ node_number at
  pub way : (same_node n at || is_above n at) ≡ is_above n o

not_same : (n a : Node) (k : ℕ) → k ≡ node_number a → k ≢ node_number n → same_node n a ≡ false
not_same n a k is other = false_from_ne_true (same_node n a) (λ same. other (is ∙ sym (same_numbers n a same)))

-- at first
pub way_begins : (n o : Node) (k : ℕ) → k ≡ node_number o → node_number n < k → IsOnWay n o k
way_begins n o k is less = record {
  at = o;
  numbered = is;
  way = grind (arith, not_same n o k is);
}

-- one node up
pub way_goes : (n o : Node) (k : ℕ) → node_number n < k → IsOnWay n o k → IsOnWay n o (number_above k)
way_goes n o k less w =
    let p = node_above w.at k w.numbered (λ e. omega (arith, e, less)) in
    record {
      at = p.parent;
      numbered = p.numbered;
      way = grind (arith, above_of w.at p.parent p.is, not_same n w.at k w.numbered, w.way);
    }

-- where numbers have come down to a node's own, it lies above exactly where they meet
pub way_ends : (n o : Node) (k : ℕ) → k ≤ node_number n → IsOnWay n o k → eqb k (node_number n) ≡ is_above n o
way_ends n o k low w =
    grind (arith, nat_tests, w.numbered, w.way, numbers_tell_nodes n w.at, same_node-self n, same_numbers n w.at, above_less w.at n)

-- a node whose number isn't less lies above none
pub not_above : (n o : Node) → node_number o ≤ node_number n → false ≡ is_above n o
not_above n o low = sym (false_from_ne_true (is_above n o) (λ up. let less = above_less o n up in omega (arith, less, low)))
