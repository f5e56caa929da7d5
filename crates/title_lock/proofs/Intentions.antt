-- What is held of a node and of those above it: enough, and its intention.
use Rattle.std.proofs.Common.{◌≡◌, ℕ, Bool, true, false, not, ◌&&◌, ◌||◌, Option, Some, None}
use Rattle.std.proofs.Common.{refl, ap, subst, ◌∙◌, inl, inr, arith}
use Rattle.std.{proofs.lemmas.Bool.{or_left, or_right, or_cases}}
use Rattle.title_land.specs.{declared.node.Node.{Node}, Nodes.{same_node, is_above}}
use Rattle.title_land.specs.Laws.{NodeSharing.{above_is_transitive}, SameNode.{same_node-self, same_node-to}}
use Rattle.title_lock.specs.{declared.modes.Mode.{Mode}, Modes.{compat, sup, bound, allows, intention, is_as_strong, is_enough, intends}}
use Rattle.title_lock.specs.Holders.{Modes, same_mode}
use Rattle.title_lock.specs.Tables.{mode_in, idle_in, is_asked}
use Rattle.title_lock.proofs.ModeLaws.{at_two, at_three, same_mode_true, bound_turn}

-- ---- enough

-- where a test implies another
implied : (a b : Bool) → (not a || b) ≡ true → a ≡ true → b ≡ true
implied a b h k = grind arith

strong_more : (a b c : Mode) → is_as_strong a c ≡ true → is_as_strong (sup a b) c ≡ true
strong_more a b c =
    implied (is_as_strong a c) (is_as_strong (sup a b) c)
    (at_three (λ x y z. not (is_as_strong x z) || is_as_strong (sup x y) z) refl a b c)

strong_both : (a b c : Mode) → (is_as_strong a b && is_as_strong a c) ≡ true → is_as_strong a (sup b c) ≡ true
strong_both a b c = implied (is_as_strong a b && is_as_strong a c) (is_as_strong a (sup b c))
    (at_three (λ x y z. not (is_as_strong x y && is_as_strong x z) || is_as_strong x (sup y z)) refl a b c)

-- what is as strong needs no more
strong_sup : (a b : Mode) → is_as_strong a b ≡ true → same_mode (sup a b) a ≡ true
strong_sup a b = implied (is_as_strong a b) (same_mode (sup a b) a)
    (at_two (λ x y. not (is_as_strong x y) || same_mode (sup x y) x) refl a b)

-- what stands beside a mode stands beside what is less strong
strong_compat : (a b c : Mode) → (is_as_strong a b && compat a c) ≡ true → compat b c ≡ true
strong_compat a b c = implied (is_as_strong a b && compat a c) (compat b c)
    (at_three (λ x y z. not (is_as_strong x y && compat x z) || compat y z) refl a b c)

-- the intention of what is as strong is as strong as the intention
strong_above : (a b c : Mode) → (is_as_strong a b && is_as_strong c (intention a)) ≡ true → is_as_strong c (intention b) ≡ true
strong_above a b c = implied (is_as_strong a b && is_as_strong c (intention a)) (is_as_strong c (intention b))
    (at_three (λ x y z. not (is_as_strong x y && is_as_strong z (intention x)) || is_as_strong z (intention y)) refl a b c)

intention_sup : (a b : Mode) → intention (sup a b) ≡ sup (intention a) (intention b)
intention_sup a b = same_mode_true (intention (sup a b)) (sup (intention a) (intention b))
    (at_two (λ x y. same_mode (intention (sup x y)) (sup (intention x) (intention y))) refl a b)

-- what is held, and more
enough_more : (a b : Option Mode) (m : Mode) → is_enough a m ≡ true → is_enough (bound a b) m ≡ true
enough_more a b m h = grind (arith, strong_more)

pub enough_too : (a b : Option Mode) (m : Mode) → is_enough b m ≡ true → is_enough (bound a b) m ≡ true
enough_too a b m h = ap (λ (z : Option Mode). is_enough z m) (bound_turn a b) ∙ enough_more b a m h

enough_both : (a : Option Mode) (m k : Mode) → is_enough a m ≡ true → is_enough a k ≡ true → is_enough a (sup m k) ≡ true
enough_both a m k h j = grind (arith, strong_both)

-- what is enough needs no more
pub enough_bound : (a : Option Mode) (m : Mode) → is_enough a m ≡ true → bound a (Some m) ≡ a
enough_bound a m h = grind (arith, strong_sup, same_mode_true)

-- what stands beside enough stands beside the mode
pub enough_allows : (a b : Option Mode) (m : Mode) → is_enough a m ≡ true → allows a b ≡ true → allows (Some m) b ≡ true
enough_allows a b m h k = grind (arith, strong_compat)

-- above enough there is enough of the intention
pub enough_above : (a b : Option Mode) (m : Mode) → is_enough a m ≡ true → intends a b ≡ true → is_enough b (intention m) ≡ true
enough_above a b m h k = grind (arith, strong_above)

pub intends_bound : (a b c d : Option Mode) → intends a b ≡ true → intends c d ≡ true → intends (bound a c) (bound b d) ≡ true
intends_bound None b None d h k = refl
intends_bound None b (Some z) d h k = enough_too b d (intention z) k
intends_bound (Some x) b None d h k = enough_more b d (intention x) h
intends_bound (Some x) b (Some z) d h k = ap (is_enough (bound b d)) (intention_sup x z)
    ∙ enough_both (bound b d) (intention x) (intention z) (enough_more b d (intention x) h) (enough_too b d (intention z) k)

-- ---- nodes above

-- what lies above what is asked lies above the node
pub above_all : (k m c : Node) → is_asked m c ≡ true → is_above k m ≡ true → is_above k c ≡ true
above_all k m c asks up = elim (or_cases (same_node m c) (is_above m c) asks) [
  | inl same ↦ subst (λ (z : Node). is_above k z ≡ true) (same_node-to m c same) up
  | inr over ↦ above_is_transitive k m c up over
]

-- an access asks for the node itself
pub self_asked : (c : Node) → is_asked c c ≡ true
self_asked c = or_left (same_node c c) (is_above c c) (same_node-self c)

-- and for what lies above it
pub over_asked : (n c : Node) → is_above n c ≡ true → is_asked n c ≡ true
over_asked n c up = or_right (same_node n c) (is_above n c) up

-- who holds a node isn't idle there
pub held_idle : (e : ℕ) (o : Option Modes) (m : Mode) → is_enough (mode_in e o) m ≡ true → idle_in e o ≡ false
held_idle e o m h = grind arith
