-- Nodes that are the same by their parts are one value.
use Rattle.std.{proofs.{Common.{◌≡◌, true, List, [], ◌∷◌, refl, ap, ◌∙◌}, lemmas.Bool.{and_parts, and_from}}, specs.Prelude.{◌↔◌}}
use Rattle.title_land.specs.declared.rectangle.Quarter.{Quarter, TheVariants.{Northeast, Northwest, Southwest, Southeast}}
use Rattle.title_land.specs.{declared.node.Node.{Node}, Nodes.{same_quarter, same_path, same_node}, Survey.{same_section}}
use Rattle.title_land.specs.Laws.SameLand.{same_township-is, same_township-self, same_section-is, same_section-self}
use Rattle.title_land.specs.declared.node.Node.TheVariants as node

pub same_quarter-is : (a b : Quarter) → same_quarter a b ≡ true → a ≡ b
same_quarter-is Northeast Northeast h = refl
same_quarter-is Northeast Northwest h = absurd cc
same_quarter-is Northeast Southwest h = absurd cc
same_quarter-is Northeast Southeast h = absurd cc
same_quarter-is Northwest Northeast h = absurd cc
same_quarter-is Northwest Northwest h = refl
same_quarter-is Northwest Southwest h = absurd cc
same_quarter-is Northwest Southeast h = absurd cc
same_quarter-is Southwest Northeast h = absurd cc
same_quarter-is Southwest Northwest h = absurd cc
same_quarter-is Southwest Southwest h = refl
same_quarter-is Southwest Southeast h = absurd cc
same_quarter-is Southeast Northeast h = absurd cc
same_quarter-is Southeast Northwest h = absurd cc
same_quarter-is Southeast Southwest h = absurd cc
same_quarter-is Southeast Southeast h = refl

pub same_quarter-self : (a : Quarter) → same_quarter a a ≡ true
same_quarter-self Northeast = refl
same_quarter-self Northwest = refl
same_quarter-self Southwest = refl
same_quarter-self Southeast = refl

pub same_path-is : (p q : List Quarter) → same_path p q ≡ true → p ≡ q
same_path-is [] [] h = refl
same_path-is [] (b ∷ q) h = absurd cc
same_path-is (a ∷ p) [] h = absurd cc
same_path-is (a ∷ p) (b ∷ q) h =
    let k = and_parts (same_quarter a b) (same_path p q) h in
    ap (λ (x : Quarter). x ∷ p) (same_quarter-is a b k.0) ∙ ap (λ (x : List Quarter). b ∷ x) (same_path-is p q k.1)

pub same_path-self : (p : List Quarter) → same_path p p ≡ true
same_path-self [] = refl
same_path-self (a ∷ p) = and_from _ _ (same_quarter-self a) (same_path-self p)

pub same_node-to : (a b : Node) → same_node a b ≡ true → a ≡ b
same_node-to node.Everything node.Everything h = refl
same_node-to node.Everything (node.Township u) h = absurd cc
same_node-to node.Everything (node.Part u w) h = absurd cc
same_node-to (node.Township t) node.Everything h = absurd cc
same_node-to (node.Township t) (node.Township u) h = ap (λ z. node.Township z) (same_township-is t u h)
same_node-to (node.Township t) (node.Part u w) h = absurd cc
same_node-to (node.Part s v) node.Everything h = absurd cc
same_node-to (node.Part s v) (node.Township u) h = absurd cc
same_node-to (node.Part s v) (node.Part u w) h =
    let k = and_parts (same_section s u) (same_path v w) h in
    let e : v ≡ w = same_path-is v w k.1 in
    rw (same_section-is s u k.0, e) refl

pub same_node-self : (a : Node) → same_node a a ≡ true
same_node-self node.Everything = refl
same_node-self (node.Township t) = same_township-self t
same_node-self (node.Part s v) = and_from _ _ (same_section-self s) (same_path-self v)

-- two nodes are the same exactly where they are one value
pub same_node-is : (a b : Node) → (same_node a b ≡ true) ↔ (a ≡ b)
same_node-is a b = (same_node-to a b, λ e. rw e (same_node-self b))
