-- Nodes of one section are related exactly where one's square lies in the other's.
use Rattle.std.{proofs.Common.{◌≡◌, Bool, true, false, ◌&&◌, ◌||◌, List, [], ◌∷◌, ◌++◌, refl, sym, ap, ap₂, ◌∙◌}, specs.List.{list_any}}
use Rattle.std.proofs.lemmas.Bool.{both_ways, false_from_ne_true}
use Rattle.title_land.specs.{declared.{survey.Section.{Section}, rectangle.Quarter.{Quarter}}, Survey.{same_section}, Nestings.{lies_in}}
use Rattle.title_land.specs.{Nodes.{same_path, same_node, above_in, are_related}, Laws.SameNode.{same_path-is, same_path-self}}
use Rattle.title_land.specs.declared.node.Node.TheVariants as node

-- a square of more quarters lies in the first
abbrev pub lies_below : List Quarter → List Quarter → Bool
lies_below w [] = false
lies_below w (q ∷ v) = lies_in w v

or_false : (x : Bool) → (x || false) ≡ x
or_false true = refl
or_false false = refl

lies_parts : (w v : List Quarter) → lies_in w v ≡ (same_path w v || lies_below w v)
lies_parts w [] = sym (or_false (same_path w []))
lies_parts w (q ∷ v) = refl

-- the nodes above a square of a section that are a square of that section
above_parts : (s u : Section) (w v : List Quarter) → same_section s u ≡ true →
    list_any (same_node (node.Part s w)) (above_in u v ++ (node.Township u.township ∷ node.Everything ∷ [])) ≡ lies_below w v
above_parts s u w [] same = refl
above_parts s u w (q ∷ v) same =
    ap₂ (λ (x y : Bool). x || y) (ap (λ (b : Bool). b && same_path w v) same) (above_parts s u w v same) ∙ sym (lies_parts w v)

-- two squares are one either way
same_either_way : (p q : List Quarter) → same_path p q ≡ same_path q p
same_either_way p q = go (same_path p q) refl
  where
    go : (b : Bool) → same_path p q ≡ b → b ≡ same_path q p
    go true h = sym (ap (λ (r : List Quarter). same_path q r) (same_path-is p q h) ∙ same_path-self q)
    go false h = sym (false_from_ne_true _ (λ k. both_ways _ h
        (ap (λ (r : List Quarter). same_path r q) (sym (same_path-is q p k)) ∙ same_path-self q)))

regroup : (x y z : Bool) → ((x || y) || (x || z)) ≡ (x || (z || y))
regroup true y z = refl
regroup false true true = refl
regroup false true false = refl
regroup false false true = refl
regroup false false false = refl

-- squares of one section
pub squares_related : (s u : Section) (v w : List Quarter) (same other : Bool) → same_section s u ≡ true → same_section u s ≡ true →
    same ≡ lies_in w v → other ≡ lies_in v w → (same || other) ≡ are_related (node.Part s v) (node.Part u w)
squares_related s u v w same other one one' is is' =
    ap₂ (λ (x y : Bool). x || y)
    (is ∙ lies_parts w v ∙ ap (λ (b : Bool). b || lies_below w v) (same_either_way w v)) (is' ∙ lies_parts v w)
    ∙ regroup (same_path v w) (lies_below w v) (lies_below v w)
    ∙ sym (ap₂ (λ (x y : Bool). x || y) (ap (λ (b : Bool). b && same_path v w) one)
    (ap₂ (λ (x y : Bool). x || y) (above_parts s u v w one) (above_parts u s w v one')))

-- a square is another exactly where the test of their quarters says so
pub lies_where_same : (w v : List Quarter) → v ≡ w → true ≡ lies_in w v
lies_where_same w v same =
    sym (lies_parts w v ∙ ap (λ (b : Bool). b || lies_below w v) (ap (λ (r : List Quarter). same_path w r) same ∙ same_path-self w))

pub lies_where_apart : (w v : List Quarter) → (v ≡ w → ⊥) → lies_below w v ≡ lies_in w v
lies_where_apart w v apart =
    sym (lies_parts w v ∙ ap (λ (b : Bool). b || lies_below w v)
    (false_from_ne_true _ (λ k. apart (sym (same_path-is w v k)))))
