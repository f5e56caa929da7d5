-- Lists of paths: which cells lie below one of them, and which are apart.
use Rattle.std.proofs.Common.{◌≡◌, ◌∙◌, ap, refl, subst, Bool, true, false, ◌||◌, inl, inr, List, [], ◌∷◌, ◌++◌, length, map}
use Rattle.std.{specs.List.{flat_map, list_any}, proofs.lemmas.Bool.{or_left, or_right, or_cases}}
use Rattle.title_land.specs.{declared.rectangle.Quarter.{Quarter}, Laws.Members.{In, in_append, in_mapped}}
use Rattle.title_tree.specs.{Paths.{begins}, Pieces.{has, Disjoint}, Laws.Beginnings.{begins_under, begins_parts, begins_on}}

pub has_under : (a : List Quarter) (ps : List (List Quarter)) (c : List Quarter) → has (map (λ p. a ++ p) ps) (a ++ c) ≡ has ps c
has_under a [] c = refl
has_under a (p ∷ ps) c = λ i. begins_under a p c i || has_under a ps c i

pub has_parts : (a b : List Quarter) (ps : List (List Quarter)) (c : List Quarter) → length a ≡ length b
    → has (map (λ p. a ++ p) ps) (b ++ c) ≡ true → a ≡ b
has_parts a b [] c l h = absurd cc
has_parts a b (p ∷ ps) c l h = elim (or_cases (begins (a ++ p) (b ++ c)) (has (map (λ x. a ++ x) ps) (b ++ c)) h) [
  | inl e ↦ (begins_parts a b p c l e).0
  | inr e ↦ has_parts a b ps c l e
]

pub has_join : (ps qs : List (List Quarter)) (c : List Quarter) → has (ps ++ qs) c ≡ (has ps c || has qs c)
has_join [] qs c = refl
has_join (p ∷ ps) qs c = ap (λ (b : Bool). begins p c || b) (has_join ps qs c) ∙ go (begins p c) (has ps c) (has qs c)
  where
    go : (x y z : Bool) → (x || (y || z)) ≡ ((x || y) || z)
    go true y z = refl
    go false y z = refl

pub has_flat : {X : Type 0} (f : X → List (List Quarter)) (xs : List X) (c : List Quarter)
    → has (flat_map f xs) c ≡ list_any (λ x. has (f x) c) xs
has_flat f [] c = refl
has_flat f (x ∷ xs) c = has_join (f x) (flat_map f xs) c ∙ ap (λ (b : Bool). has (f x) c || b) (has_flat f xs c)

-- a path that one of a list begins
pub has_in : (ps : List (List Quarter)) (c : List Quarter) → has ps c ≡ true → (p : List Quarter) × In p ps × (begins p c ≡ true)
has_in [] c h = absurd cc
has_in (p ∷ ps) c h = elim (or_cases (begins p c) (has ps c) h) [
  | inl e ↦ (p, inl refl, e)
  | inr e ↦ let k = has_in ps c e in (k.0, inr k.1, k.2)
]

pub has_from : (ps : List (List Quarter)) (p c : List Quarter) → In p ps → begins p c ≡ true → has ps c ≡ true
has_from [] p c i h = absurd i
has_from (x ∷ ps) p c i h = elim i [
  | inl e ↦ or_left (begins x c) (has ps c) (subst (λ (z : List Quarter). begins z c ≡ true) e h)
  | inr j ↦ or_right (begins x c) (has ps c) (has_from ps p c j h)
]

pub has_on : (ps : List (List Quarter)) (c r : List Quarter) → has ps c ≡ true → has ps (c ++ r) ≡ true
has_on ps c r h = let k = has_in ps c h in has_from ps k.0 (c ++ r) k.1 (begins_on k.0 c r k.2)

-- paths below one that are apart
pub disjoint_under : (a : List Quarter) (ps : List (List Quarter)) → Disjoint ps → Disjoint (map (λ p. a ++ p) ps)
disjoint_under a [] d = tt
disjoint_under a (p ∷ ps) d = (
  λ q i. let m = in_mapped (λ x. a ++ x) q ps i in let k = d.0 m.0 m.1 in (
    ap (λ (z : List Quarter). begins (a ++ p) z) m.2 ∙ begins_under a p m.0 ∙ k.0,
    ap (λ (z : List Quarter). begins z (a ++ p)) m.2 ∙ begins_under a m.0 p ∙ k.1,
  ),
  disjoint_under a ps d.1,
)

pub disjoint_join : (ps qs : List (List Quarter)) → Disjoint ps → Disjoint qs
    → ((p q : List Quarter) → In p ps → In q qs → (begins p q ≡ false) × (begins q p ≡ false)) → Disjoint (ps ++ qs)
disjoint_join [] qs d e f = e
disjoint_join (p ∷ ps) qs d e f = (
  λ q i. elim (in_append q ps qs i) [ inl j ↦ d.0 q j | inr j ↦ f p q (inl refl) j ],
  disjoint_join ps qs d.1 e (λ x y i j. f x y (inr i) j),
)
