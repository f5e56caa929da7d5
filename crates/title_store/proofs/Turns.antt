-- Lists whose elements stand pairwise in a relation.
use Rattle.std.{proofs.Common.{inl, inr, List, [], ◌∷◌, ◌++◌, map, refl, sym, subst}, specs.List.{flat_map}}
use Rattle.title_land.specs.Laws.Members.{In, in_append, in_flat_mapped, in_mapped}

-- each element stands so to all after it
abbrev pub Pairs : {A : Type 0} → (A → A → Type 0) → List A → Type 0
Pairs r [] = Unit {0}
Pairs r (x ∷ xs) = ((y : _) → In y xs → r x y) × Pairs r xs

pub pairs_append : {A : Type 0} (r : A → A → Type 0) (xs ys : List A) → Pairs r xs → Pairs r ys
    → ((x y : A) → In x xs → In y ys → r x y) → Pairs r (xs ++ ys)
pairs_append r [] ys f g h = g
pairs_append r (x ∷ xs) ys f g h = (
  λ y i. elim (in_append y xs ys i) [
    | inl j ↦ f.0 y j
    | inr j ↦ h x y (inl refl) j
  ],
  pairs_append r xs ys f.1 g (λ a b i j. h a b (inr i) j),
)

pub pairs_flat : {X Y : Type 0} (q : X → X → Type 0) (r : Y → Y → Type 0) (k : X → List Y) (xs : List X) → Pairs q xs
    → ((a : X) → In a xs → Pairs r (k a))
    → ((a b : X) → In a xs → In b xs → q a b → (x y : Y) → In x (k a) → In y (k b) → r x y) → Pairs r (flat_map k xs)
pairs_flat q r k [] p g h = tt
pairs_flat q r k (z ∷ xs) p g h =
    pairs_append r (k z) (flat_map k xs) (g z (inl refl))
    (pairs_flat q r k xs p.1 (λ a i. g a (inr i)) (λ a b i j. h a b (inr i) (inr j)))
    (λ u v i j. let f = in_flat_mapped k xs v j in h z f.0 (inl refl) (inr f.1) (p.0 f.0 f.1) u v i f.2)

pub pairs_map : {X Y : Type 0} (q : X → X → Type 0) (r : Y → Y → Type 0) (f : X → Y) (xs : List X) → Pairs q xs
    → ((a b : X) → In a xs → In b xs → q a b → r (f a) (f b)) → Pairs r (map f xs)
pairs_map q r f [] p h = tt
pairs_map q r f (z ∷ xs) p h = (
  λ y i. let m = in_mapped f y xs i in
      subst (λ (v : _). r (f z) v) (sym m.2) (h z m.0 (inl refl) (inr m.1) (p.0 m.0 m.1)),
  pairs_map q r f xs p.1 (λ a b i j. h a b (inr i) (inr j)),
)

pub pairs_more : {X : Type 0} (q r : X → X → Type 0) (xs : List X) → Pairs q xs
    → ((a b : X) → In a xs → In b xs → q a b → r a b) → Pairs r xs
pairs_more q r [] p h = tt
pairs_more q r (z ∷ xs) p h = (λ y i. h z y (inl refl) (inr i) (p.0 y i), pairs_more q r xs p.1 (λ a b i j. h a b (inr i) (inr j)))

pub pairs_all : {X : Type 0} (r : X → X → Type 0) (xs : List X) → ((a b : X) → In a xs → In b xs → r a b) → Pairs r xs
pairs_all r [] h = tt
pairs_all r (z ∷ xs) h = (λ y i. h z y (inl refl) (inr i), pairs_all r xs (λ a b i j. h a b (inr i) (inr j)))
