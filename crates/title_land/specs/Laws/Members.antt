-- Members of lists.
use Rattle.std.proofs.Common.{cond, ◌≡◌, Bool, true, false, ◌⊎◌, inl, inr, List, [], ◌∷◌, ◌++◌, map, refl, sym, ap, subst, ◌∙◌}
use Rattle.std.{proofs.lemmas.Bool.{or_cases, or_left, or_right, cases_Bool, and_parts}, specs.List.{list_any, flat_map, filter, list_all}}

-- x stands in the list
abbrev pub In : {X : Type 0} → X → List X → Type 0
In x [] = ⊥
In x (y ∷ ys) = (x ≡ y) ⊎ In x ys

pub any_found : {X : Type 0} (p : X → Bool) (xs : List X) → list_any p xs ≡ true → (x : X) × In x xs × (p x ≡ true)
any_found p [] h = absurd cc
any_found p (x ∷ xs) h = elim (or_cases (p x) (list_any p xs) h) [
  | inl e ↦ (x, inl refl, e)
  | inr e ↦ let k = any_found p xs e in (k.0, inr k.1, k.2)
]

pub any_from : {X : Type 0} (p : X → Bool) (xs : List X) (x : X) → In x xs → p x ≡ true → list_any p xs ≡ true
any_from p [] x i h = absurd i
any_from p (y ∷ ys) x i h = elim i [
  | inl e ↦ or_left (p y) (list_any p ys) (sym (ap p e) ∙ h)
  | inr k ↦ or_right (p y) (list_any p ys) (any_from p ys x k h)
]

pub all_at : {X : Type 0} (p : X → Bool) (xs : List X) (x : X) → list_all p xs ≡ true → In x xs → p x ≡ true
all_at p [] x h i = absurd i
all_at p (y ∷ ys) x h i =
    let k = and_parts (p y) (list_all p ys) h in elim i [ inl e ↦ ap p e ∙ k.0 | inr j ↦ all_at p ys x k.1 j ]

pub in_left : {X : Type 0} (x : X) (xs ys : List X) → In x xs → In x (xs ++ ys)
in_left x [] ys i = absurd i
in_left x (y ∷ xs) ys i = elim i [ inl e ↦ inl e | inr k ↦ inr (in_left x xs ys k) ]

pub in_right : {X : Type 0} (x : X) (xs ys : List X) → In x ys → In x (xs ++ ys)
in_right x [] ys i = i
in_right x (y ∷ xs) ys i = inr (in_right x xs ys i)

pub in_append : {X : Type 0} (x : X) (xs ys : List X) → In x (xs ++ ys) → In x xs ⊎ In x ys
in_append x [] ys i = inr i
in_append x (y ∷ xs) ys i = elim i [
  | inl e ↦ inl (inl e)
  | inr k ↦ elim (in_append x xs ys k) [ inl m ↦ inl (inr m) | inr m ↦ inr m ]
]

-- of a list with one more at its end
pub in_last : {X : Type 0} (x y : X) (xs : List X) → In x (xs ++ y ∷ []) → In x xs ⊎ (x ≡ y)
in_last x y xs i = elim (in_append x xs (y ∷ []) i) [ inl k ↦ inl k | inr k ↦ elim k [ inl e ↦ inr e | inr z ↦ absurd z ] ]

pub in_middle : {X : Type 0} (x : X) (xs ys : List X) → In x (xs ++ x ∷ ys)
in_middle x xs ys = in_right x xs (x ∷ ys) (inl refl)

-- of a list with one more in its middle
pub in_more : {X : Type 0} (x y : X) (xs ys : List X) → In x (xs ++ ys) → In x (xs ++ y ∷ ys)
in_more x y xs ys i = elim (in_append x xs ys i) [ inl j ↦ in_left x xs (y ∷ ys) j | inr j ↦ in_right x xs (y ∷ ys) (inr j) ]

pub in_map : {X Y : Type 0} (f : X → Y) (x : X) (xs : List X) → In x xs → In (f x) (map f xs)
in_map f x [] i = absurd i
in_map f x (y ∷ xs) i = elim i [ inl e ↦ inl (ap f e) | inr k ↦ inr (in_map f x xs k) ]

pub in_mapped : {X Y : Type 0} (f : X → Y) (y : Y) (xs : List X) → In y (map f xs) → (x : X) × In x xs × (y ≡ f x)
in_mapped f y [] i = absurd i
in_mapped f y (x ∷ xs) i = elim i [
  | inl e ↦ (x, inl refl, e)
  | inr k ↦ let m = in_mapped f y xs k in (m.0, inr m.1, m.2)
]

pub in_flat_map : {X Y : Type 0} (f : X → List Y) (xs : List X) (x : X) (y : Y) → In x xs → In y (f x) → In y (flat_map f xs)
in_flat_map f [] x y i j = absurd i
in_flat_map f (z ∷ xs) x y i j = elim i [
  | inl e ↦ in_left y (f z) (flat_map f xs) (subst (λ (w : _). In y (f w)) e j)
  | inr k ↦ in_right y (f z) (flat_map f xs) (in_flat_map f xs x y k j)
]

pub in_flat_mapped : {X Y : Type 0} (f : X → List Y) (xs : List X) (y : Y) → In y (flat_map f xs) → (x : X) × In x xs × In y (f x)
in_flat_mapped f [] y i = absurd i
in_flat_mapped f (x ∷ xs) y i = elim (in_append y (f x) (flat_map f xs) i) [
  | inl j ↦ (x, inl refl, j)
  | inr j ↦ let k = in_flat_mapped f xs y j in (k.0, inr k.1, k.2)
]

pub in_filter : {X : Type 0} (p : X → Bool) (xs : List X) (x : X) → In x xs → p x ≡ true → In x (filter p xs)
in_filter p [] x i h = absurd i
in_filter p (y ∷ xs) x i h = elim i [
  | inl e ↦ let f : p y ≡ true = sym (ap p e) ∙ h in rw f (inl e)
  | inr k ↦ elim (p y) as (λ (b : Bool). In x (cond b (y ∷ filter p xs) (filter p xs))) [
    | true ↦ inr (in_filter p xs x k h)
    | false ↦ in_filter p xs x k h
  ]
]

pub in_filtered : {X : Type 0} (p : X → Bool) (xs : List X) (x : X) → In x (filter p xs) → In x xs × (p x ≡ true)
in_filtered p [] x i = absurd i
in_filtered p (y ∷ xs) x i = elim (cases_Bool (p y)) [
  | inl e ↦ elim (rw e at i) [
    | inl f ↦ (inl f, ap p f ∙ e)
    | inr j ↦ let k = in_filtered p xs x j in (inr k.0, k.1)
  ]
  | inr e ↦ let k = in_filtered p xs x (rw e at i) in (inr k.0, k.1)
]

pub filter_none : {X : Type 0} (p : X → Bool) (xs : List X) → ((x : X) → In x xs → p x ≡ false) → filter p xs ≡ []
filter_none p [] f = refl
filter_none p (x ∷ xs) f = rw (f x (inl refl)) (filter_none p xs (λ y i. f y (inr i)))
