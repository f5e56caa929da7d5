-- Lists that lose their last item together.
use Rattle.std.proofs.{Common.{◌≡◌, List, [], ◌∷◌, ◌++◌, length, map, refl, sym, ap, ◌∙◌, arith, length-append}, lemmas.List.{map-append}}

-- lists with an item more at their ends are equal only where the lists and the items are
pub unsnoc : {A : Type 0} (xs ys : List A) (x y : A) → xs ++ x ∷ [] ≡ ys ++ y ∷ [] → (xs ≡ ys) × (x ≡ y)
unsnoc [] [] x y e = (refl, cc)
unsnoc [] (b ∷ ys) x y e = absurd (omega (arith, ap length e, length-append ys (y ∷ [])))
unsnoc (a ∷ xs) [] x y e = absurd (omega (arith, ap length e, length-append xs (x ∷ [])))
unsnoc (a ∷ xs) (b ∷ ys) x y e =
    let tails : xs ++ x ∷ [] ≡ ys ++ y ∷ [] = cc in let heads : a ≡ b = cc in let h = unsnoc xs ys x y tails in
    let first = h.0 in (cc, h.1)

-- two lists of which the same is read, when both lose their last item
pub unsnoc_maps : {A B C : Type 0} (f : A → C) (g : B → C) (all left : List A) (others rest : List B) (a : A) (b : B) →
    map f all ≡ map g others → all ≡ left ++ a ∷ [] → others ≡ rest ++ b ∷ [] → (map f left ≡ map g rest) × (f a ≡ g b)
unsnoc_maps f g all left others rest a b e p q =
    unsnoc (map f left) (map g rest) (f a) (g b)
    (sym (map-append f left (a ∷ [])) ∙ ap (map f) (sym p) ∙ e ∙ ap (map g) q ∙ map-append g rest (b ∷ []))
