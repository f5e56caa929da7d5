-- Sets of characters, as lists.
use Rattle.std.proofs.Common.{◌≡◌, ℕ, Bool, true, false, ◌||◌, ◌==◌, List, [], ◌∷◌, ◌++◌, refl, ap, ◌∙◌, inl, inr, ◌⊎◌}
use Rattle.std.proofs.lemmas.Bool.{eqb-true}
use Rattle.title_grammar.specs.{Language.{member}, Reading.{starts}, Laws.Heads.{disjoint, disjoint_one}}

or_left : (b m n : Bool) → (m ≡ true → n ≡ true) → (b || m) ≡ true → (b || n) ≡ true
or_left true m n f h = refl
or_left false m n f h = f h

or_right : (b n : Bool) → n ≡ true → (b || n) ≡ true
or_right true n h = refl
or_right false n h = h

or_split : (b m n o : Bool) → (n ≡ false → (m ≡ false) × (o ≡ false)) → (b || n) ≡ false → ((b || m) ≡ false) × (o ≡ false)
or_split true m n o f h = absurd cc
or_split false m n o f h = f h

pub member-append-left : (c : ℕ) (xs ys : List ℕ) → member c xs ≡ true → member c (xs ++ ys) ≡ true
member-append-left c [] ys h = absurd cc
member-append-left c (d ∷ xs) ys h = or_left (c == d) (member c xs) (member c (xs ++ ys)) (λ k. member-append-left c xs ys k) h

pub member-append-right : (c : ℕ) (xs ys : List ℕ) → member c ys ≡ true → member c (xs ++ ys) ≡ true
member-append-right c [] ys h = h
member-append-right c (d ∷ xs) ys h = or_right (c == d) (member c (xs ++ ys)) (member-append-right c xs ys h)

pub member-split : (c : ℕ) (xs ys : List ℕ) → member c (xs ++ ys) ≡ false → (member c xs ≡ false) × (member c ys ≡ false)
member-split c [] ys h = (refl, h)
member-split c (d ∷ xs) ys h = or_split (c == d) (member c xs) (member c (xs ++ ys)) (member c ys) (λ k. member-split c xs ys k) h

pub starts-split : (xs ys r : List ℕ) → starts (xs ++ ys) r ≡ false → (starts xs r ≡ false) × (starts ys r ≡ false)
starts-split xs ys [] h = (refl, refl)
starts-split xs ys (c ∷ r) h = member-split c xs ys h

-- from a set of which no character is in ys
disjoint_head : (m rest : Bool) → disjoint_one m rest ≡ true → (m ≡ false) × (rest ≡ true)
disjoint_head true rest h = absurd cc
disjoint_head false rest h = (refl, h)

either : (b m : Bool) → (b || m) ≡ true → (b ≡ true) ⊎ (m ≡ true)
either true m h = inl refl
either false m h = inr h

pub disjoint-apart : (xs ys : List ℕ) (c : ℕ) → disjoint xs ys ≡ true → member c xs ≡ true → member c ys ≡ false
disjoint-apart [] ys c h m = absurd cc
disjoint-apart (d ∷ xs) ys c h m =
    let k = disjoint_head (member d ys) (disjoint xs ys) h in
    elim (either (c == d) (member c xs) m) [
      | inl e ↦ ap (λ x. member x ys) (eqb-true c d e) ∙ k.0
      | inr e ↦ disjoint-apart xs ys c k.1 e
    ]
