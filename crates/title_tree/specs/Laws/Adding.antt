-- What is made at some paths one after another, while the plot is quartered down to each.
use Rattle.std.proofs.Common.{◌≡◌, ◌∙◌, ap, sym, refl, inl, inr, List, [], ◌∷◌, ◌++◌, append_assoc, None, Result}
use Rattle.std.specs.Option.{option_or}
use Rattle.title_share.specs.Division.{Division}
use Rattle.title_land.specs.{declared.rectangle.Quarter.{Quarter}, Laws.Members.{In}}
use Rattle.title_tree.specs.{Plots.{Plot, plot_at, split, changed, first_refusal}, Laws.{Swaps.{fresh_same}, Joined.{elsewhere_split}}}
use Rattle.title_tree.specs.Pieces.{Piece, Apart, Refines, StaysWithin, StaysElsewhere, fresh, refusal_at}

pub stays_refines : (t : Plot) → Refines t t
stays_refines t = record { content = λ c. refl; paths = λ q h. h }

pub stays_within : (ps : List (List Quarter)) (t : Plot) → StaysWithin ps t t
stays_within ps t n s h = h

pub stays_elsewhere : (ps : List (List Quarter)) (t : Plot) → StaysElsewhere ps t t
stays_elsewhere ps t q a = refl

refusal_same : {R : Type 0} (effect : Division → Result Division R) (ps : List (List Quarter)) (t u : Plot)
    → ((p : List Quarter) → In p ps → plot_at p t ≡ plot_at p u) → refusal_at effect ps t ≡ refusal_at effect ps u
refusal_same effect [] t u f = refl
refusal_same effect (p ∷ ps) t u f = rw (f p (inl refl), refusal_same effect ps t u (λ q i. f q (inr i))) refl

-- what stands at paths that are apart from one stays when the plot is quartered down to that
stays_there : (p : List Quarter) (ps : List (List Quarter)) (t u : Plot) → u ≡ split p t → Apart p ps → (q : List Quarter) → In q ps
    → plot_at q t ≡ plot_at q u
stays_there p ps t u e a q i = sym (ap (plot_at q) e ∙ elsewhere_split p q t (a q i).1)

-- where the first path refuses nothing, the others' refusal in what is quartered down to it is that of all
pub refusal_more : {R : Type 0} (effect : Division → Result Division R) (p : List Quarter) (ps qs : List (List Quarter)) (t u : Plot)
    → qs ≡ p ∷ ps → u ≡ split p t → Apart p ps → first_refusal effect (plot_at p t) ≡ None
    → refusal_at effect ps u ≡ refusal_at effect qs t
refusal_more effect p ps qs t u l e a none =
    sym (ap (λ z. refusal_at effect z t) l ∙ ap (λ z. option_or z (refusal_at effect ps t)) none
    ∙ refusal_same effect ps t u (stays_there p ps t u e a))

-- one more piece, and those of the other paths
pub fresh_more : (change : Division → Division) (p : List Quarter) (ps qs : List (List Quarter)) (t u : Plot) (old mid new : List Piece)
    → qs ≡ p ∷ ps → u ≡ split p t → Apart p ps → mid ≡ old ++ record { path = p; plot = changed change (plot_at p t) } ∷ []
    → new ≡ mid ++ fresh change ps u → new ≡ old ++ fresh change qs t
fresh_more change p ps qs t u old mid new l e a one more =
    more ∙ ap (λ z. z ++ fresh change ps u) one ∙ append_assoc old (record { path = p; plot = changed change (plot_at p t) } ∷ []) (fresh
    change ps u)
    ∙ (λ i. old ++ record { path = p; plot = changed change (plot_at p t) } ∷ sym (fresh_same change ps t u (stays_there p ps t u e a)) i)
    ∙ ap (λ z. old ++ fresh change z t) (sym l)
