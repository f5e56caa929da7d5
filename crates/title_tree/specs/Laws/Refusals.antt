-- The first leaf that refuses a change refuses it as the first cell that does.
use Rattle.std.{proofs.Common.{◌≡◌, ℕ, zero, suc, true, List, [], ◌∷◌, ◌++◌, map, Option, Some, None, Result}, specs.Option.{option_or}}
use Rattle.std.proofs.Common.{refl, sym, ap, ◌∙◌, ◌+◌, ◌-◌, Bool, false, ◌||◌, ◌⊎◌, inl, inr, length, length-append, arith, true≢false}
use Rattle.title_share.specs.Division.{Division}
use Rattle.title_land.specs.declared.rectangle.Quarter.{Quarter, TheVariants.{Northeast, Northwest, Southwest, Southeast}}
use Rattle.title_tree.specs.{Changes.{why_of}, Cells.{cell_paths, first_some}, Paths.{begins, rest}, Pieces.{has, refusal_at, Short}}
use Rattle.title_tree.specs.{Plots.{Plot, Same, Four, value_at, plot_at, first_refusal, fits}, Laws.Depths.{fits_plot_at}}
use Rattle.title_tree.specs.Laws.{Uniform.{four_all, corner, length-corner}, Grafts.{value_plot_at}}
use Rattle.title_tree.specs.Laws.Beginnings.{begins_append, rest_append}

or_assoc : {A : Type 0} (x y z : Option A) → option_or (option_or x y) z ≡ option_or x (option_or y z)
or_assoc None y z = refl
or_assoc (Some x) y z = refl

or_self : {A : Type 0} (x : Option A) → option_or x (option_or x (option_or x x)) ≡ x
or_self None = refl
or_self (Some x) = refl

or_none : {A : Type 0} (x : Option A) → option_or x None ≡ x
or_none None = refl
or_none (Some x) = refl

first_append : {R : Type 0} (f : List Quarter → Option R) (xs ys : List (List Quarter))
    → first_some f (xs ++ ys) ≡ option_or (first_some f xs) (first_some f ys)
first_append f [] ys = refl
first_append {R} f (x ∷ xs) ys =
    ap (λ (z : Option R). option_or (f x) z) (first_append f xs ys) ∙ sym (or_assoc (f x) (first_some f xs) (first_some f ys))

first_map : {R : Type 0} (f : List Quarter → Option R) (g : List Quarter → List Quarter) (xs : List (List Quarter))
    → first_some f (map g xs) ≡ first_some (λ c. f (g c)) xs
first_map f g [] = refl
first_map {R} f g (x ∷ xs) = ap (λ (z : Option R). option_or (f (g x)) z) (first_map f g xs)

-- the first of a square's cells is the first of its quarters' cells
first_cells : {R : Type 0} (f : List Quarter → Option R) (n : ℕ) → first_some f (cell_paths (suc n))
    ≡ option_or (first_some (λ c. f (Northeast ∷ c)) (cell_paths n)) (option_or (first_some (λ c. f (Northwest ∷ c)) (cell_paths n))
    (option_or (first_some (λ c. f (Southwest ∷ c)) (cell_paths n)) (first_some (λ c. f (Southeast ∷ c)) (cell_paths n))))
first_cells f n = simp (first_append, first_map, or_none) refl

first_same : {R : Type 0} (why : Option R) (n : ℕ) → first_some (λ c. why) (cell_paths n) ≡ why
first_same why zero = or_none why
first_same {R} why (suc n) =
    first_cells (λ c. why) n ∙ ap (λ (x : Option R). option_or x (option_or x (option_or x x))) (first_same why n) ∙ or_self why

pub first_leaf_refuses : {R : Type 0} (effect : Division → Result Division R) (n : ℕ) (t : Plot) → fits n t ≡ true
    → first_refusal effect t ≡ first_some (λ c. why_of (effect (value_at t c))) (cell_paths n)
first_leaf_refuses effect n (Same held) h = sym (first_same (why_of (effect held)) n)
first_leaf_refuses effect zero (Four a b c d) h = absurd cc
first_leaf_refuses effect (suc n) (Four a b c d) h =
    let k = four_all (fits n a) (fits n b) (fits n c) (fits n d) h in
    rw (
      first_leaf_refuses effect n a k.0,
      first_leaf_refuses effect n b k.1,
      first_leaf_refuses effect n c k.2,
      first_leaf_refuses effect n d k.3,
    ) (sym (first_cells (λ x. why_of (effect (value_at (Four a b c d) x))) n))

none_or : {A : Type 0} (x y : Option A) → option_or x y ≡ None → (x ≡ None) × (y ≡ None)
none_or None y h = (refl, h)
none_or (Some x) y h = absurd cc

four_none : {R : Type 0} (why : Division → Option R) (a b c d : Plot) → ((p : List Quarter) → why (value_at a p) ≡ None)
    → ((p : List Quarter) → why (value_at b p) ≡ None) → ((p : List Quarter) → why (value_at c p) ≡ None)
    → ((p : List Quarter) → why (value_at d p) ≡ None) → (x : List Quarter) → why (value_at (Four a b c d) x) ≡ None
four_none why a b c d e f g h [] = e []
four_none why a b c d e f g h (Northeast ∷ p) = e p
four_none why a b c d e f g h (Northwest ∷ p) = f p
four_none why a b c d e f g h (Southwest ∷ p) = g p
four_none why a b c d e f g h (Southeast ∷ p) = h p

pub none_refuses : {R : Type 0} (effect : Division → Result Division R) (t : Plot) → first_refusal effect t ≡ None
    → (c : List Quarter) → why_of (effect (value_at t c)) ≡ None
none_refuses effect (Same held) h c = h
none_refuses effect (Four a b c d) h x =
    let first = none_or (first_refusal effect a) _ h in
    let second = none_or (first_refusal effect b) _ first.1 in
    let third = none_or (first_refusal effect c) (first_refusal effect d) second.1 in
    four_none (λ held. why_of (effect held)) a b c d (λ p. none_refuses effect a first.0 p) (λ p. none_refuses effect b second.0 p)
    (λ p. none_refuses effect c third.0 p) (λ p. none_refuses effect d third.1 p) x

either : {X : Type 0} (b h : Bool) → (b || h) ≡ true → (b ≡ true → X) → (h ≡ true → X) → X
either true h e f g = f refl
either false h e f g = g e

pub none_refuses_at : {R : Type 0} (effect : Division → Result Division R) (ps : List (List Quarter)) (t : Plot)
    → refusal_at effect ps t ≡ None → (c : List Quarter) → has ps c ≡ true → why_of (effect (value_at t c)) ≡ None
none_refuses_at effect [] t h c i = absurd cc
none_refuses_at effect (p ∷ ps) t h c i =
    let none = none_or (first_refusal effect (plot_at p t)) (refusal_at effect ps t) h in
    either (begins p c) (has ps c) i
    (λ b. ap (λ (held : Division). why_of (effect held)) (sym (value_plot_at p t c b))
    ∙ none_refuses effect (plot_at p t) none.0 (rest p c))
    (λ j. none_refuses_at effect ps t none.1 c j)

or_some : {A : Type 0} (x y : Option A) (w : A) → option_or x y ≡ Some w → (x ≡ Some w) ⊎ (y ≡ Some w)
or_some None y w h = inr h
or_some (Some x) y w h = inl h

-- a cell that refuses a change
abbrev Refusing : {R : Type 0} → (Division → Result Division R) → ℕ → Plot → R → Type 0
Refusing effect levels t why = (c : List Quarter) × (length c ≡ levels) × (why_of (effect (value_at t c)) ≡ Some why)

some_refuses : {R : Type 0} (effect : Division → Result Division R) (levels : ℕ) (t : Plot) (why : R) → fits levels t ≡ true
    → first_refusal effect t ≡ Some why → Refusing effect levels t why
some_refuses effect levels (Same held) why f h = (corner levels, length-corner levels, h)
some_refuses effect zero (Four a b c d) why f h = absurd cc
some_refuses effect (suc n) (Four a b c d) why f h =
    let k = four_all (fits n a) (fits n b) (fits n c) (fits n d) f in
    let more = λ (m : ℕ). suc m in
    elim (or_some (first_refusal effect a) _ why h) [
      | inl e ↦ let x = some_refuses effect n a why k.0 e in (Northeast ∷ x.0, ap more x.1, x.2)
      | inr g ↦ elim (or_some (first_refusal effect b) _ why g) [
        | inl e ↦ let x = some_refuses effect n b why k.1 e in (Northwest ∷ x.0, ap more x.1, x.2)
        | inr j ↦ elim (or_some (first_refusal effect c) (first_refusal effect d) why j) [
          | inl e ↦ let x = some_refuses effect n c why k.2 e in (Southwest ∷ x.0, ap more x.1, x.2)
          | inr e ↦ let x = some_refuses effect n d why k.3 e in (Southeast ∷ x.0, ap more x.1, x.2)
        ]
      ]
    ]

or_true : (b h : Bool) → b ≡ true → (b || h) ≡ true
or_true true h e = refl
or_true false h e = absurd (true≢false (sym e))

or_later : (b h : Bool) → h ≡ true → (b || h) ≡ true
or_later true h e = refl
or_later false h e = e

pub some_refuses_at : {R : Type 0} (effect : Division → Result Division R) (levels : ℕ) (ps : List (List Quarter)) (t : Plot) (why : R)
    → fits levels t ≡ true → Short ps levels → refusal_at effect ps t ≡ Some why
    → (c : List Quarter) × (has ps c ≡ true) × (length c ≡ levels) × (why_of (effect (value_at t c)) ≡ Some why)
some_refuses_at effect levels [] t why f s h = absurd cc
some_refuses_at effect levels (p ∷ ps) t why f s h =
    elim (or_some (first_refusal effect (plot_at p t)) (refusal_at effect ps t) why h) [
      | inl e ↦
          let short = s p (inl refl) in
          let split : levels ≡ length p + (levels - length p) = omega (arith, short) in
          let x = some_refuses effect (levels - length p) (plot_at p t) why (fits_plot_at levels (levels - length p) p t split f) e in
          let long = length-append p x.0 in
          let whole : value_at t (p ++ x.0) ≡ value_at (plot_at p t) x.0 =
          sym (value_plot_at p t (p ++ x.0) (begins_append p x.0))
          ∙ ap (λ (z : List Quarter). value_at (plot_at p t) z) (rest_append p x.0) in (
            p ++ x.0,
            or_true (begins p (p ++ x.0)) (has ps (p ++ x.0)) (begins_append p x.0),
            omega (arith, long, x.1, short),
            ap (λ (held : Division). why_of (effect held)) whole ∙ x.2,
          )
      | inr g ↦
          let x = some_refuses_at effect levels ps t why f (λ q i. s q (inr i)) g in
          (x.0, or_later (begins p x.0) (has ps x.0) x.1, x.2, x.3)
    ]
