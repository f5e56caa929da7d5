-- Rows that are written one after another.
use Rattle.std.proofs.Common.{◌≡◌, ◌∙◌, ◌++◌, ◌∷◌, [], ◌<◌, ◌+◌, ℕ, List, Option, length, map, take, drop, get_or, sym, ap, subst}
use Rattle.std.{proofs.lemmas.{List.{append-nil, map-append, take-append-drop, take_more}, Grind.{flat_map-append}}, specs.List.{flat_map}}
use Rattle.title_page.specs.{Pages.{Stopped, Written}, Rows.{row, rows_text}, Laws.InTurn.{stopped_before, stopped_then, written_then}}

-- rows written behind others
pub rows_then : {a b c : Option (List ℕ)} {p q r : List ℕ} (xs ys : List (List (List ℕ)))
    → Written a p b q (rows_text xs) → Written b q c r (rows_text ys) → Written a p c r (rows_text (xs ++ ys))
rows_then {a} {b} {c} {p} {q} {r} xs ys w v =
    subst (λ (t : List ℕ). Written a p c r t) (sym (flat_map-append row xs ys)) (written_then (rows_text xs) (rows_text ys) w v)

-- the sink failed while rows were written behind others
pub rows_stopped_then : {a b c : Option (List ℕ)} {p q : List ℕ} (xs ys : List (List (List ℕ)))
    → Written a p b q (rows_text xs) → Stopped b q c (rows_text ys) → Stopped a p c (rows_text (xs ++ ys))
rows_stopped_then {a} {b} {c} {p} {q} xs ys w v =
    subst (λ (t : List ℕ). Stopped a p c t) (sym (flat_map-append row xs ys)) (stopped_then (rows_text xs) (rows_text ys) w v)

-- the sink failed before further rows
pub rows_stopped_before : {a b : Option (List ℕ)} {p : List ℕ} (xs ys : List (List (List ℕ)))
    → Stopped a p b (rows_text xs) → Stopped a p b (rows_text (xs ++ ys))
rows_stopped_before {a} {b} {p} xs ys v =
    subst (λ (t : List ℕ). Stopped a p b t) (sym (flat_map-append row xs ys)) (stopped_before (rows_text xs) (rows_text ys) v)

module _ {A : Type 0} (f : A → List (List ℕ)) (xs : List A) (i : ℕ) (x : A) (lt : i < length xs) (is : x ≡ get_or xs i x) where
  -- the rows of the first of some things, and of one more
  one_more : map f (take (i + 1) xs) ≡ map f (take i xs) ++ f x ∷ []
  one_more = ap (λ (ys : List A). map f ys) (take_more xs i x lt) ∙ map-append f (take i xs) (get_or xs i x ∷ [])
      ∙ ap (λ (y : A). map f (take i xs) ++ f y ∷ []) (sym is)

  -- the rows of all things begin with those of the first, and one more
  all_of_them : map f xs ≡ (map f (take i xs) ++ f x ∷ []) ++ map f (drop (i + 1) xs)
  all_of_them =
      ap (λ (ys : List A). map f ys) (sym (take-append-drop (i + 1) xs)) ∙ map-append f (take (i + 1) xs) (drop (i + 1) xs)
      ∙ ap (λ (ys : List (List (List ℕ))). ys ++ map f (drop (i + 1) xs)) one_more

  -- one more row, behind those of the things before
  pub one_row_more : {a b c : Option (List ℕ)} {p q r : List ℕ} → Written a p b q (rows_text (map f (take i xs)))
      → Written b q c r (rows_text (f x ∷ [])) → Written a p c r (rows_text (map f (take (i + 1) xs)))
  one_row_more {a} {b} {c} {p} {q} {r} w v =
      subst (λ (rows : List (List (List ℕ))). Written a p c r (rows_text rows)) (sym one_more) (rows_then _ _ w v)

  -- the sink failed at one more row, before those of the things that follow
  pub stopped_at_a_row : {a b c : Option (List ℕ)} {p q : List ℕ} → Written a p b q (rows_text (map f (take i xs)))
      → Stopped b q c (rows_text (f x ∷ [])) → Stopped a p c (rows_text (map f xs))
  stopped_at_a_row {a} {b} {c} {p} {q} w v =
      subst (λ (rows : List (List (List ℕ))). Stopped a p c (rows_text rows)) (sym all_of_them)
      (rows_stopped_before _ _ (rows_stopped_then _ _ w v))

module _ {A : Type 0} (f : A → List (List (List ℕ))) (xs : List A) (i : ℕ) (x : A) (lt : i < length xs) (is : x ≡ get_or xs i x) where
  -- the rows of the first of some things that have several each, and of one more
  with_one : flat_map f (take (i + 1) xs) ≡ flat_map f (take i xs) ++ f x
  with_one = ap (λ (ys : List A). flat_map f ys) (take_more xs i x lt) ∙ flat_map-append f (take i xs) (get_or xs i x ∷ [])
      ∙ ap (λ (y : A). flat_map f (take i xs) ++ (f y ++ [])) (sym is)
      ∙ ap (λ (rows : List (List (List ℕ))). flat_map f (take i xs) ++ rows) (append-nil (f x))

  -- the rows of all begin with those of the first, and of one more
  with_all : flat_map f xs ≡ (flat_map f (take i xs) ++ f x) ++ flat_map f (drop (i + 1) xs)
  with_all =
      ap (λ (ys : List A). flat_map f ys) (sym (take-append-drop (i + 1) xs)) ∙ flat_map-append f (take (i + 1) xs) (drop (i + 1) xs)
      ∙ ap (λ (ys : List (List (List ℕ))). ys ++ flat_map f (drop (i + 1) xs)) with_one

  -- the rows of one more, behind those of the things before
  pub rows_of_one_more : {a b c : Option (List ℕ)} {p q r : List ℕ} → Written a p b q (rows_text (flat_map f (take i xs)))
      → Written b q c r (rows_text (f x)) → Written a p c r (rows_text (flat_map f (take (i + 1) xs)))
  rows_of_one_more {a} {b} {c} {p} {q} {r} w v =
      subst (λ (rows : List (List (List ℕ))). Written a p c r (rows_text rows)) (sym with_one) (rows_then _ _ w v)

  -- the sink failed at the rows of one more, before those of the things that follow
  pub stopped_at_one : {a b c : Option (List ℕ)} {p q : List ℕ} → Written a p b q (rows_text (flat_map f (take i xs)))
      → Stopped b q c (rows_text (f x)) → Stopped a p c (rows_text (flat_map f xs))
  stopped_at_one {a} {b} {c} {p} {q} w v =
      subst (λ (rows : List (List (List ℕ))). Stopped a p c (rows_text rows)) (sym with_all)
      (rows_stopped_before _ _ (rows_stopped_then _ _ w v))
