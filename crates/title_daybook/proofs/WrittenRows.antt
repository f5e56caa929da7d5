-- Rows are written one behind the other.
use Rattle.std.proofs.{Common.{◌≡◌, ◌∙◌, ◌≤◌, ◌<◌, ◌+◌, ℕ, List, [], ◌∷◌, ◌++◌, length, take, drop}, lemmas.Bool.{ne_eqb}}
use Rattle.std.proofs.{Common.{get_or, length-take, append_assoc, refl, sym, ap, arith}, lemmas.Grind.{flat_map-append}}
use Rattle.std.proofs.lemmas.List.{append-nil, length-append, drop-append-le, map-append, take_all, take_more}
use Rattle.title_chain.specs.declared.ask.{Step.{Step}, Terms.{Terms}}
use Rattle.title_page.specs.Rows.{row}
use Rattle.title_spelling.specs.Rows.{fields_of, PlantRow}
use Rattle.title_spelling.specs.Rows as plant
use Rattle.title_daybook.specs.Added.{at_most_one, post_rows, posted, posts_of, text_of, transaction_rows}

pub text_both : (names : List (List ℕ)) (xs ys : List PlantRow) → text_of names (xs ++ ys) ≡ text_of names xs ++ text_of names ys
text_both names xs ys = flat_map-append (λ (x : PlantRow). row (fields_of names x)) xs ys

pub text_one : (names : List (List ℕ)) (x : PlantRow) → text_of names (x ∷ []) ≡ row (fields_of names x)
text_one names x = append-nil (row (fields_of names x))

-- a text behind what stands, and another behind it
pub behind : (names : List (List ℕ)) (xs ys : List PlantRow) (start done now : List ℕ) → done ≡ start ++ text_of names xs
    → now ≡ done ++ text_of names ys → now ≡ start ++ text_of names (xs ++ ys)
behind names xs ys start done now so_far next =
    next ∙ ap (λ (t : List ℕ). t ++ text_of names ys) so_far ∙ append_assoc start (text_of names xs) (text_of names ys)
    ∙ ap (λ (t : List ℕ). start ++ t) (sym (text_both names xs ys))

-- the rows of a list, with those of an element more
module _ {X : Type 0} (rows : List X → List PlantRow) (adds : (xs : List X) (x : X) → rows (xs ++ x ∷ []) ≡ rows xs ++ rows (x ∷ []))
    (names : List (List ℕ)) where
  pub one_more : (xs : List X) (i : ℕ) (x : X) (start done now : List ℕ) → i < length xs → x ≡ get_or xs i x
      → done ≡ start ++ text_of names (rows (take i xs)) → now ≡ done ++ text_of names (rows (x ∷ []))
      → now ≡ start ++ text_of names (rows (take (i + 1) xs))
  one_more xs i x start done now within is so_far next =
      let longer : take i xs ++ x ∷ [] ≡ take (i + 1) xs = ap (λ (y : X). take i xs ++ y ∷ []) is ∙ sym (take_more xs i x within) in
      behind names (rows (take i xs)) (rows (x ∷ [])) start done now so_far next
      ∙ ap (λ (l : List PlantRow). start ++ text_of names l) (sym (adds (take i xs) x) ∙ ap rows longer)

  pub all_written : (xs : List X) (i : ℕ) (start done : List ℕ) → length xs ≤ i → done ≡ start ++ text_of names (rows (take i xs))
      → done ≡ start ++ text_of names (rows xs)
  all_written xs i start done past so_far = so_far ∙ ap (λ (l : List X). start ++ text_of names (rows l)) (take_all i xs past)

-- ---- posts

pub posts_add : (e : ℕ) (steps : List Step) (s : Step) → post_rows e (posts_of (steps ++ s ∷ []))
    ≡ post_rows e (posts_of steps) ++ post_rows e (posts_of (s ∷ []))
posts_add e steps s =
    ap (post_rows e) (flat_map-append (λ (t : Step). at_most_one (posted t.ask t.answer)) steps (s ∷ []))
    ∙ map-append (plant.Post e) (posts_of steps) (posts_of (s ∷ []))

pub counts_more : (steps : List Step) (i : ℕ) (s : Step) → i < length steps → s ≡ get_or steps i s
    → length (posts_of (take (i + 1) steps)) ≡ length (posts_of (take i steps)) + length (posts_of (s ∷ []))
counts_more steps i s within is =
    let longer : take (i + 1) steps ≡ take i steps ++ s ∷ [] = take_more steps i s within
    ∙ ap (λ (t : Step). take i steps ++ t ∷ []) (sym is) in
    ap (λ (l : List Step). length (posts_of l)) longer
    ∙ ap (λ (l : List Terms). length l) (flat_map-append (λ (t : Step). at_most_one (posted t.ask t.answer)) (take i steps) (s ∷ []))
    ∙ length-append (posts_of (take i steps)) (posts_of (s ∷ []))

pub single : (e : ℕ) (posts : List Terms) → length posts ≡ 1 → transaction_rows e posts ≡ post_rows e posts
single e posts one = rw one refl

pub several : (e : ℕ) (posts : List Terms) → (length posts ≡ 1 → ⊥)
    → transaction_rows e posts ≡ plant.Begin e ∷ (post_rows e posts ++ plant.Commit e ∷ [])
several e posts more = rw (ne_eqb (length posts) 1 more) refl

-- ---- parties

pub parties_more : (xs : List (List ℕ)) (start i : ℕ) → start ≤ i → i < length xs
    → drop start (take (i + 1) xs) ≡ drop start (take i xs) ++ get_or xs i [] ∷ []
parties_more xs start i low within =
    ap (drop start) (take_more xs i [] within)
    ∙ drop-append-le start (take i xs) (get_or xs i [] ∷ []) (omega (arith, length-take i xs))
