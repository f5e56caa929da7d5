-- What stands, told in numbers: rows in turn through a page, and the page given to the sink at the end.
use Rattle.std.proofs.Common.{◌≡◌, ◌∙◌, ℕ, List, [], ◌∷◌, Option, sym, subst, length, map, reverse}
use Rattle.std.proofs.lemmas.List.{length-map, length-reverse}
use Rattle.title_page.specs.{Pages.{Stopped, Written}, Rows.{rows_text}}
use Rattle.title_page.specs.Laws.Rows.{rows_stopped_before, rows_stopped_then, rows_then}
use Rattle.title_lasting.specs.Tells.{count_row}

-- ---- rows of a word and a number

module _ (word : List ℕ) (n m : ℕ) (same : n ≡ m) where
  pub counted_as : {a b : Option (List ℕ)} {p q : List ℕ} → Written a p b q (rows_text (count_row word n ∷ []))
      → Written a p b q (rows_text (count_row word m ∷ []))
  counted_as {a} {b} {p} {q} w = subst (λ (k : ℕ). Written a p b q (rows_text (count_row word k ∷ []))) same w

  pub stopped_at : {a b : Option (List ℕ)} {p : List ℕ} → Stopped a p b (rows_text (count_row word n ∷ []))
      → Stopped a p b (rows_text (count_row word m ∷ []))
  stopped_at {a} {b} {p} v = subst (λ (k : ℕ). Stopped a p b (rows_text (count_row word k ∷ []))) same v

pub number_mapped : {A B : Type 0} (f : A → B) (xs : List A) (n : ℕ) → n ≡ length xs → n ≡ length (map f xs)
number_mapped f xs n e = e ∙ sym (length-map xs f)

pub number_turned : {A B : Type 0} (f : A → B) (xs : List A) (n : ℕ) → n ≡ length xs → n ≡ length (reverse (map f xs))
number_turned f xs n e = number_mapped f xs n e ∙ sym (length-reverse (map f xs))

-- five rows in turn
module _ (r s t u v : List (List ℕ)) where
  pub at_first : {a b : Option (List ℕ)} {p : List ℕ} → Stopped a p b (rows_text (r ∷ []))
      → Stopped a p b (rows_text (r ∷ s ∷ t ∷ u ∷ v ∷ []))
  at_first x = rows_stopped_before (r ∷ []) (s ∷ t ∷ u ∷ v ∷ []) x

  pub at_second : {a b c : Option (List ℕ)} {p q : List ℕ} → Written a p b q (rows_text (r ∷ [])) → Stopped b q c (rows_text (s ∷ []))
      → Stopped a p c (rows_text (r ∷ s ∷ t ∷ u ∷ v ∷ []))
  at_second one x = rows_stopped_before (r ∷ s ∷ []) (t ∷ u ∷ v ∷ []) (rows_stopped_then (r ∷ []) (s ∷ []) one x)

  pub at_third : {a b c d : Option (List ℕ)} {p q k : List ℕ} → Written a p b q (rows_text (r ∷ []))
      → Written b q c k (rows_text (s ∷ [])) → Stopped c k d (rows_text (t ∷ [])) → Stopped a p d (rows_text (r ∷ s ∷ t ∷ u ∷ v ∷ []))
  at_third one two x =
      rows_stopped_before (r ∷ s ∷ t ∷ []) (u ∷ v ∷ [])
      (rows_stopped_then (r ∷ s ∷ []) (t ∷ []) (rows_then (r ∷ []) (s ∷ []) one two) x)

  three_rows : {a b c d : Option (List ℕ)} {p q k l : List ℕ} → Written a p b q (rows_text (r ∷ []))
      → Written b q c k (rows_text (s ∷ [])) → Written c k d l (rows_text (t ∷ [])) → Written a p d l (rows_text (r ∷ s ∷ t ∷ []))
  three_rows one two three = rows_then (r ∷ s ∷ []) (t ∷ []) (rows_then (r ∷ []) (s ∷ []) one two) three

  pub at_fourth : {a b c d e : Option (List ℕ)} {p q k l : List ℕ} → Written a p b q (rows_text (r ∷ []))
      → Written b q c k (rows_text (s ∷ [])) → Written c k d l (rows_text (t ∷ [])) → Stopped d l e (rows_text (u ∷ []))
      → Stopped a p e (rows_text (r ∷ s ∷ t ∷ u ∷ v ∷ []))
  at_fourth one two three x =
      rows_stopped_before (r ∷ s ∷ t ∷ u ∷ []) (v ∷ [])
      (rows_stopped_then (r ∷ s ∷ t ∷ []) (u ∷ []) (three_rows one two three) x)

  pub at_last : {a b c d e f : Option (List ℕ)} {p q k l m : List ℕ} → Written a p b q (rows_text (r ∷ []))
      → Written b q c k (rows_text (s ∷ [])) → Written c k d l (rows_text (t ∷ [])) → Written d l e m (rows_text (u ∷ []))
      → Stopped e m f (rows_text (v ∷ [])) → Stopped a p f (rows_text (r ∷ s ∷ t ∷ u ∷ v ∷ []))
  at_last one two three four x =
      rows_stopped_then (r ∷ s ∷ t ∷ u ∷ []) (v ∷ []) (rows_then (r ∷ s ∷ t ∷ []) (u ∷ []) (three_rows one two three) four) x

  pub all_five : {a b c d e f : Option (List ℕ)} {p q k l m n : List ℕ} → Written a p b q (rows_text (r ∷ []))
      → Written b q c k (rows_text (s ∷ [])) → Written c k d l (rows_text (t ∷ [])) → Written d l e m (rows_text (u ∷ []))
      → Written e m f n (rows_text (v ∷ [])) → Written a p f n (rows_text (r ∷ s ∷ t ∷ u ∷ v ∷ []))
  all_five one two three four w =
      rows_then (r ∷ s ∷ t ∷ u ∷ []) (v ∷ []) (rows_then (r ∷ s ∷ t ∷ []) (u ∷ []) (three_rows one two three) four) w
