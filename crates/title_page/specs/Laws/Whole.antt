-- A text of rows and a last row, written from an empty page, and the page given to the sink at the end.
use Rattle.std.proofs.{Common.{◌≡◌, ◌++◌, ◌∷◌, [], ℕ, List, Option, take, subst, sym, ap}, lemmas.List.{append-nil}}
use Rattle.std.specs.Io.KnownBytes.{Appends}
use Rattle.title_page.specs.{Pages.{Stopped, Written}, Rows.{row, rows_text}}
use Rattle.title_page.specs.Laws.InTurn.{all_given, part_given, stopped_as, stopped_before, stopped_then, written_as, written_then}

-- rows and a last row
abbrev pub rows_and : List (List (List ℕ)) → List (List ℕ) → List ℕ
rows_and rows last = rows_text rows ++ row last

last_alone : (rows : List (List (List ℕ))) (last : List (List ℕ)) → rows_and rows last ≡ rows_text rows ++ rows_text (last ∷ [])
last_alone rows last = ap (λ (t : List ℕ). rows_text rows ++ t) (sym (append-nil (row last)))

module _ {a : Option (List ℕ)} {p : List ℕ} (rows : List (List (List ℕ))) (last : List (List ℕ)) (empty : p ≡ []) where
  -- all was given to the sink
  pub whole_given : {b c d : Option (List ℕ)} {q r s : List ℕ} → Written a p b q (rows_text rows)
      → Written b q c r (rows_text (last ∷ [])) → Written c r d s [] → s ≡ [] → Appends a d (rows_and rows last)
  whole_given {b} {c} {d} {q} {r} {s} w v u none =
      let first = written_as (last_alone rows last) (written_then (rows_text rows) (rows_text (last ∷ [])) w v) in
      let all = written_as (sym (append-nil (rows_and rows last))) (written_then (rows_and rows last) [] first u) in
      all_given (rows_and rows last)
      (subst (λ (x : List ℕ). Written a [] d x (rows_and rows last)) none
      (subst (λ (x : List ℕ). Written a x d s (rows_and rows last)) empty all))

  -- the sink failed at the rows
  pub part_of_rows : {b : Option (List ℕ)} → Stopped a p b (rows_text rows) → (n : ℕ) × Appends a b (take n (rows_and rows last))
  part_of_rows {b} v =
      part_given (rows_and rows last)
      (subst (λ (x : List ℕ). Stopped a x b (rows_and rows last)) empty (stopped_before (rows_text rows) (row last) v))

  -- the sink failed at the last row
  pub part_at_last : {b c : Option (List ℕ)} {q : List ℕ} → Written a p b q (rows_text rows) → Stopped b q c (rows_text (last ∷ []))
      → (n : ℕ) × Appends a c (take n (rows_and rows last))
  part_at_last {b} {c} {q} w v =
      part_given (rows_and rows last)
      (subst (λ (x : List ℕ). Stopped a x c (rows_and rows last)) empty
      (stopped_as (last_alone rows last) (stopped_then (rows_text rows) (rows_text (last ∷ [])) w v)))

  -- the sink failed when the page was given to it
  pub part_at_end : {b c d : Option (List ℕ)} {q r : List ℕ} → Written a p b q (rows_text rows)
      → Written b q c r (rows_text (last ∷ [])) → Stopped c r d [] → (n : ℕ) × Appends a d (take n (rows_and rows last))
  part_at_end {b} {c} {d} {q} {r} w v u =
      let first = written_as (last_alone rows last) (written_then (rows_text rows) (rows_text (last ∷ [])) w v) in
      part_given (rows_and rows last)
      (subst (λ (x : List ℕ). Stopped a x d (rows_and rows last)) empty
      (stopped_as (sym (append-nil (rows_and rows last))) (stopped_then (rows_and rows last) [] first u)))
