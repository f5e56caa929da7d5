-- A block that adds is one, and stands for what it was written from.
use Rattle.std.{proofs.Common.{◌≡◌, ◌∙◌, ◌<◌, ◌+◌, ◌^◌, ℕ, Bool, true, false, cond, List, [], ◌∷◌, ◌++◌, length, drop}, specs.Fmt.{decimal}}
use Rattle.std.proofs.{Common.{Option, Some, None, Result, Ok, Err, refl, sym, ap, subst, inl, inr, append_assoc}, lemmas.List.{append-nil}}
use Rattle.std.specs.{Prelude.{codes, is_none}, List.{list_all, AllByRecursion}, Str.{bytes_eq, is_utf8}}
use Rattle.std.proofs.lemmas.{Bool.{and_parts, cases_Bool, Decides.{Decides-eqb}}, Grind.{flat_map-append}}
use Rattle.std.proofs.lemmas.Slice.Eq.{bytes_eq-Decides, starts_is}
use Rattle.title_journal.specs.Blocks.{ends_block, line_feed, lines, IsBlock, IsRow}
use Rattle.title_page.specs.Rows.{row}
use Rattle.title_plan.specs.Fields.{given}
use Rattle.title_spelling.specs.Laws.{MarksReadBack, OnlyEndsEnd, PostsReadBack, RowsAreLines}
use Rattle.title_spelling.specs.Rows.{are_names, fields_of, End, IsPlantRow, PlantRow}
use Rattle.title_daybook.{specs.{Added.{text_of}, Files.{after_blocks, and_then}, Lines.{lines_of, said_by}}, proofs.FirstLines.{lines_at}}
use Rattle.title_daybook.specs.KeptRows.{after_kept_row, after_last_row, after_rows, after_said, going_on, is_end, Progress}
use Rattle.title_daybook.proofs.{RowLines.{end_line, line_of}, Taking.{IsInner, Takes}}

-- the same line feed is taken off both ends
same_front : (xs ys : List ℕ) (a : ℕ) → xs ++ a ∷ [] ≡ ys ++ a ∷ [] → xs ≡ ys
same_front [] [] a e = refl
same_front [] (y ∷ []) a e = cc e
same_front [] (y ∷ z ∷ ys) a e = cc e
same_front (x ∷ []) [] a e = cc e
same_front (x ∷ z ∷ xs) [] a e = cc e
same_front (x ∷ xs) (y ∷ ys) a e =
    let first : x ≡ y = cc e in
    let rest : xs ++ a ∷ [] ≡ ys ++ a ∷ [] = cc e in
    rw (first, same_front xs ys a rest) refl

same_bytes : (xs : List ℕ) → bytes_eq xs xs ≡ true
same_bytes xs = (bytes_eq-Decides xs xs).1 refl

module _ (are_lines : RowsAreLines) (marks : MarksReadBack) (posts_read : PostsReadBack) (names : List (List ℕ)) (are : are_names
    names ≡ true)
    (texts : list_all is_utf8 names ≡ true) where
  -- ---- rows

  row_lines : (x : PlantRow) (h : IsPlantRow names x) (more : List ℕ)
      → lines_of (row (fields_of names x) ++ more) ≡ (line_of are_lines names are x h).body ∷ lines_of more
  row_lines x h more =
      let line = line_of are_lines names are x h in
      ap (λ (t : List ℕ). lines_of (t ++ more)) line.whole ∙ ap lines_of (append_assoc line.body (line_feed ∷ []) more)
      ∙ lines_at [] line.body more line.clean

  end_body : (n : ℕ) (h : n < 2 ^ 64) → (line_of are_lines names are (End n) h).body ≡ codes "end," ++ decimal n
  end_body n h = same_front _ _ line_feed (sym (line_of are_lines names are (End n) h).whole ∙ end_line n h)

  at_end : (p : Progress) (n : ℕ) (body : List ℕ) → p.begun ≡ None → length p.stands.records ≡ n → body ≡ codes "end," ++ decimal n
      → after_last_row p body ≡ Some p
  at_end p n body out count is = rw (out, is, count, same_bytes (codes "end," ++ decimal n)) refl

  kept_row : (x : PlantRow) (h : IsPlantRow names x) (p : Progress) (after : Progress)
      → given (said_by (fields_of names x)) (after_said p) ≡ Some after
      → after_kept_row p (line_of are_lines names are x h).body ≡ Some after
  kept_row x h p after e = rw (line_of are_lines names are x h).fields e

  next_row : (xs : List PlantRow) (p q : Progress) (n : ℕ) → n < 2 ^ 64 → Takes marks posts_read names are texts xs p q
      → (first : List ℕ) × (others : List (List ℕ)) × (lines_of (text_of names (xs ++ End n ∷ [])) ≡ first ∷ others)
  unfolding Takes
  next_row [] p q n h takes = (_, _, row_lines (End n) h [])
  next_row (x ∷ xs) p q n h takes = (_, _, row_lines x takes.1 (text_of names (xs ++ End n ∷ [])))

  pub all_rows : (number : ℕ) (xs : List PlantRow) (p q : Progress) (n : ℕ) → n < 2 ^ 64 → Takes marks posts_read names are texts xs p q
      → q.begun ≡ None → length q.stands.records ≡ n → after_rows number p (lines_of (text_of names (xs ++ End n ∷ []))) ≡ Ok q
  unfolding Takes
  all_rows number [] p q n h takes out count =
      let same = sym takes in
      ap (after_rows number p) (row_lines (End n) h [])
      ∙ ap (λ (o : Option Progress). going_on number o (λ after. Ok after))
      (at_end p n (line_of are_lines names are (End n) h).body (ap (λ (a : Progress). a.begun) takes ∙ out)
      (ap (λ (a : Progress). length a.stands.records) takes ∙ count) (end_body n h))
      ∙ ap (λ (a : Progress). Ok a) takes
  all_rows number (x ∷ xs) p q n h takes out count =
      let text = text_of names (xs ++ End n ∷ []) in
      let line = line_of are_lines names are x takes.1 in
      let next = next_row xs takes.0 q n h takes.4 in
      ap (after_rows number p) (row_lines x takes.1 text ∙ ap (λ (l : List (List ℕ)). line.body ∷ l) next.2)
      ∙ ap (λ (l : List (List ℕ)). going_on number (after_kept_row p line.body) (λ after. after_rows (number + 1) after l)) (sym next.2)
      ∙ ap (λ (o : Option Progress). going_on number o (λ after. after_rows (number + 1) after (lines_of text)))
      (kept_row x takes.1 p takes.0 takes.3)
      ∙ all_rows (number + 1) xs takes.0 q n h takes.4 out count

  -- ---- the text is a block

  module _ (only_ends : OnlyEndsEnd) where
    no_end : (x : PlantRow) (n : ℕ) → IsInner x → x ≡ End n → ⊥
    no_end x n inner e = subst IsInner e inner

    goes_on : (x : PlantRow) (h : IsPlantRow names x) → IsInner x → ends_block (line_of are_lines names are x h).body ≡ false
    goes_on x h inner =
        let line = line_of are_lines names are x h in
        elim (cases_Bool (ends_block line.body)) [
          | inr isnt ↦ isnt
          | inl is ↦
              let front : line.body ≡ codes "end," ++ drop 4 line.body =
              (starts_is Decides-eqb line.body (codes "end,") (ends_block line.body) refl).0 is in
              let text : row (fields_of names x) ≡ codes "end," ++ (drop 4 line.body ++ line_feed ∷ []) =
              line.whole ∙ ap (λ (t : List ℕ). t ++ line_feed ∷ []) front in
              let end = only_ends names x (drop 4 line.body ++ line_feed ∷ []) h text in
              absurd (no_end x end.0 inner end.1)
        ]

    record Parts (xs : List PlantRow) : Type 0 where
      rows : List (List ℕ)
      text_is : text_of names xs ≡ lines rows
      each : AllByRecursion (λ row. IsRow row × (ends_block row ≡ false)) rows

    parts : (xs : List PlantRow) (p q : Progress) → Takes marks posts_read names are texts xs p q → Parts xs
    unfolding Takes
    parts [] p q h = record { rows = []; text_is = refl; each = tt }
    parts (x ∷ xs) p q h =
        let line = line_of are_lines names are x h.1 in
        let more = parts xs h.0 q h.4 in
        record {
          rows = line.body ∷ more.rows;
          text_is = ap (λ (t : List ℕ). t ++ text_of names xs) line.whole
              ∙ ap (λ (t : List ℕ). (line.body ++ line_feed ∷ []) ++ t) more.text_is;
          each = ((line.is_row, goes_on x h.1 h.2), more.each);
        }

    begins_end : (rest : List ℕ) → ends_block (codes "end," ++ rest) ≡ true
    begins_end rest = refl

    pub is_block : (xs : List PlantRow) (n : ℕ) (p q : Progress) → n < 2 ^ 64 → Takes marks posts_read names are texts xs p q
        → IsBlock (text_of names (xs ++ End n ∷ []))
    is_block xs n p q h takes =
        let front = parts xs p q takes in
        let line = line_of are_lines names are (End n) h in
        record {
          rows = front.rows;
          last = line.body;
          text_is = flat_map-append (λ (x : PlantRow). row (fields_of names x)) xs (End n ∷ [])
              ∙ ap (λ (t : List ℕ). t ++ (row (fields_of names (End n)) ++ [])) front.text_is
              ∙ ap (λ (t : List ℕ). lines front.rows ++ t) (append-nil (row (fields_of names (End n))) ∙ line.whole);
          each = front.each;
          last_row = line.is_row;
          ends = ap ends_block (end_body n h) ∙ begins_end (decimal n);
        }

-- ---- blocks behind others

none_of : {X : Type 0} (o : Option X) → is_none o ≡ true → o ≡ None
none_of None e = refl
none_of (Some x) e = cc e

end_closes : (p q : Progress) (line : List ℕ) (n : ℕ) (test : Bool) → is_end p line ≡ test
    → going_on n (cond test (Some p) None) (λ after. Ok after) ≡ Ok q → q.begun ≡ None
end_closes p q line n true is e =
    let same : p ≡ q = cc e in
    subst (λ (a : Progress). a.begun ≡ None) same
    (none_of p.begun (and_parts (is_none p.begun) (bytes_eq line (codes "end," ++ decimal (length p.stands.records))) is).0)
end_closes p q line n false is e = cc e

closed_from : (n : ℕ) (q : Progress) (o : Option Progress) (rows : List (List ℕ))
    → ((after : Progress) → after_rows (n + 1) after rows ≡ Ok q → q.begun ≡ None)
    → going_on n o (λ after. after_rows (n + 1) after rows) ≡ Ok q → q.begun ≡ None
closed_from n q None rows closed e = cc e
closed_from n q (Some after) rows closed e = closed after e

-- nobody is inside behind a block
closed_rows : (n : ℕ) (p q : Progress) (rows : List (List ℕ)) → after_rows n p rows ≡ Ok q → q.begun ≡ None
closed_rows n p q [] e = cc e
closed_rows n p q (line ∷ []) e = end_closes p q line n (is_end p line) refl e
closed_rows n p q (line ∷ next ∷ rows) e =
    closed_from n q (after_kept_row p line) (next ∷ rows) (λ after. closed_rows (n + 1) after q (next ∷ rows)) e

-- what stands behind blocks, with one more
abbrev pub GoesOn : ℕ → Progress → Progress → List (List ℕ) → List ℕ → Type 0
GoesOn n p q blocks block =
    (q.begun ≡ None) × ((m : ℕ) × (after_blocks n p (blocks ++ block ∷ []) ≡ after_blocks m q (block ∷ [])))

goes_from : (n : ℕ) (p q : Progress) (first : List ℕ) (blocks : List (List ℕ)) (block : List ℕ) (r : Result Progress ℕ)
    → after_rows (n + 1) p (lines_of first) ≡ r
    → ((after : Progress) → after.begun ≡ None → after_blocks (n + 1 + length (lines_of first)) after blocks ≡ Ok q
    → GoesOn (n + 1 + length (lines_of first)) after q blocks block)
    → and_then r (λ after. after_blocks (n + 1 + length (lines_of first)) after blocks) ≡ Ok q → GoesOn n p q (first ∷ blocks) block
goes_from n p q first blocks block (Err row) is goes e = cc e
goes_from n p q first blocks block (Ok after) is goes e =
    let more = goes after (closed_rows (n + 1) p after (lines_of first) is) e in (
      more.0,
      (
        more.1.0,
        ap (λ (r : Result Progress ℕ). and_then r (λ b. after_blocks (n + 1 + length (lines_of first)) b (blocks ++ block ∷ []))) is
            ∙ more.1.1,
      ),
    )

-- behind blocks nobody is inside, and one block more goes on from there
pub one_block_more : (n : ℕ) (p q : Progress) (blocks : List (List ℕ)) (block : List ℕ) → p.begun ≡ None → after_blocks n p blocks ≡ Ok q
    → GoesOn n p q blocks block
one_block_more n p q [] block out e =
    let same : p ≡ q = cc e in (
      subst (λ (a : Progress). a.begun ≡ None) same out,
      (n, ap (λ (a : Progress). after_blocks n a (block ∷ [])) same),
    )
one_block_more n p q (first ∷ blocks) block out e =
    goes_from n p q first blocks block (after_rows (n + 1) p (lines_of first)) refl
    (λ after. one_block_more (n + 1 + length (lines_of first)) after q blocks block) e
