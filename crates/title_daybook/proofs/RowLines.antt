-- The text of a row is a line, whose fields are the row's.
use Rattle.std.proofs.Common.{◌≡◌, ◌∙◌, ℕ, ◌<◌, ◌≤◌, ◌^◌, Bool, true, false, List, [], ◌∷◌, ◌++◌, refl, sym, ap, Some, arith}
use Rattle.std.{proofs.Common.{append_assoc}, specs.{Prelude.{codes, nat_le, ◌==◌, ◌&&◌}, Fmt.{decimal}, List.{list_all, list_any}}}
use Rattle.std.{specs.Str.Parse.{AllDigits}, proofs.lemmas.{Bool.{and_parts, leb-true, ne_eqb}, Fmt.{decimal_is_IsNumeral}}}
use Rattle.std.proofs.lemmas.{List.{append-nil}, Str.Parse.{digit_at}}
use Rattle.csv.{specs.{Machine.{next_record}, Reading.{default_config}}}
use Rattle.csv.specs.Writing.{field_text, fields_text, is_blank, needs_byte}
use Rattle.csv.specs.declared.parser.State.TheVariants as st
use Rattle.title_journal.specs.Blocks.{line_feed, IsRow}
use Rattle.title_page.specs.Rows.{row, row_writer}
use Rattle.title_spelling.specs.Laws.{is_shown, RowsAreLines, SeveralFields.{several, one_read}}
use Rattle.title_spelling.specs.Rows.{are_names, end_fields, fields_of, IsPlantRow, PlantRow}
use Rattle.title_daybook.{specs.Lines.{fields_in, has_line_feed}, proofs.RowFields.{fields_by}}

-- ---- lines

-- the text of a row: a line without its line feed, which has the row's fields
pub record IsLineOf (names : List (List ℕ)) (x : PlantRow) : Type 0 where
  pub body : List ℕ
  pub whole : row (fields_of names x) ≡ body ++ line_feed ∷ []
  pub clean : has_line_feed body ≡ false
  pub is_row : IsRow body
  pub fields : fields_in body ≡ Some (fields_of names x)

clean_by : (c : ℕ) (body : List ℕ) → c < 32 → list_all is_shown body ≡ true → list_any (λ b. b == c) body ≡ false
clean_by c [] low h = refl
clean_by c (b ∷ body) low h =
    let parts = and_parts (is_shown b) (list_all is_shown body) h in
    let high : 32 ≤ b = leb-true 32 b parts.0 in
    rw (ne_eqb b c (λ same. omega (arith, high, low, same)), clean_by c body low parts.1) refl

row_by : (body : List ℕ) → list_all is_shown body ≡ true → IsRow body
row_by [] h = tt
row_by (b ∷ body) h =
    let parts = and_parts (is_shown b) (list_all is_shown body) h in
    let high : 32 ≤ b = leb-true 32 b parts.0 in ((λ same. omega (arith, high, same)), row_by body parts.1)

module _ (lines : RowsAreLines) (names : List (List ℕ)) (are : are_names names ≡ true) where
  pub line_of : (x : PlantRow) → IsPlantRow names x → IsLineOf names x
  line_of x h =
      let line = lines names x are h in
      let clean = clean_by 10 line.body (omega arith) line.shown in
      record {
        body = line.body;
        whole = line.whole;
        clean = clean;
        is_row = row_by line.body line.shown;
        fields = fields_by line.body (fields_of names x) (clean_by 13 line.body (omega arith) line.shown) clean
            (λ rest. ap (next_record default_config st.StartRecord [] []) (sym (append_assoc line.body (10 ∷ []) rest)
            ∙ ap (λ (t : List ℕ). t ++ rest) (sym line.whole)) ∙ one_read (fields_of names x) rest (several names x));
      }

-- ---- the row of an end

is_digit : ℕ → Bool
is_digit b = nat_le 48 b && nat_le b 57

digit_needs_none : (b : ℕ) → (48 ≤ b) × (b ≤ 57) → needs_byte row_writer b ≡ false
digit_needs_none b h =
    let low = h.0 in
    let high = h.1 in
    rw (
      ne_eqb b 44 (λ e. omega (arith, low, e)),
      ne_eqb b 34 (λ e. omega (arith, low, e)),
      ne_eqb b 13 (λ e. omega (arith, low, e)),
      ne_eqb b 10 (λ e. omega (arith, low, e)),
    ) refl

digits_unquoted : (text : List ℕ) → AllDigits 10 text → list_any (needs_byte row_writer) text ≡ false
digits_unquoted [] h = refl
digits_unquoted (c ∷ cs) h = rw (digit_needs_none c (digit_at (c ∷ cs) 0 h (omega arith))) (digits_unquoted cs h.1)

number_field : (n : ℕ) → n < 2 ^ 64 → field_text row_writer (decimal n) ≡ decimal n
number_field n h = rw (digits_unquoted (decimal n) (decimal_is_IsNumeral n h).0.1) refl

end_text : (n : ℕ) → row (end_fields n) ≡ (codes "end" ++ (44 ∷ field_text row_writer (decimal n) ++ [])) ++ 10 ∷ []
unfolding row is_blank fields_text
end_text n = refl

pub end_line : (n : ℕ) → n < 2 ^ 64 → row (end_fields n) ≡ (codes "end," ++ decimal n) ++ line_feed ∷ []
end_line n h = end_text n
    ∙ ap (λ (t : List ℕ). (codes "end" ++ 44 ∷ t) ++ 10 ∷ []) (append-nil (field_text row_writer (decimal n)) ∙ number_field n h)
