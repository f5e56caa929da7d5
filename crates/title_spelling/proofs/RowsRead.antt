-- The texts of rows are read as their fields.
use Rattle.std.proofs.Common.{◌≡◌, ◌∙◌, ℕ, zero, suc, ◌+◌, ◌<◌, ◌≤◌, ◌&&◌, Bool, true, false, List, [], ◌∷◌, ◌++◌, length, map, refl, sym}
use Rattle.std.{proofs.Common.{ap, arith, ◌^◌, append_assoc, length-append}, specs.List.{list_all, list_any, All}}
use Rattle.std.{specs.{Fmt.{decimal}, Prelude.{codes, nat_le}}, proofs.lemmas.Bool.{and_parts, and_from, ne_eqb, le-leb, leb-true}}
use Rattle.std.proofs.lemmas.{Bool.Decides.{nat_tests}, Fmt.{decimal_is_IsNumeral, decimal_nonempty}, List.Elements.{All-head}}
use Rattle.std.{proofs.lemmas.Str.Parse.{digit_at}, specs.Str.Parse.{AllDigits}}
use Rattle.csv.{specs.Machine.{next_record}}
use Rattle.csv.specs.Reading.{default_config, records_from, records_next, strip_bom}
use Rattle.csv.specs.Writing.{field_text, fields_text, is_blank, needs_byte}
use Rattle.csv.specs.declared.parser.State.TheVariants as st
use Rattle.title_page.specs.Rows.{row, row_writer, rows_text}
use Rattle.title_spelling.specs.{Laws.{RowsReadBack}, Rows.{fields_of, Begin, Commit, End, IsPlantRow, Party, PlantRow, Post, Township}}
use Rattle.title_spelling.specs.Laws.SeveralFields.{Several, several, one_read}

-- ---- each row has two fields at least

pub row_ends : (x y : List ℕ) (rest : List (List ℕ)) → row (x ∷ y ∷ rest)
    ≡ (field_text row_writer x ++ fields_text row_writer (y ∷ rest)) ++ 10 ∷ []
unfolding row is_blank
row_ends x y rest = refl

row_long : (fields : List (List ℕ)) → Several fields → 0 < length (row fields)
row_long fields s =
    let body = field_text row_writer s.first ++ fields_text row_writer (s.second ∷ s.rest) in
    let text = ap row s.fields_are ∙ row_ends s.first s.second s.rest in
    let long = ap length text ∙ length-append body (10 ∷ []) in
    omega (arith, long)

-- ---- all rows

each_read : (names : List (List ℕ)) (rows : List PlantRow) (n : ℕ) → length rows < n
    → records_from default_config n st.StartRecord (rows_text (map (fields_of names) rows)) ≡ map (fields_of names) rows
unfolding records_from next_record
each_read names [] zero h = absurd (omega arith)
each_read names [] (suc n) h = refl
each_read names (x ∷ rows) zero h = absurd (omega arith)
each_read names (x ∷ rows) (suc n) h =
    ap (λ read. records_next (records_from default_config n) read)
    (one_read (fields_of names x) (rows_text (map (fields_of names) rows)) (several names x))
    ∙ ap (λ (more : List (List (List ℕ))). fields_of names x ∷ more) (each_read names rows n (omega arith))

rows_long : (names : List (List ℕ)) (rows : List PlantRow) → length rows ≤ length (rows_text (map (fields_of names) rows))
rows_long names [] = omega arith
rows_long names (x ∷ rows) =
    let one = row_long (fields_of names x) (several names x) in
    let more = rows_long names rows in
    let long = length-append (row (fields_of names x)) (rows_text (map (fields_of names) rows)) in
    omega (arith, one, more, long)

-- ---- how they begin

-- a letter or a digit
abbrev pub is_plain : ℕ → Bool
is_plain b = nat_le 48 b && nat_le b 122

abbrev pub is_digit : ℕ → Bool
is_digit b = nat_le 48 b && nat_le b 57

digit_plain : (b : ℕ) → is_digit b ≡ true → is_plain b ≡ true
digit_plain b h = grind (arith, nat_tests)

digits_plain : (text : List ℕ) → list_all is_digit text ≡ true → list_all is_plain text ≡ true
digits_plain [] h = refl
digits_plain (b ∷ text) h =
    let k = and_parts (is_digit b) (list_all is_digit text) h in
    and_from (is_plain b) (list_all is_plain text) (digit_plain b k.0) (digits_plain text k.1)

all_digits : (text : List ℕ) → AllDigits 10 text → list_all is_digit text ≡ true
all_digits [] h = refl
all_digits (c ∷ cs) h =
    let range = digit_at (c ∷ cs) 0 h (omega arith) in
    let low : 48 ≤ c = range.0 in
    let high : c ≤ 57 = range.1 in
    and_from (is_digit c) (list_all is_digit cs) (and_from (nat_le 48 c) (nat_le c 57) (le-leb 48 c low) (le-leb c 57 high))
    (all_digits cs h.1)

-- a number in decimal
pub number_digits : (n : ℕ) → n < 2 ^ 64 → list_all is_digit (decimal n) ≡ true
number_digits n h = all_digits (decimal n) (decimal_is_IsNumeral n h).0.1

-- what a row begins with, which needs no quotes
abbrev pub first_of : PlantRow → List ℕ
first_of (Township t) = codes "township"
first_of (Party name) = codes "party"
first_of (Begin e) = decimal e
first_of (Commit e) = decimal e
first_of (Post e post) = decimal e
first_of (End n) = codes "end"

first_plain : (names : List (List ℕ)) (x : PlantRow) → IsPlantRow names x → list_all is_plain (first_of x) ≡ true
first_plain names (Township t) h = refl
first_plain names (Party name) h = refl
first_plain names (Begin e) h = digits_plain (decimal e) (number_digits e (let most = h.1 in omega arith))
first_plain names (Commit e) h = digits_plain (decimal e) (number_digits e (let most = h.1 in omega arith))
first_plain names (Post e post) h = digits_plain (decimal e) (number_digits e (let most = h.examiner.1 in omega arith))
first_plain names (End n) h = refl

first_is : (names : List (List ℕ)) (x : PlantRow) → (several names x).first ≡ first_of x
unfolding several
first_is names (Township t) = refl
first_is names (Party name) = refl
first_is names (Begin e) = refl
first_is names (Commit e) = refl
first_is names (Post e post) = refl
first_is names (End n) = refl

some_of : (names : List (List ℕ)) (x : PlantRow) → IsPlantRow names x → 0 < length (first_of x)
some_of names (Township t) h = omega arith
some_of names (Party name) h = omega arith
some_of names (Begin e) h = decimal_nonempty e (let most = h.1 in omega arith)
some_of names (Commit e) h = decimal_nonempty e (let most = h.1 in omega arith)
some_of names (Post e post) h = decimal_nonempty e (let most = h.examiner.1 in omega arith)
some_of names (End n) h = omega arith

plain_byte : (b : ℕ) → is_plain b ≡ true → (48 ≤ b) × (b ≤ 122)
plain_byte b h = let k = and_parts (nat_le 48 b) (nat_le b 122) h in (leb-true 48 b k.0, leb-true b 122 k.1)

plain_needs_none : (b : ℕ) → is_plain b ≡ true → needs_byte row_writer b ≡ false
plain_needs_none b h =
    let k = plain_byte b h in
    let low = k.0 in
    rw (
      ne_eqb b 44 (λ e. omega (arith, low, e)),
      ne_eqb b 34 (λ e. omega (arith, low, e)),
      ne_eqb b 13 (λ e. omega (arith, low, e)),
      ne_eqb b 10 (λ e. omega (arith, low, e)),
    ) refl

plain_unquoted : (text : List ℕ) → list_all is_plain text ≡ true → list_any (needs_byte row_writer) text ≡ false
plain_unquoted [] h = refl
plain_unquoted (b ∷ text) h =
    let k = and_parts (is_plain b) (list_all is_plain text) h in
    rw (plain_needs_none b k.0) (plain_unquoted text k.1)

plain_field : (text : List ℕ) → list_all is_plain text ≡ true → field_text row_writer text ≡ text
plain_field text h = rw (plain_unquoted text h) refl

-- a row's text begins with its first field
pub record Begins (text first : List ℕ) : Type 0 where
  pub rest : List ℕ
  pub text_is : text ≡ first ++ rest

pub row_begins : (names : List (List ℕ)) (x : PlantRow) → IsPlantRow names x → Begins (row (fields_of names x)) (first_of x)
row_begins names x h =
    let s = several names x in
    let more = fields_text row_writer (s.second ∷ s.rest) in
    let first = ap (λ (t : List ℕ). field_text row_writer t) (first_is names x) ∙ plain_field (first_of x) (first_plain names x h) in
    record {
      rest = more ++ 10 ∷ [];
      text_is = ap row s.fields_are ∙ row_ends s.first s.second s.rest ∙ append_assoc (field_text row_writer s.first) more (10 ∷ [])
          ∙ ap (λ (t : List ℕ). t ++ (more ++ 10 ∷ [])) first;
    }

-- the first byte of a text that begins with plain bytes
plain_head : (first rest more : List ℕ) (b : ℕ) → list_all is_plain first ≡ true → 0 < length first → first ++ rest ≡ b ∷ more
    → is_plain b ≡ true
plain_head [] rest more b h some e = absurd (omega arith)
plain_head (c ∷ first) rest more b h some e =
    let same : c ≡ b = cc in
    rw (← same) (and_parts (is_plain c) (list_all is_plain first) h).0

pub first_byte : (names : List (List ℕ)) (x : PlantRow) → IsPlantRow names x → (b : ℕ) (rest : List ℕ) → row (fields_of names x) ≡ b ∷ rest
    → (48 ≤ b) × (b ≤ 122)
first_byte names x h b rest e =
    let begins = row_begins names x h in
    plain_byte b (plain_head (first_of x) begins.rest rest b (first_plain names x h) (some_of names x h) (sym begins.text_is ∙ e))

-- ---- the reader passes nothing over

kept_by : (a b c : ℕ) (rest : List ℕ) → (a ≡ 239 → ⊥) → strip_bom (a ∷ b ∷ c ∷ rest) ≡ a ∷ b ∷ c ∷ rest
unfolding strip_bom
kept_by a b c rest n = rw (ne_eqb a 239 n) refl

no_mark : (text : List ℕ) → ((b : ℕ) (rest : List ℕ) → text ≡ b ∷ rest → b ≡ 239 → ⊥) → strip_bom text ≡ text
unfolding strip_bom
no_mark [] h = refl
no_mark (a ∷ []) h = refl
no_mark (a ∷ b ∷ []) h = refl
no_mark (a ∷ b ∷ c ∷ rest) h = kept_by a b c rest (h a (b ∷ c ∷ rest) refl)

head_of : (xs ys more : List ℕ) (b : ℕ) → 0 < length xs → xs ++ ys ≡ b ∷ more → (rest : List ℕ) × (xs ≡ b ∷ rest)
head_of [] ys more b some e = absurd (omega arith)
head_of (x ∷ xs) ys more b some e = let same : x ≡ b = cc in (xs, ap (λ (c : ℕ). c ∷ xs) same)

text_unmarked : (names : List (List ℕ)) (rows : List PlantRow) → All (IsPlantRow names) rows
    → strip_bom (rows_text (map (fields_of names) rows)) ≡ rows_text (map (fields_of names) rows)
unfolding strip_bom
text_unmarked names [] are = refl
text_unmarked names (x ∷ rows) are = no_mark (rows_text (map (fields_of names) (x ∷ rows))) (λ b rest e same.
    let here = All-head (IsPlantRow names) x rows are in
    let head = head_of (row (fields_of names x)) (rows_text (map (fields_of names) rows)) rest b (row_long _ (several names x)) e in
    let byte = first_byte names x here b head.0 head.1 in
    let high = byte.1 in
    omega (arith, high, same))

-- the texts of rows are read as their fields
pub rows_back : RowsReadBack
rows_back names rows are =
    let text = rows_text (map (fields_of names) rows) in
    ap (λ (t : List ℕ). records_from default_config (length t + 1) st.StartRecord t) (text_unmarked names rows are)
    ∙ each_read names rows (length text + 1) (let long = rows_long names rows in omega (arith, long))
