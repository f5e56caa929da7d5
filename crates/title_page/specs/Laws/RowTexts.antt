-- The texts of fields and rows, part by part, and that rows of two fields or more are written as the default writer writes them.
use Rattle.std.proofs.Common.{◌≡◌, ◌++◌, ◌∷◌, [], ◌<◌, ◌+◌, ℕ, List, length, take, get_or, refl, arith}
use Rattle.std.proofs.lemmas.List.{take_more}
use Rattle.csv.proofs.WriteFacts.{escaped-append, escaped-double, escaped-other}
use Rattle.csv.specs.Writing.{default_writer, escaped, field_text, fields_text, is_blank, row_body, row_text}
use Rattle.title_page.specs.Rows.{row, row_writer}

-- a quote is written twice
pub escaped_quote : (b : ℕ) → b ≡ 34 → escaped row_writer (b ∷ []) ≡ 34 ∷ 34 ∷ []
escaped_quote b e = rw e (escaped-double row_writer 34 refl refl)

-- another byte once
pub escaped_byte : (b : ℕ) → (b ≡ 34 → ⊥) → escaped row_writer (b ∷ []) ≡ b ∷ []
escaped_byte b n = escaped-other row_writer b n

-- the bytes up to one more
pub escaped_more : (field : List ℕ) (i : ℕ) → i < length field
    → escaped row_writer (take (i + 1) field) ≡ escaped row_writer (take i field) ++ escaped row_writer (get_or field i 0 ∷ [])
escaped_more field i lt = rw (take_more field i 0 lt) (escaped-append row_writer (take i field) (get_or field i 0 ∷ []))

pub escaped_none : escaped row_writer [] ≡ []
unfolding escaped
escaped_none = refl

-- a row of two fields or more ends after the last
pub row_ends : (rows : List (List ℕ)) → 1 < length rows → row_text row_writer rows ≡ row_body row_writer rows ++ 10 ∷ []
unfolding is_blank
row_ends [] lt = absurd (omega (arith, lt))
row_ends (x ∷ []) lt = absurd (omega (arith, lt))
row_ends (x ∷ y ∷ rest) lt = refl

-- rows of any lengths are written as the default writer writes them
escaped_same : (x : List ℕ) → escaped row_writer x ≡ escaped default_writer x
unfolding escaped
escaped_same [] = refl
escaped_same (b ∷ rest) = rw (escaped_same rest) refl

field_same : (x : List ℕ) → field_text row_writer x ≡ field_text default_writer x
field_same x = rw (escaped_same x) refl

fields_same : (xs : List (List ℕ)) → fields_text row_writer xs ≡ fields_text default_writer xs
unfolding fields_text
fields_same [] = refl
fields_same (x ∷ xs) = rw (field_same x, fields_same xs) refl

pub row_same : (x y : List ℕ) (rest : List (List ℕ)) → row (x ∷ y ∷ rest) ≡ row_text default_writer (x ∷ y ∷ rest)
unfolding row is_blank
row_same x y rest = rw (field_same x, fields_same (y ∷ rest)) refl
