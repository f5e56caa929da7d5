-- The texts of quoted fields and of rows, in parts.
use Rattle.std.proofs.{Common.{◌≡◌, ◌∙◌, ◌++◌, ◌∷◌, [], ◌<◌, ◌+◌, ℕ, suc, List}, lemmas.List.{take-append-drop, take_more}}
use Rattle.std.proofs.Common.{length, take, drop, get_or, refl, sym, ap, append_assoc}
use Rattle.csv.{proofs.WriteFacts.{escaped-append}, specs.declared.writer.WriterBuilder.{WriterBuilder}}
use Rattle.csv.specs.Writing.{escaped, field_text, fields_text, row_body}
use Rattle.title_page.specs.{Rows.{row_writer}, Laws.RowTexts.{escaped_quote, escaped_byte, escaped_more}}

-- the bytes up to one, and the rest
pub escaped_front : (field : List ℕ) (i : ℕ)
    → escaped row_writer field ≡ escaped row_writer (take i field) ++ escaped row_writer (drop i field)
escaped_front field i =
    ap (λ (x : List ℕ). escaped row_writer x) (sym (take-append-drop i field)) ∙ escaped-append row_writer (take i field) (drop i field)

-- one byte more that is no quote, where those before stand as they are
pub plain_byte_more : (field : List ℕ) (i : ℕ) → i < length field → (get_or field i 0 ≡ 34 → ⊥)
    → escaped row_writer (take i field) ≡ take i field → escaped row_writer (take (i + 1) field) ≡ take (i + 1) field
plain_byte_more field i lt other same =
    escaped_more field i lt ∙ ap (λ (x : List ℕ). x ++ escaped row_writer (get_or field i 0 ∷ [])) same
    ∙ ap (λ (x : List ℕ). take i field ++ x) (escaped_byte (get_or field i 0) other) ∙ sym (take_more field i 0 lt)

-- a field up to its first quote, that quote twice, and the rest
pub quote_found : (field : List ℕ) (at i : ℕ) → at ≡ i → i < length field → get_or field i 0 ≡ 34
    → escaped row_writer (take i field) ≡ take i field
    → escaped row_writer field ≡ take at field ++ (34 ∷ 34 ∷ escaped row_writer (drop (at + 1) field))
quote_found field at i e lt quote same =
    let rest = escaped row_writer (drop (i + 1) field) in
    let upto : escaped row_writer (take (i + 1) field) ≡ take i field ++ 34 ∷ 34 ∷ [] =
    escaped_more field i lt ∙ ap (λ (x : List ℕ). x ++ escaped row_writer (get_or field i 0 ∷ [])) same
    ∙ ap (λ (x : List ℕ). take i field ++ x) (escaped_quote (get_or field i 0) quote) in
    let whole : escaped row_writer field ≡ take i field ++ (34 ∷ 34 ∷ rest) =
    escaped_front field (i + 1) ∙ ap (λ (x : List ℕ). x ++ rest) upto ∙ append_assoc (take i field) (34 ∷ 34 ∷ []) rest in
    rw e whole

-- a quote that is written twice behind what was written before, where the rest of a text begins with the bytes up to it
pub quote_behind : {all rest : List ℕ} (text before behind : List ℕ) → all ≡ text ++ rest → rest ≡ before ++ (34 ∷ 34 ∷ behind)
    → all ≡ (text ++ (before ++ 34 ∷ 34 ∷ [])) ++ behind
quote_behind text before behind is begins =
    is ∙ ap (λ (x : List ℕ). text ++ x) (begins ∙ sym (append_assoc before (34 ∷ 34 ∷ []) behind))
    ∙ sym (append_assoc text (before ++ 34 ∷ 34 ∷ []) behind)

-- further fields in two parts
fields_parts : (cfg : WriterBuilder) (xs ys : List (List ℕ)) → fields_text cfg (xs ++ ys) ≡ fields_text cfg xs ++ fields_text cfg ys
unfolding fields_text
fields_parts cfg [] ys = refl
fields_parts cfg (x ∷ xs) ys =
    rw (fields_parts cfg xs ys, append_assoc (field_text cfg x) (fields_text cfg xs) (fields_text cfg ys)) refl

-- a row begins with its first fields
pub row_front : (cfg : WriterBuilder) (rows : List (List ℕ)) (i : ℕ)
    → (rest : List ℕ) × (row_body cfg rows ≡ row_body cfg (take (suc i) rows) ++ rest)
row_front cfg [] i = ([], refl)
row_front cfg (r ∷ rs) i = (
  fields_text cfg (drop i rs),
  ap (λ (x : List (List ℕ)). field_text cfg r ++ fields_text cfg x) (sym (take-append-drop i rs))
      ∙ ap (λ (x : List ℕ). field_text cfg r ++ x) (fields_parts cfg (take i rs) (drop i rs))
      ∙ sym (append_assoc (field_text cfg r) (fields_text cfg (take i rs)) (fields_text cfg (drop i rs))),
)
