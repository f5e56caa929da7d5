-- Names and their bytes, and rows that are text.
use Rattle.std.{proofs.Common.{◌≡◌, ◌∷◌, ◌++◌, [], refl, sym, ℕ, List, Bool, true, false, map, not, inl}, specs.Str.{bytes_eq, is_utf8}}
use Rattle.std.specs.{List.{list_all, list_any, position, prefix_len}, String.{string_bytes, string_eq}, declared.string.String.{String}}
use Rattle.std.proofs.lemmas.{List.{length-map, map-append}, Str.{IsUtf8-from_is_utf8, is_utf8-from_IsUtf8}, Bool.{and_parts, cases_Bool}}
use Rattle.std.proofs.Common.{inr, Option, None}
use Rattle.csv.specs.Records.{AllText}
use Rattle.indexmap.specs.IndexSet.{insert_key}
use Rattle.title_plan.specs.{Plans.{understood}, Rows.{row_in}, declared.row.Row.{Row}}

-- a name among names, and among the texts that have them
pub any_map : {X : Type 0} (f : X → List ℕ) (p : List ℕ → Bool) (xs : List X) → list_any p (map f xs) ≡ list_any (λ x. p (f x)) xs
any_map f p [] = refl
any_map f p (x ∷ xs) = rw (any_map f p xs) refl

prefix_map : {X : Type 0} (f : X → List ℕ) (p : List ℕ → Bool) (xs : List X) → prefix_len p (map f xs) ≡ prefix_len (λ x. p (f x)) xs
prefix_map f p [] = refl
prefix_map f p (x ∷ xs) = rw (prefix_map f p xs) refl

pub position_name : {Y : Type 0} (name : List ℕ) (keys : List (String Y))
    → position (bytes_eq name) (map string_bytes keys) ≡ position (λ k. bytes_eq name (string_bytes k)) keys
position_name name keys = rw (prefix_map string_bytes (λ x. not (bytes_eq name x)) keys, length-map) refl

-- a new name goes last
pub insert_name : {Y : Type 0} (name : List ℕ) (v : String Y) (keys : List (String Y)) → string_bytes v ≡ name
    → list_any (λ k. bytes_eq name (string_bytes k)) keys ≡ false
    → map string_bytes (insert_key string_eq keys v) ≡ map string_bytes keys ++ name ∷ []
insert_name name v keys e absent =
    let h : list_any (string_eq v) keys ≡ false = rw (sym e) at absent in
    rw (h, map-append string_bytes keys (v ∷ []), e) refl

-- a row is text, as a test
pub texts_true : (fields : List (List ℕ)) → AllText fields → list_all is_utf8 fields ≡ true
unfolding AllText
texts_true [] h = refl
texts_true (f ∷ fields) h = rw (is_utf8-from_IsUtf8 f h.0, texts_true fields h.1) refl

pub texts_from : (fields : List (List ℕ)) → list_all is_utf8 fields ≡ true → AllText fields
unfolding AllText
texts_from [] h = tt
texts_from (f ∷ fields) h =
    let parts = and_parts (is_utf8 f) (list_all is_utf8 fields) h in (IsUtf8-from_is_utf8 f parts.0, texts_from fields parts.1)

-- fields that aren't text say nothing, and those that are say what their row does
pub not_text : (fields : List (List ℕ)) → (list_all is_utf8 fields ≡ true → ⊥) → understood 1 fields ≡ None
not_text fields h = elim (cases_Bool (list_all is_utf8 fields)) [
  | inl text ↦ absurd (h text)
  | inr other ↦ rw other refl
]

pub is_text : (fields : List (List ℕ)) (found : Option (Row (List ℕ))) → AllText fields → row_in fields ≡ found
    → understood 1 fields ≡ found
is_text fields found text is = rw (texts_true fields text, is) refl
