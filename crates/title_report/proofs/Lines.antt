-- A sheet's row in the parts in which it is written.
use Rattle.std.{proofs.Common.{◌≡◌, ◌∙◌, ◌++◌, ◌∷◌, [], ◌<◌, ◌^◌, ℕ, List, Option, None, Some}, specs.{Option.{is_some}, Fmt.{decimal}}}
use Rattle.std.proofs.{Common.{OnSome, Bool, true, refl, codes, append_assoc}, lemmas.List.{append-nil}}
use Rattle.csv.specs.Writing.{field_text, fields_text, is_blank}
use Rattle.title_share.specs.Share.{share_text}
use Rattle.title_land.specs.Texts.{node_text}
use Rattle.title_instrument.specs.{declared.{parts.Estate.{Estate, TheVariants.{S, O, M}}, kind.Kind.{Kind}}, Kinds.{kind_of, kind_word}}
use Rattle.title_instrument.specs.{declared.kind.Kind.TheVariants.{Deed}, Estates.{estate_text, estates_text, letter_if}}
use Rattle.title_instrument.specs.Parties.{estates_of, grantee_of, grantor_of}
use Rattle.title_chain.specs.declared.ask.Entry.{Entry}
use Rattle.title_store.specs.declared.sheet_row.SheetRow.{SheetRow}
use Rattle.title_page.specs.Rows.{row, row_writer, rows_text}
use Rattle.title_report.specs.{declared.entry_line.EntryKey.{EntryKey}, EntryTexts.{entry_front, entry_text, key_of}}
use Rattle.title_report.specs.{Fronts.{entry_start, front_text, tail_text}, Replies.{entry_row, name_of, sheet_row}}
use Rattle.title_report.proofs.Plain.{IsPlain, both_plain, node_field, plain_either, plain_field, plain_number, plain_word}

-- an estate's letter, also where it may be left out
plain_estate : (estate : Estate) → IsPlain (estate_text estate)
plain_estate S = plain_word (estate_text S) refl
plain_estate e = plain_word (estate_text e) refl

plain_letter : (named : Bool) (estate : Estate) → IsPlain (letter_if named estate)
plain_letter named estate = plain_either named (plain_estate estate) (plain_word [] refl)

-- six fields and what stands between them, and the same in three parts
six : (d n m name s : List ℕ) → (d ++ 44 ∷ (codes "row" ++ 44 ∷ (n ++ 44 ∷ (m ++ 44 ∷ (name ++ 44 ∷ (s ++ [])))))) ++ 10 ∷ []
    ≡ (d ++ codes "," ++ codes "row" ++ codes "," ++ n ++ codes "," ++ m ++ codes ",") ++ (name ++ 44 ∷ (s ++ 10 ∷ []))
six d n m name s = simp (append_assoc, append-nil) refl

-- what holds where there is a value, of one that is there
pub of_some : {T : Type 0} {P : Type 0} (o : Option T) → is_some o ≡ true → OnSome o P → P
of_some None e p = absurd cc
of_some (Some x) e p = p

-- a row of a sheet from its beginning
pub line_parts : (front : List ℕ) (names : List (List ℕ)) (e : ℕ) (r : SheetRow) → front ≡ front_text e r.node r.estate → e < 2 ^ 64
    → rows_text (sheet_row names e r ∷ []) ≡ front ++ (field_text row_writer (name_of names r.party) ++ tail_text r.units)
unfolding row is_blank fields_text
line_parts front names e r f small = append-nil (row (sheet_row names e r))
    ∙ rw (f, plain_field (plain_number e small), node_field r.node, plain_field (plain_estate r.estate))
    (six (decimal e) (node_text r.node) (estate_text r.estate) (field_text row_writer (name_of names r.party))
    (field_text row_writer (share_text r.units)))

-- a kind's word is its own field
kind_field : (kind : Kind) → field_text row_writer (kind_word kind) ≡ kind_word kind
kind_field Deed = refl
kind_field k = refl

-- eight fields and what stands between them, and the same in two parts
eight : (d p q k f t z : List ℕ)
    → (d ++ 44 ∷ (codes "entry" ++ 44 ∷ (p ++ 44 ∷ (q ++ 44 ∷ (k ++ 44 ∷ (f ++ 44 ∷ (t ++ 44 ∷ (z ++ [])))))))) ++ 10 ∷ []
    ≡ (d ++ codes "," ++ codes "entry" ++ codes ",")
    ++ ((p ++ codes "," ++ q ++ codes "," ++ k ++ codes ",") ++ (f ++ 44 ∷ (t ++ 44 ∷ (z ++ 10 ∷ []))))
eight d p q k f t z = simp (append_assoc, append-nil) refl

-- a row of a chain
entry_parts : (names : List (List ℕ)) (e : ℕ) (x : Entry) → e < 2 ^ 64
    → field_text row_writer (decimal x.place) ≡ decimal x.place → field_text row_writer (decimal x.posting.doc) ≡ decimal x.posting.doc
    → rows_text (entry_row names e x ∷ []) ≡ entry_start e ++ entry_text names (key_of x)
unfolding row is_blank fields_text
entry_parts names e x small place doc =
    let of = estates_of x.posting.instrument in
    append-nil (row (entry_row names e x))
    ∙ rw (
      plain_field (plain_number e small),
      place,
      doc,
      kind_field (kind_of x.posting.instrument),
      plain_field (both_plain (both_plain (plain_letter of.s S) (plain_letter of.o O)) (plain_letter of.m M)),
    )
    (eight (decimal e) (decimal x.place) (decimal x.posting.doc) (kind_word (kind_of x.posting.instrument))
    (field_text row_writer (name_of names (grantor_of x.posting.instrument)))
    (field_text row_writer (name_of names (grantee_of x.posting.instrument))) (estates_text of))

-- a row of a chain from the examiner's text and that of its key
pub entry_by_key : (start : List ℕ) (key : EntryKey) (names : List (List ℕ)) (e : ℕ) (x : Entry) → start ≡ entry_start e
    → key ≡ key_of x → e < 2 ^ 64 → field_text row_writer (decimal key.place) ≡ decimal key.place
    → field_text row_writer (decimal key.doc) ≡ decimal key.doc → rows_text (entry_row names e x ∷ []) ≡ start ++ entry_text names key
entry_by_key start key names e x s k small place doc = rw (s, k) (entry_parts names e x small (rw k at place) (rw k at doc))

-- the text of a key from its parts
pub key_parts : (front end : List ℕ) (names : List (List ℕ)) (key : EntryKey) → front ≡ entry_front key
    → end ≡ 44 ∷ (estates_text key.estates ++ 10 ∷ []) → entry_text names key
    ≡ front ++ (field_text row_writer (name_of names key.grantor) ++ 44 ∷ (field_text row_writer (name_of names key.grantee) ++ end))
key_parts front end names key f z = rw (f, z) refl
