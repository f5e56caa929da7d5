-- The text of a chain's row behind its examiner, as it is kept for further rows of the entry.
use Rattle.std.specs.{Prelude.{◌≡◌, ℕ, List, Option, [], ◌∷◌, ◌++◌, codes, IfSome}, List.{All}, Fmt.{decimal}}
use Rattle.csv.specs.Writing.{field_text}
use Rattle.title_instrument.specs.{Estates.{estates_text}, Kinds.{kind_of, kind_word}, Parties.{grantor_of, grantee_of, estates_of}}
use Rattle.title_chain.specs.declared.ask.Entry.{Entry}
use Rattle.title_page.specs.Rows.{row_writer}
use Rattle.title_report.specs.{Replies.{name_of}, declared.entry_line.{EntryKey.{EntryKey}, EntryLine.{EntryLine}}}
use Rattle.title_report.specs.declared.entry_lines.KeptLines.{KeptLines}

-- what a chain's row shows of an entry
abbrev pub key_of : Entry → EntryKey
key_of x = record {
  place = x.place;
  doc = x.posting.doc;
  grantor = grantor_of x.posting.instrument;
  grantee = grantee_of x.posting.instrument;
  kind = kind_of x.posting.instrument;
  estates = estates_of x.posting.instrument;
}

-- the text of a row behind `E,entry,` up to the first name: `PLACE,DOC,KIND,`
abbrev pub entry_front : EntryKey → List ℕ
entry_front k = decimal k.place ++ codes "," ++ decimal k.doc ++ codes "," ++ kind_word k.kind ++ codes ","

-- the text of a row behind `E,entry,`: `PLACE,DOC,KIND,FROM,TO,ESTATES`, and the line's end
abbrev pub entry_text : List (List ℕ) → EntryKey → List ℕ
entry_text names k = entry_front k ++ (field_text row_writer (name_of names k.grantor)
    ++ 44 ∷ (field_text row_writer (name_of names k.grantee) ++ 44 ∷ (estates_text k.estates ++ 10 ∷ [])))

-- the text that a line has is that of its key
pub record IsMade (names : List (List ℕ)) (l : EntryLine) : Type 0 where
  pub text : IfSome l.key (λ k. l.text.items ≡ entry_text names k)

-- each line that there is has the text of its key
abbrev pub AreMade : List (List ℕ) → Option KeptLines → Type 0
AreMade names lines = IfSome lines (λ it. All (IsMade names) it.lines.items)
