-- The rows of a report: those of each reply, of a description that is none, and the last.
use Rattle.std.specs.{Prelude.{ℕ, List, [], ◌∷◌, length, map, codes, slice_index_or}, Fmt.{decimal}}
use Rattle.title_share.specs.Share.{share_text}
use Rattle.title_land.specs.{declared.node.Node.{Node}, Texts.{node_text}}
use Rattle.title_instrument.specs.{declared.parts.{Estate.{Estate}, Rule.{Rule}}, Estates.{estate_text, estates_text}}
use Rattle.title_instrument.specs.{Kinds.{kind_of, kind_word}, Numbers.{rule_number, cause_number}}
use Rattle.title_instrument.specs.Parties.{grantor_of, grantee_of, estates_of}
use Rattle.title_store.specs.declared.sheet_row.SheetRow.{SheetRow}
use Rattle.title_chain.specs.declared.ask.{Entry.{Entry}, Answer.{Answer}}
use Rattle.title_chain.specs.declared.ask.Answer.TheVariants as answer
use Rattle.title_trace.specs.declared.{call.Reply.{Reply}, denial.Denial.{Denial}}
use Rattle.title_trace.specs.declared.call.Reply.TheVariants as reply
use Rattle.title_trace.specs.declared.denial.Denial.TheVariants as denial
use Rattle.title_aliquot.specs.{declared.fault.DescFault.{DescFault}, Faults.{number_of}}
use Rattle.title_aliquot.specs.declared.fault.DescFault.TheVariants as fault

-- the name of the party of this number
abbrev pub name_of : List (List ℕ) → ℕ → List ℕ
name_of names party = slice_index_or names party []

-- a row `E,WORD`
abbrev pub word_row : ℕ → List ℕ → List (List ℕ)
word_row e word = decimal e ∷ word ∷ []

-- a row `E,WORD,NUMBER`
abbrev pub number_row : ℕ → List ℕ → ℕ → List (List ℕ)
number_row e word n = decimal e ∷ word ∷ decimal n ∷ []

-- a row of a sheet: `E,row,NODE,ESTATE,NAME,SHARE`
abbrev pub sheet_row : List (List ℕ) → ℕ → SheetRow → List (List ℕ)
sheet_row names e r = decimal e ∷ codes "row" ∷ node_text r.node ∷ estate_text r.estate ∷ name_of names r.party ∷ share_text r.units ∷ []

-- a row of a chain: `E,entry,PLACE,DOC,KIND,FROM,TO,ESTATES`
abbrev pub entry_row : List (List ℕ) → ℕ → Entry → List (List ℕ)
entry_row names e x = decimal e ∷ codes "entry" ∷ decimal x.place ∷ decimal x.posting.doc ∷ kind_word (kind_of x.posting.instrument)
    ∷ name_of names (grantor_of x.posting.instrument) ∷ name_of names (grantee_of x.posting.instrument)
    ∷ estates_text (estates_of x.posting.instrument) ∷ []

-- a refused post: `E,refused,N,ESTATE,NODE`
abbrev pub refused_row : ℕ → Rule → Estate → Node → List (List ℕ)
refused_row e rule estate node = decimal e ∷ codes "refused" ∷ decimal (rule_number rule) ∷ estate_text estate ∷ node_text node ∷ []

-- the rows of an answer
abbrev pub answer_rows : List (List ℕ) → ℕ → Answer → List (List (List ℕ))
answer_rows names e (answer.Rows rows) = number_row e (codes "sheet") (length rows) ∷ map (sheet_row names e) rows
answer_rows names e (answer.Entries entries) = number_row e (codes "chain") (length entries) ∷ map (entry_row names e) entries
answer_rows names e answer.Posted = word_row e (codes "posted") ∷ []
answer_rows names e (answer.Refused rule estate node) = refused_row e rule estate node ∷ []

-- why a call is refused
abbrev pub denial_row : ℕ → Denial → List (List ℕ)
denial_row e denial.NotOpen = word_row e (codes "notopen")
denial_row e denial.AlreadyOpen = word_row e (codes "alreadyopen")
denial_row e denial.NoSuchTownship = word_row e (codes "notownship")
denial_row e (denial.Invalid cause) = number_row e (codes "invalid") (cause_number cause)
denial_row e denial.TooLong = word_row e (codes "toolong")
denial_row e (denial.Conflict other) = number_row e (codes "conflict") other

-- the rows of a reply to an examiner; want of memory has none, and is never due
abbrev pub reply_rows : List (List ℕ) → ℕ → Reply → List (List (List ℕ))
reply_rows names e reply.Began = word_row e (codes "began") ∷ []
reply_rows names e (reply.Answered given) = answer_rows names e given
reply_rows names e (reply.Committed place) = number_row e (codes "committed") place ∷ []
reply_rows names e reply.Aborted = word_row e (codes "aborted") ∷ []
reply_rows names e (reply.Denied why) = denial_row e why ∷ []
reply_rows names e reply.Memory = []

-- the row of a description that is none: `E,description,21,BYTE`, or `E,description,N`
abbrev pub described_row : ℕ → DescFault → List (List ℕ)
described_row e (fault.BadText byte) = decimal e ∷ codes "description" ∷ codes "21" ∷ decimal byte ∷ []
described_row e fault.Range = number_row e (codes "description") (number_of fault.Range)
described_row e fault.TooSmall = number_row e (codes "description") (number_of fault.TooSmall)
described_row e fault.Lots = number_row e (codes "description") (number_of fault.Lots)
described_row e fault.Overlap = number_row e (codes "description") (number_of fault.Overlap)
described_row e fault.Memory = number_row e (codes "description") (number_of fault.Memory)

-- the last row, with the number of step rows
abbrev pub end_row : ℕ → List (List ℕ)
end_row steps = codes "end" ∷ decimal steps ∷ []
