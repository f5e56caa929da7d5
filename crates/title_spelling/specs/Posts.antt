-- The fields of a post's row in a plant's file.
use Rattle.std.specs.Prelude.{ℕ, ◌≤◌, ◌<◌, ◌≡◌, true, false, List, [], ◌∷◌, ◌++◌, codes, length, Option, Some, None, slice_index_or}
use Rattle.std.specs.Fmt.{decimal}
use Rattle.title_share.specs.{Rows.{whole_units}, Share.{share_text}}
use Rattle.title_instrument.specs.declared.{instrument.Instrument.{Instrument}, parts.Estate.{Estate, TheVariants.{S, O, M}}}
use Rattle.title_instrument.specs.{declared.parts.Quantum.{Quantum}, Estates.{estates_text, letter_of, names_none}}
use Rattle.title_instrument.specs.{Kinds.{kind_of, kind_word}, Parties.{estates_of, grantee_of, grantor_of}}
use Rattle.title_instrument.specs.declared.instrument.Instrument.TheVariants as i
use Rattle.title_instrument.specs.declared.parts.Quantum.TheVariants as quantum
use Rattle.title_land.specs.{Depth.{depth}, Lands.{IsLand}}
use Rattle.title_chain.specs.declared.ask.Terms.{Terms}
use Rattle.title_plan.specs.Limits.{last_document, last_examiner}
use Rattle.title_spelling.specs.Lands.{has_a_cell, spelling}

-- ---- fields

-- the name of a party; an empty one where no party has the number
abbrev pub name_of : List (List ℕ) → ℕ → List ℕ
name_of names party = slice_index_or names party []

-- a quantum: `W` and a share of the whole, or `I` and a share of the grantor's interest
abbrev pub quantum_text : Quantum → List ℕ
quantum_text (quantum.Whole share) = codes "W" ++ share_text share
quantum_text (quantum.Interest share) = codes "I" ++ share_text share

-- a share of an estate that is reserved
abbrev pub item_text : Estate → ℕ → List ℕ
item_text e share = letter_of e ∷ share_text share

-- items with `;` between them, and one more where there is one
abbrev pub and_item : List ℕ → Estate → Option ℕ → List ℕ
and_item items e None = items
and_item [] e (Some share) = item_text e share
and_item (b ∷ items) e (Some share) = (b ∷ items) ++ (codes ";" ++ item_text e share)

-- what is reserved, in the order S, O, M
abbrev pub reserve_text : List (Option ℕ) → List ℕ
reserve_text reserve =
    and_item (and_item (and_item [] S (slice_index_or reserve 0 None)) O (slice_index_or reserve 1 None)) M (slice_index_or reserve 2 None)

-- what stands behind the estates of an instrument: a deed has a quantum and what it reserves
abbrev pub terms_fields : {P : Type 0} → Instrument P → List (List ℕ)
terms_fields (i.Deed d) = quantum_text d.quantum ∷ reserve_text d.reserve ∷ []
terms_fields (i.Release r) = []

-- a post of an examiner among parties with these names
abbrev pub post_fields : List (List ℕ) → ℕ → Terms → List (List ℕ)
post_fields names e post =
    decimal e ∷ kind_word (kind_of post.instrument) ∷ decimal post.doc ∷ name_of names (grantor_of post.instrument)
    ∷ name_of names (grantee_of post.instrument) ∷ estates_text (estates_of post.instrument)
    ∷ (terms_fields post.instrument ++ spelling post.tract ∷ [])

-- ---- posts that can be read

-- a share of the whole
abbrev pub IsShare : ℕ → Type 0
IsShare units = (0 < units) × (units ≤ whole_units)

abbrev pub IsQuantum : Quantum → Type 0
IsQuantum (quantum.Whole share) = IsShare share
IsQuantum (quantum.Interest share) = IsShare share

-- what is reserved of an estate is a share, where something is
abbrev pub IsReserved : Option ℕ → Type 0
IsReserved None = Unit {0}
IsReserved (Some share) = IsShare share

-- what is reserved in S, O and M
abbrev pub IsReserve : List (Option ℕ) → Type 0
IsReserve (s ∷ o ∷ m ∷ []) = IsReserved s × IsReserved o × IsReserved m
IsReserve _ = ⊥

-- the shares of an instrument are from one unit to the whole
abbrev pub HasShares : {P : Type 0} → Instrument P → Type 0
HasShares (i.Deed d) = IsQuantum d.quantum × IsReserve d.reserve
HasShares (i.Release r) = Unit {0}

-- an examiner's number
abbrev pub IsExaminer : ℕ → Type 0
IsExaminer e = (0 < e) × (e ≤ last_examiner)

-- a post of an examiner: its parties have names, it names an estate, and its land has a cell
pub record IsPost (names : List (List ℕ)) (e : ℕ) (post : Terms) : Type 0 where
  pub examiner : IsExaminer e
  pub some_document : 0 < post.doc
  pub last_document : post.doc ≤ last_document
  pub grantor : grantor_of post.instrument < length names
  pub grantee : grantee_of post.instrument < length names
  pub estates : names_none (estates_of post.instrument) ≡ false
  pub shares : HasShares post.instrument
  pub sized : IsLand depth post.tract
  pub cell : has_a_cell post.tract ≡ true
