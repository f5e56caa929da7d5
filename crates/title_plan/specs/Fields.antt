-- The fields of a row: what each says by its text, where it has its form.
use Rattle.std.specs.Prelude.{ℕ, ◌==◌, eqb, ◌&&◌, not, cond, Bool, true, false, List, [], ◌∷◌, Option, Some, None, codes, length, nat_le}
use Rattle.std.specs.{Prelude.{is_none, option_map, slice_index_or, slice_set}, List.{find, list_all, slice_split}, Str.{bytes_eq}}
use Rattle.title_share.specs.Texts.{number_in, share_in}
use Rattle.title_instrument.specs.declared.parts.{Estate.{Estate, TheVariants.{S, O, M}}, Estates.{Estates}, Quantum.{Quantum}}
use Rattle.title_instrument.specs.Estates.{estates_text, letter_of, estate_index}
use Rattle.title_instrument.specs.declared.parts.Quantum.TheVariants as quantum
use Rattle.title_plan.specs.Limits.{longest_name, last_examiner, last_document}

-- what comes of a value, where there is one
abbrev pub given : {A B : Type 0} → Option A → (A → Option B) → Option B
given None next = None
given (Some x) next = next x

-- the i-th field, from 0
abbrev pub field : List (List ℕ) → ℕ → List ℕ
field fields i = slice_index_or fields i []

-- ---- numbers and names

-- the number from 1 to a greatest one that a text writes in decimal, without leading zeros
abbrev pub number_up_to : (greatest : ℕ) → List ℕ → Option ℕ
number_up_to greatest text = given (number_in text) (λ n. cond (nat_le n greatest) (Some n) None)

-- an examiner
abbrev pub examiner_in : List ℕ → Option ℕ
examiner_in text = number_up_to last_examiner text

-- a document's number
abbrev pub document_in : List ℕ → Option ℕ
document_in text = number_up_to last_document text

-- a byte that a name may have: none below 32, and not 127
abbrev pub is_name_byte : ℕ → Bool
is_name_byte b = nat_le 32 b && not (b == 127)

-- a name's form: 1 to 60 bytes
abbrev pub is_name : List ℕ → Bool
is_name text = not (length text == 0) && nat_le (length text) longest_name && list_all is_name_byte text

-- a party's name
abbrev pub name_in : List ℕ → Option (List ℕ)
name_in text = cond (is_name text) (Some text) None

-- ---- the terms of instruments

-- the sets of one estate at least
abbrev pub named_sets : List Estates
named_sets =
    record { s = true; o = false; m = false } ∷ record { s = false; o = true; m = false } ∷ record { s = false; o = false; m = true }
    ∷ record { s = true; o = true; m = false } ∷ record { s = true; o = false; m = true } ∷ record { s = false; o = true; m = true }
    ∷ record { s = true; o = true; m = true } ∷ []

-- estates: the letters of one at least, in the order S, O, M
abbrev pub estates_in : List ℕ → Option Estates
estates_in text = find (λ estates. bytes_eq text (estates_text estates)) named_sets

-- a quantum: `W` and a share of the whole, or `I` and a share of the grantor's interest
abbrev pub quantum_in : List ℕ → Option Quantum
quantum_in [] = None
quantum_in (letter ∷ share) =
    cond (bytes_eq (letter ∷ []) (codes "W")) (option_map quantum.Whole (share_in share))
    (cond (bytes_eq (letter ∷ []) (codes "I")) (option_map quantum.Interest (share_in share)) None)

-- the estate of a letter
abbrev pub estate_of : ℕ → Option Estate
estate_of letter = find (λ e. letter == letter_of e) (S ∷ O ∷ M ∷ [])

-- what is reserved, with a share of one estate more: none of them twice
abbrev pub reserving : List (Option ℕ) → Estate → ℕ → Option (List (Option ℕ))
reserving reserve e share =
    cond (is_none (slice_index_or reserve (estate_index e) None)) (Some (slice_set reserve (estate_index e) (Some share))) None

-- what is reserved, with an item more: an estate's letter and a share
abbrev pub with_item : List (Option ℕ) → List ℕ → Option (List (Option ℕ))
with_item reserve [] = None
with_item reserve (letter ∷ share) = given (estate_of letter) (λ e. given (share_in share) (reserving reserve e))

-- what is reserved, with items more
abbrev pub with_items : List (Option ℕ) → List (List ℕ) → Option (List (Option ℕ))
with_items reserve [] = Some reserve
with_items reserve (item ∷ items) = given (with_item reserve item) (λ next. with_items next items)

-- nothing reserved in S, O and M
abbrev pub nothing_reserved : List (Option ℕ)
nothing_reserved = None ∷ None ∷ None ∷ []

-- the byte `;`
abbrev pub is_semicolon : ℕ → Bool
is_semicolon b = eqb b 59

-- a reserve: nothing, or items with `;` between them
abbrev pub reserve_in : List ℕ → Option (List (Option ℕ))
reserve_in text = cond (length text == 0) (Some nothing_reserved) (with_items nothing_reserved (slice_split is_semicolon text))
