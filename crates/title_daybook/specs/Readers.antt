-- A reader of the rows of a block.
use Rattle.std.specs.{Prelude.{◌≡◌, ℕ, List, [], ◌∷◌, Bool, true, false, Some, None}, Borrow.{Bor}}
use Rattle.csv.specs.{Machine.{Read, next_record}, Reading.{Ready, default_config, reader_config, reader_state, reader_trim, source_of}}
use Rattle.csv.specs.declared.reader.Reader.{Reader}
use Rattle.csv.specs.declared.parser.State.TheVariants as st
use Rattle.csv.specs.declared.reader.Trim.TheVariants as trim

-- U+FEFF in UTF-8
abbrev pub byte_order_mark : List ℕ
byte_order_mark = 239 ∷ 187 ∷ 191 ∷ []

-- a reader stands where a row begins, with these bytes left
pub record IsAt (reader : Reader (Bor (List ℕ))) (rest : List ℕ) : Type 0 where
  pub trims : reader_trim reader ≡ trim.None
  pub ready : Ready reader
  pub config : reader_config reader ≡ default_config
  pub state : reader_state reader ≡ st.StartRecord
  pub source : source_of (λ s. Some s.now) reader ≡ Some rest

-- a record was taken from these bytes, or there was none
abbrev pub Took : List ℕ → List (List ℕ) → Reader (Bor (List ℕ)) → Bool → Type 0
Took bytes fields reader true =
    (p : Read) × (next_record default_config st.StartRecord [] [] bytes ≡ Some p) × (fields ≡ p.0)
    × (p.1 ≡ st.StartRecord → IsAt reader p.2)
Took bytes fields reader false = next_record default_config st.StartRecord [] [] bytes ≡ None
