-- A reader of a script's rows before the first of them.
use Rattle.std.specs.{Prelude.{◌≡◌, ℕ, List, [], Option, Some, None, true}, Borrow.{Bor}}
use Rattle.csv.specs.{Reading.{Ready, default_config, is_flexible, source_of}, declared.reader.Reader.{Reader}}
use Rattle.csv.specs.declared.parser.State.TheVariants as st
use Rattle.csv.specs.declared.reader.Trim.TheVariants as trim

abbrev pub or_none : Option (List ℕ) → List ℕ
or_none None = []
or_none (Some bytes) = bytes

-- the bytes that are left to a reader of a text in memory
abbrev pub left_of : Reader (Bor (List ℕ)) → List ℕ
left_of reader = or_none (source_of (λ s. Some s.now) reader)

-- a reader at its first row, of these bytes: the rows are as they stand, each with as many fields as it has, and none names them
pub record IsAtFirst (bytes : List ℕ) (reader : Reader (Bor (List ℕ))) : Type 0 where
  pub trims : reader.trim ≡ trim.None
  pub ready : Ready reader
  pub config : reader.config ≡ default_config
  pub flexible : is_flexible reader ≡ true
  pub state : reader.state ≡ st.StartRecord
  pub source : source_of (λ s. Some s.now) reader ≡ Some bytes
