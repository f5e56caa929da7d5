-- A reader of the records of a text.
use Rattle.std.specs.{Prelude.{◌≡◌, ◌<◌, ◌⊎◌, ℕ, Bool, true, false, List, [], ◌∷◌, Some, None, length}, Borrow.{Bor}}
use Rattle.csv.specs.{Machine.{next_record}, Reading.{Ready, default_config, records_from, source_of}, declared.parser.State.{State}}
use Rattle.csv.specs.declared.reader.Reader.{Reader}
use Rattle.csv.specs.declared.reader.Trim.TheVariants as trim

-- the bytes that are left are fewer than the records that are counted, or no record is left
abbrev pub IsCounted : ℕ → State → List ℕ → Type 0
IsCounted count s xs = (length xs < count) ⊎ (next_record default_config s [] [] xs ≡ None)

-- a reader between two records, with these left
pub record RowsLeft (reader : Reader (Bor (List ℕ))) (rows : List (List (List ℕ))) : Type 0 where
  pub trims : reader.trim ≡ trim.None
  pub ready : Ready reader
  pub config : reader.config ≡ default_config
  pub rest : List ℕ
  pub source : source_of (λ s. Some s.now) reader ≡ Some rest
  pub count : ℕ
  pub counted : IsCounted count reader.state rest
  pub rows_are : rows ≡ records_from default_config count reader.state rest

-- a record was taken, or none was left
abbrev pub TookRow : List (List (List ℕ)) → List (List ℕ) → Reader (Bor (List ℕ)) → Bool → Type 0
TookRow rows fields reader true = (more : List (List (List ℕ))) × (rows ≡ fields ∷ more) × RowsLeft reader more
TookRow rows fields reader false = rows ≡ []
