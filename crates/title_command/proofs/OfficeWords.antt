-- What some words of the command `office` say.
use Rattle.std.{proofs.Common.{◌≡◌, ◌∙◌, List, [], ◌∷◌, Option, Some, None, ℕ, refl, sym, ap, ap₂, codes}, specs.Prelude.{unwrap_or}}
use Rattle.std.specs.Str.Parse.{digits_value, without_leading_plus}
use Rattle.clap.{proofs.OnLiterals.{clap_on_literals}, specs.Walk.{Row, Text, first_of, rows_after}}
use Rattle.clap.specs.declared.error.kind.ErrorKind.TheVariants.{ArgumentConflict, UnknownArgument, ValueValidation}
use Rattle.title_command.specs.declared.choice.Line.{Line, TheVariants.{Run, Alone, Office, Desk, Tract, Kept, KeptDesk, KeptOffice}}
use Rattle.title_command.{specs.declared.choice.Line.TheVariants.{Look, LookDesk, Check}, proofs.CommandLemmas.{at, differ}}
use Rattle.title_command.specs.CommandLine.{IsLine, IsNumberOf, OfficeAtMost, OfficeByDefault, Refuses}
use Rattle.title_command.specs.declared.choice.Work.TheVariants as work

-- the number that a text writes
abbrev pub number : Text → ℕ
number text = digits_value 10 (without_leading_plus text)

-- the number of an argument is that of its text
pub number_is : (id : Text) (rows : List Row) (text : Text) (n : ℕ) → first_of id rows ≡ Some text → IsNumberOf id rows n → n ≡ number text
number_is id rows text n first (other, same, numeral, is) =
    is ∙ ap (λ (o : Option Text). number (unwrap_or o [])) (sym same ∙ first)

-- the line of an office with these texts has their numbers
office_is : (rows : List Row) (examiners tries : Text) → first_of (codes "examiners") rows ≡ Some examiners
    → first_of (codes "tries") rows ≡ Some tries → first_of (codes "plant") rows ≡ None → (line : Line)
    → IsLine (codes "office") rows line → line ≡ Office (number examiners) (number tries)
office_is rows examiners tries first second plantless Run is = absurd (differ (codes "office") (codes "run") refl is.0)
office_is rows examiners tries first second plantless Alone is = absurd (differ (codes "office") (codes "alone") refl is.0)
office_is rows examiners tries first second plantless (Office e t) is =
    ap₂ Office (number_is (codes "examiners") rows examiners e first is.1) (number_is (codes "tries") rows tries t second is.2)
office_is rows examiners tries first second plantless Desk is = absurd (differ (codes "office") (codes "desk") refl is.0)
office_is rows examiners tries first second plantless (KeptDesk plant) is = absurd (differ (codes "office") (codes "desk") refl is.0)
office_is rows examiners tries first second plantless (Look plant after) is = absurd (differ (codes "office") (codes "alone") refl is.0)
office_is rows examiners tries first second plantless (LookDesk plant) is = absurd (differ (codes "office") (codes "desk") refl is.0)
office_is rows examiners tries first second plantless (KeptOffice plant after e t) is =
    let both : None ≡ Some plant.now = sym plantless ∙ is.1 in
    absurd (cc)
office_is rows examiners tries first second plantless (Tract text) is = absurd (differ (codes "office") (codes "tract") refl is.0)
office_is rows examiners tries first second plantless (Kept plant after work.Run) is =
    absurd (differ (codes "office") (codes "run") refl is.0)
office_is rows examiners tries first second plantless (Kept plant after work.Alone) is =
    absurd (differ (codes "office") (codes "alone") refl is.0)
office_is rows examiners tries first second plantless (Check file as_script) is =
    absurd (differ (codes "office") (codes "check") refl is.0)

-- `office` alone
pub by_default : OfficeByDefault
unfolding clap_on_literals
by_default = (refl, λ line is. office_is (rows_after (at 2).rules [] []) (codes "2") (codes "100") refl refl refl line is)

-- `office` with the most of both
pub at_most : OfficeAtMost
unfolding clap_on_literals
at_most = (
  refl,
  λ line is. office_is
      (rows_after (at 2).rules [] (codes "--examiners" ∷ codes "64" ∷ codes "--tries" ∷ codes "10000" ∷ []))
      (codes "64") (codes "10000") refl refl refl line is,
)

-- numbers out of range
pub one_more : Refuses (codes "--examiners" ∷ codes "65" ∷ []) ValueValidation
unfolding clap_on_literals
one_more = refl

pub no_tries : Refuses (codes "--tries" ∷ codes "0" ∷ []) ValueValidation
unfolding clap_on_literals
no_tries = refl

-- a word that is no number
pub no_number : Refuses (codes "--tries" ∷ codes "ten" ∷ []) ValueValidation
unfolding clap_on_literals
no_number = refl

-- an option said twice
pub twice : Refuses (codes "--tries=1" ∷ codes "--tries=2" ∷ []) ArgumentConflict
unfolding clap_on_literals
twice = refl

-- a word that is no option
pub unknown : Refuses (codes "soon" ∷ []) UnknownArgument
unfolding clap_on_literals
unknown = refl
