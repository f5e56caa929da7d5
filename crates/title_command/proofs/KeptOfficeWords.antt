-- What some words say of an office on a plant's file.
use Rattle.std.proofs.Common.{◌≡◌, ◌∙◌, List, [], ◌∷◌, Some, None, refl, sym, codes}
use Rattle.clap.{proofs.OnLiterals.{clap_on_literals}, specs.Walk.{Row, Text, first_of, rows_after}}
use Rattle.title_command.specs.declared.choice.Line.{Line, TheVariants.{Run, Alone, Office, Desk, Tract, Kept, KeptDesk, KeptOffice}}
use Rattle.title_command.specs.{declared.choice.Line.TheVariants.{Look, LookDesk, Check}, CommandLine.{IsLine, IsOfficeOn, OfficeOnPlant}}
use Rattle.title_command.proofs.{CommandLemmas.{at, differ}, KeptWords.{named_is, unsaid}, OfficeWords.{number, number_is}}
use Rattle.title_command.specs.declared.choice.Work.TheVariants as work

-- a line of `office` with a plant keeps its script there
office_keeps : (rows : List Row) (plant examiners tries : Text) → first_of (codes "plant") rows ≡ Some plant
    → first_of (codes "after") rows ≡ None → first_of (codes "examiners") rows ≡ Some examiners
    → first_of (codes "tries") rows ≡ Some tries → (line : Line) → IsLine (codes "office") rows line
    → IsOfficeOn plant None (number examiners) (number tries) line
office_keeps rows plant examiners tries some none first second Run is = absurd (differ (codes "office") (codes "run") refl is.0)
office_keeps rows plant examiners tries some none first second Alone is = absurd (differ (codes "office") (codes "alone") refl is.0)
office_keeps rows plant examiners tries some none first second (Office e t) is =
    let both : None ≡ Some plant = sym is.3.0 ∙ some in
    absurd (cc)
office_keeps rows plant examiners tries some none first second Desk is = absurd (differ (codes "office") (codes "desk") refl is.0)
office_keeps rows plant examiners tries some none first second (KeptDesk named) is =
    absurd (differ (codes "office") (codes "desk") refl is.0)
office_keeps rows plant examiners tries some none first second (KeptOffice named after e t) is = (
  named_is rows plant named.now some is.1,
  unsaid rows after none is.2,
  number_is (codes "examiners") rows examiners e first is.3,
  number_is (codes "tries") rows tries t second is.4,
)
office_keeps rows plant examiners tries some none first second (Look named after) is =
    absurd (differ (codes "office") (codes "alone") refl is.0)
office_keeps rows plant examiners tries some none first second (LookDesk named) is =
    absurd (differ (codes "office") (codes "desk") refl is.0)
office_keeps rows plant examiners tries some none first second (Tract text) is =
    absurd (differ (codes "office") (codes "tract") refl is.0)
office_keeps rows plant examiners tries some none first second (Kept named after work.Run) is =
    absurd (differ (codes "office") (codes "run") refl is.0)
office_keeps rows plant examiners tries some none first second (Kept named after work.Alone) is =
    absurd (differ (codes "office") (codes "alone") refl is.0)
office_keeps rows plant examiners tries some none first second (Check file as_script) is =
    absurd (differ (codes "office") (codes "check") refl is.0)

pub on_plant : OfficeOnPlant
unfolding clap_on_literals
on_plant = (
  (
    refl,
    λ lacks.
        let both : Some (codes "county.plant") ≡ None = lacks.1 in
        absurd (cc),
  ),
  λ line is. office_keeps
      (rows_after (at 2).rules [] (codes "--plant" ∷ codes "county.plant" ∷ codes "--examiners" ∷ codes "3" ∷ [])) (codes "county.plant")
      (codes "3") (codes "100") refl refl refl refl line is,
)
