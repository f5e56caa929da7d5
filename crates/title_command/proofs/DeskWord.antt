-- What the word `desk` says.
use Rattle.std.proofs.Common.{◌≡◌, ◌∙◌, ◌∷◌, List, [], Some, None, refl, sym, codes}
use Rattle.clap.{proofs.OnLiterals.{clap_on_literals}, specs.Walk.{Row, Text, first_of, rows_after}}
use Rattle.title_command.specs.declared.choice.Line.{Line, TheVariants.{Run, Alone, Office, Desk, Tract, Kept, KeptDesk, KeptOffice}}
use Rattle.title_command.{specs.declared.choice.Line.TheVariants.{Look, LookDesk, Check}, proofs.CommandLemmas.{at, differ}}
use Rattle.title_command.specs.CommandLine.{DeskByWord, DeskOnPlant, DeskWithMore, IsDeskOn, IsLine, IsUnlooked}
use Rattle.title_command.proofs.KeptWords.{named_is, not_both}
use Rattle.title_command.specs.declared.choice.Work.TheVariants as work

-- the line of the word is a desk, where no plant is named
is_desk : (rows : List Row) → first_of (codes "plant") rows ≡ None → (line : Line) → IsLine (codes "desk") rows line → line ≡ Desk
is_desk rows none Run is = absurd (differ (codes "desk") (codes "run") refl is.0)
is_desk rows none Alone is = absurd (differ (codes "desk") (codes "alone") refl is.0)
is_desk rows none (Office e t) is = absurd (differ (codes "desk") (codes "office") refl is.0)
is_desk rows none Desk is = refl
is_desk rows none (Tract text) is = absurd (differ (codes "desk") (codes "tract") refl is.0)
is_desk rows none (Kept plant after work.Run) is = absurd (differ (codes "desk") (codes "run") refl is.0)
is_desk rows none (Kept plant after work.Alone) is = absurd (differ (codes "desk") (codes "alone") refl is.0)
is_desk rows none (KeptDesk plant) is =
    let both : None ≡ Some plant.now = sym none ∙ is.1 in
    absurd (cc)
is_desk rows none (KeptOffice plant after e t) is = absurd (differ (codes "desk") (codes "office") refl is.0)
is_desk rows none (Look plant after) is = absurd (differ (codes "desk") (codes "alone") refl is.0)
is_desk rows none (LookDesk plant) is =
    let both : None ≡ Some plant.now = sym none ∙ is.1 in
    absurd (cc)
is_desk rows none (Check file as_script) is = absurd (differ (codes "desk") (codes "check") refl is.0)

-- and where one is named, it is a desk on top of that
is_on_plant : (rows : List Row) (plant : Text) → first_of (codes "plant") rows ≡ Some plant → IsUnlooked rows → (line : Line)
    → IsLine (codes "desk") rows line → IsDeskOn plant line
is_on_plant rows plant some keeps Run is = absurd (differ (codes "desk") (codes "run") refl is.0)
is_on_plant rows plant some keeps Alone is = absurd (differ (codes "desk") (codes "alone") refl is.0)
is_on_plant rows plant some keeps (Office e t) is = absurd (differ (codes "desk") (codes "office") refl is.0)
is_on_plant rows plant some keeps Desk is =
    let both : None ≡ Some plant = sym is.1 ∙ some in
    absurd (cc)
is_on_plant rows plant some keeps (Tract text) is = absurd (differ (codes "desk") (codes "tract") refl is.0)
is_on_plant rows plant some keeps (Kept named after work.Run) is = absurd (differ (codes "desk") (codes "run") refl is.0)
is_on_plant rows plant some keeps (Kept named after work.Alone) is = absurd (differ (codes "desk") (codes "alone") refl is.0)
is_on_plant rows plant some keeps (KeptDesk named) is = named_is rows plant named.now some is.1
is_on_plant rows plant some keeps (KeptOffice named after e t) is = absurd (differ (codes "desk") (codes "office") refl is.0)
is_on_plant rows plant some keeps (Look named after) is = absurd (differ (codes "desk") (codes "alone") refl is.0)
is_on_plant rows plant some keeps (LookDesk named) is = absurd (not_both rows keeps is.2)
is_on_plant rows plant some keeps (Check file as_script) is = absurd (differ (codes "desk") (codes "check") refl is.0)

-- the word alone
pub by_word : DeskByWord
unfolding clap_on_literals
by_word = (refl, λ line is. is_desk (rows_after (at 3).rules [] []) refl line is)

-- a file behind it
pub on_plant : DeskOnPlant
unfolding clap_on_literals
on_plant = (
  (
    refl,
    λ lacks.
        let both : Some (codes "county.plant") ≡ None = lacks.1 in
        absurd (cc),
  ),
  λ line is. is_on_plant
      (rows_after (at 3).rules [] (codes "--plant" ∷ codes "county.plant" ∷ [])) (codes "county.plant") refl refl line is,
)

-- a place behind it
pub with_more : DeskWithMore
unfolding clap_on_literals
with_more = refl
