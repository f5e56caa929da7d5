-- What some words say that look at a plant's file.
use Rattle.std.proofs.Common.{◌≡◌, List, [], ◌∷◌, Some, None, refl, codes, inr}
use Rattle.clap.{proofs.OnLiterals.{clap_on_literals}, specs.Walk.{Row, Text, first_of, rows_after}}
use Rattle.title_command.specs.declared.choice.Line.{Line, TheVariants.{Run, Alone, Office, Desk, Tract, Kept, KeptDesk, KeptOffice}}
use Rattle.title_command.{specs.declared.choice.Line.TheVariants.{Look, LookDesk, Check}, proofs.CommandLemmas.{at, differ}}
use Rattle.title_command.specs.CommandLine.{IsDeskLookAt, IsLine, IsLookAt, IsLooked, LookAlone, LookByWords, LookOfRun}
use Rattle.title_command.proofs.KeptWords.{named_is, not_both, unsaid}
use Rattle.title_command.specs.declared.choice.Work.TheVariants as work

-- a line of `alone` with a plant and the flag looks at it
alone_looks : (rows : List Row) (plant : Text) → first_of (codes "plant") rows ≡ Some plant → first_of (codes "after") rows ≡ None
    → IsLooked rows → (line : Line) → IsLine (codes "alone") rows line → IsLookAt plant None line
alone_looks rows plant some none looks Run is = absurd (differ (codes "alone") (codes "run") refl is.0)
alone_looks rows plant some none looks Alone is = absurd (not_both rows is.2 looks)
alone_looks rows plant some none looks (Office e t) is = absurd (differ (codes "alone") (codes "office") refl is.0)
alone_looks rows plant some none looks Desk is = absurd (differ (codes "alone") (codes "desk") refl is.0)
alone_looks rows plant some none looks (KeptDesk named) is = absurd (differ (codes "alone") (codes "desk") refl is.0)
alone_looks rows plant some none looks (KeptOffice named after e t) is = absurd (differ (codes "alone") (codes "office") refl is.0)
alone_looks rows plant some none looks (Look named after) is =
    (named_is rows plant named.now some is.1, unsaid rows after none is.2)
alone_looks rows plant some none looks (LookDesk named) is = absurd (differ (codes "alone") (codes "desk") refl is.0)
alone_looks rows plant some none looks (Tract text) is = absurd (differ (codes "alone") (codes "tract") refl is.0)
alone_looks rows plant some none looks (Check file as_script) is = absurd (differ (codes "alone") (codes "check") refl is.0)
alone_looks rows plant some none looks (Kept named after work.Run) is = absurd (differ (codes "alone") (codes "run") refl is.0)
alone_looks rows plant some none looks (Kept named after work.Alone) is = absurd (not_both rows is.3 looks)

-- so does one of `desk`
desk_looks : (rows : List Row) (plant : Text) → first_of (codes "plant") rows ≡ Some plant → IsLooked rows → (line : Line)
    → IsLine (codes "desk") rows line → IsDeskLookAt plant line
desk_looks rows plant some looks Run is = absurd (differ (codes "desk") (codes "run") refl is.0)
desk_looks rows plant some looks Alone is = absurd (differ (codes "desk") (codes "alone") refl is.0)
desk_looks rows plant some looks (Office e t) is = absurd (differ (codes "desk") (codes "office") refl is.0)
desk_looks rows plant some looks Desk is = absurd (not_both rows is.2 looks)
desk_looks rows plant some looks (KeptDesk named) is = absurd (not_both rows is.2 looks)
desk_looks rows plant some looks (KeptOffice named after e t) is = absurd (differ (codes "desk") (codes "office") refl is.0)
desk_looks rows plant some looks (Look named after) is = absurd (differ (codes "desk") (codes "alone") refl is.0)
desk_looks rows plant some looks (LookDesk named) is = named_is rows plant named.now some is.1
desk_looks rows plant some looks (Tract text) is = absurd (differ (codes "desk") (codes "tract") refl is.0)
desk_looks rows plant some looks (Check file as_script) is = absurd (differ (codes "desk") (codes "check") refl is.0)
desk_looks rows plant some looks (Kept named after work.Run) is = absurd (differ (codes "desk") (codes "run") refl is.0)
desk_looks rows plant some looks (Kept named after work.Alone) is = absurd (differ (codes "desk") (codes "alone") refl is.0)

pub look_by_words : LookByWords
unfolding clap_on_literals
look_by_words = (
  (
    (
      refl,
      λ lacks.
          let both : Some (codes "county.plant") ≡ None = lacks.1 in
          absurd (cc),
    ),
    λ line is. alone_looks
        (rows_after (at 1).rules [] (codes "--plant" ∷ codes "county.plant" ∷ codes "--look" ∷ [])) (codes "county.plant") refl refl refl
        line is,
  ),
  (
    (
      refl,
      λ lacks.
          let both : Some (codes "county.plant") ≡ None = lacks.1 in
          absurd (cc),
    ),
    λ line is. desk_looks
        (rows_after (at 3).rules [] (codes "--look" ∷ codes "--plant=county.plant" ∷ [])) (codes "county.plant") refl refl line is,
  ),
)

-- a look at no plant
pub look_alone : LookAlone
unfolding clap_on_literals
look_alone = ((inr refl, refl), (inr refl, refl))

-- and one of `run`
pub look_of_run : LookOfRun
unfolding clap_on_literals
look_of_run = refl
