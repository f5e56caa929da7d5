-- What some words say of a plant's file.
use Rattle.std.{proofs.Common.{◌≡◌, ◌∙◌, List, [], ◌∷◌, Option, Some, None, ℕ, refl, sym, ap, codes, inl}, specs.Prelude.{unwrap_or}}
use Rattle.clap.{proofs.OnLiterals.{clap_on_literals}, specs.Walk.{Row, Text, first_of, rows_after}}
use Rattle.title_command.specs.declared.choice.Line.{Line, TheVariants.{Run, Alone, Office, Desk, Tract, Kept, KeptDesk, KeptOffice}}
use Rattle.title_command.{specs.declared.choice.Line.TheVariants.{Look, LookDesk, Check}, proofs.CommandLemmas.{at, differ}}
use Rattle.title_command.specs.CommandLine.{IsAfter, IsKept, IsLine, IsLooked, IsUnlooked, KeptByWords, PlaceAlone, SaysKept, most_place}
use Rattle.title_command.proofs.OfficeWords.{number, number_is}
use Rattle.title_command.specs.declared.choice.Work.TheVariants as work

-- the name of a file is that of the option
pub named_is : (rows : List Row) (text name : Text) → first_of (codes "plant") rows ≡ Some text → first_of (codes "plant") rows ≡ Some name
    → name ≡ text
named_is rows text name first is = ap (λ (o : Option Text). unwrap_or o []) (sym is ∙ first)

-- a look isn't both asked for and not
pub not_both : (rows : List Row) → IsUnlooked rows → IsLooked rows → ⊥
not_both rows unlooked looked =
    differ (codes "false") (codes "true") refl (ap (λ (o : Option Text). unwrap_or o []) (sym unlooked ∙ looked))

-- no place is expected where the words say none
pub unsaid : (rows : List Row) (after : Option ℕ) → first_of (codes "after") rows ≡ None → IsAfter rows after → after ≡ None
unsaid rows None none is = refl
unsaid rows (Some n) none is =
    let both : None ≡ Some is.0 = sym none ∙ is.1 in
    absurd (cc)

-- and the place that they say is expected
said : (rows : List Row) (after : Option ℕ) (text : Text) → first_of (codes "after") rows ≡ Some text → IsAfter rows after
    → after ≡ Some (number text)
said rows None text some is =
    let both : None ≡ Some text = sym is ∙ some in
    absurd (cc)
said rows (Some n) text some is = ap (λ (m : ℕ). Some m) (number_is (codes "after") rows text n some is)

-- a line of `alone` with a plant keeps a script there
alone_keeps : (rows : List Row) (plant : Text) → first_of (codes "plant") rows ≡ Some plant → first_of (codes "after") rows ≡ None
    → IsUnlooked rows → (line : Line) → IsLine (codes "alone") rows line → IsKept plant None work.Alone line
alone_keeps rows plant some none keeps Run is = absurd (differ (codes "alone") (codes "run") refl is.0)
alone_keeps rows plant some none keeps Alone is =
    let both : None ≡ Some plant = sym is.1.0 ∙ some in
    absurd (cc)
alone_keeps rows plant some none keeps (Office e t) is = absurd (differ (codes "alone") (codes "office") refl is.0)
alone_keeps rows plant some none keeps Desk is = absurd (differ (codes "alone") (codes "desk") refl is.0)
alone_keeps rows plant some none keeps (KeptDesk named) is = absurd (differ (codes "alone") (codes "desk") refl is.0)
alone_keeps rows plant some none keeps (KeptOffice named after e t) is = absurd (differ (codes "alone") (codes "office") refl is.0)
alone_keeps rows plant some none keeps (Look named after) is = absurd (not_both rows keeps is.3)
alone_keeps rows plant some none keeps (LookDesk named) is = absurd (differ (codes "alone") (codes "desk") refl is.0)
alone_keeps rows plant some none keeps (Tract text) is = absurd (differ (codes "alone") (codes "tract") refl is.0)
alone_keeps rows plant some none keeps (Check file as_script) is = absurd (differ (codes "alone") (codes "check") refl is.0)
alone_keeps rows plant some none keeps (Kept named after work.Run) is = absurd (differ (codes "alone") (codes "run") refl is.0)
alone_keeps rows plant some none keeps (Kept named after work.Alone) is =
    (named_is rows plant named.now some is.1, unsaid rows after none is.2, refl)

-- and one of `run` with a place too
run_keeps : (rows : List Row) (plant place : Text) → first_of (codes "plant") rows ≡ Some plant → first_of (codes "after") rows ≡ Some place
    → (line : Line) → IsLine (codes "run") rows line → IsKept plant (Some (number place)) work.Run line
run_keeps rows plant place some says Run is =
    let both : None ≡ Some plant = sym is.1.0 ∙ some in
    absurd (cc)
run_keeps rows plant place some says Alone is = absurd (differ (codes "run") (codes "alone") refl is.0)
run_keeps rows plant place some says (Office e t) is = absurd (differ (codes "run") (codes "office") refl is.0)
run_keeps rows plant place some says Desk is = absurd (differ (codes "run") (codes "desk") refl is.0)
run_keeps rows plant place some says (KeptDesk named) is = absurd (differ (codes "run") (codes "desk") refl is.0)
run_keeps rows plant place some says (KeptOffice named after e t) is = absurd (differ (codes "run") (codes "office") refl is.0)
run_keeps rows plant place some says (Look named after) is = absurd (differ (codes "run") (codes "alone") refl is.0)
run_keeps rows plant place some says (LookDesk named) is = absurd (differ (codes "run") (codes "desk") refl is.0)
run_keeps rows plant place some says (Tract text) is = absurd (differ (codes "run") (codes "tract") refl is.0)
run_keeps rows plant place some says (Check file as_script) is = absurd (differ (codes "run") (codes "check") refl is.0)
run_keeps rows plant place some says (Kept named after work.Alone) is = absurd (differ (codes "run") (codes "alone") refl is.0)
run_keeps rows plant place some says (Kept named after work.Run) is =
    (named_is rows plant named.now some is.1, said rows after place says is.2, refl)

-- `alone` with a plant
alone_words : SaysKept (codes "alone" ∷ codes "--plant" ∷ codes "county.plant" ∷ []) (codes "county.plant") None work.Alone
unfolding clap_on_literals
alone_words = (
  (
    refl,
    λ lacks.
        let both : Some (codes "county.plant") ≡ None = lacks.1 in
        absurd (cc),
  ),
  λ line is. alone_keeps
      (rows_after (at 1).rules [] (codes "--plant" ∷ codes "county.plant" ∷ [])) (codes "county.plant") refl refl refl line is,
)

-- `run` with a plant and the greatest place
run_words : SaysKept (codes "run" ∷ codes "--after=18446744073709551615" ∷ codes "--plant=county.plant" ∷ []) (codes "county.plant")
    (Some most_place) work.Run
unfolding clap_on_literals
run_words = (
  (
    refl,
    λ lacks.
        let both : Some (codes "county.plant") ≡ None = lacks.1 in
        absurd (cc),
  ),
  λ line is. run_keeps
      (rows_after (at 0).rules [] (codes "--after=18446744073709551615" ∷ codes "--plant=county.plant" ∷ [])) (codes "county.plant")
      (codes "18446744073709551615") refl refl line is,
)

pub by_words : KeptByWords
by_words = (alone_words, run_words)

-- a place that is expected in no plant
pub place_alone : PlaceAlone
unfolding clap_on_literals
place_alone = (inl refl, refl)
