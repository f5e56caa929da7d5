-- What stands in a file is one thing, and a file that is a plant is refused by no row.
use Rattle.std.proofs.Common.{◌≡◌, ◌∙◌, ℕ, List, ◌++◌, Option, Some, None, Result, Ok, Err, sym, ap, subst, take, drop, reverse, ⊎_elim}
use Rattle.std.{proofs.{Common.{IfSome}, lemmas.List.{reverse-append, reverse-reverse, take-append-drop}}, specs.Global.{Vec}}
use Rattle.title_land.specs.{Depth.{depth}, declared.survey.Township.{Township}}
use Rattle.title_chain.specs.{declared.record.Record.{Record}, Alone.{IsSerial}}
use Rattle.title_journal.specs.{Blocks.{IsBlock}, Rest.{StandsAlike}}
use Rattle.title_daybook.specs.{Files.{row_of, standing_after, standing_in}, Standing.{Standing}}
use Rattle.title_lasting.specs.{DayLaws.{PlantsAreNotRefused}, Kept.{text_in, with_text}, Laws.GoingOn.{earlier_serial}, Made.{Adds}}
use Rattle.title_lasting.specs.{Openings.{StandsAs}, Refusals.{IsFirstRefused, oldest}}

-- with those behind them the first so many are all
all_of : (n : ℕ) (records : List Record) → records ≡ reverse (drop n (reverse records)) ++ oldest n records
all_of n records =
    sym (reverse-reverse records) ∙ ap reverse (sym (take-append-drop n (reverse records)))
    ∙ reverse-append (take n (reverse records)) (drop n (reverse records))

-- where all are serial, none is the first that can't be
none_refused : (townships : List Township) (records : List Record) (place : ℕ) → IsSerial depth townships records
    → IsFirstRefused townships records place → ⊥
none_refused townships records place serial first =
    first.refused (earlier_serial depth townships (reverse (drop place (reverse records))) (oldest place records)
    (subst (IsSerial depth townships) (all_of place records) serial))

-- what stands is one thing
pub one_stands : (s t : Standing) (r : Result Standing ℕ) → r ≡ Ok s → r ≡ Ok t → s ≡ t
one_stands s t r h k = cc

pub plants_are_not_refused : PlantsAreNotRefused
plants_are_not_refused file s row plant none =
    ⊎_elim (λ (bad : standing_in file ≡ Err row). absurd (cc (sym plant.0 ∙ bad)))
    (λ (refused : (t : Standing) × (place : ℕ) × (standing_in file ≡ Ok t) × IsFirstRefused t.townships t.records place
    × (row ≡ row_of file place)).
    let same : s ≡ refused.0 = one_stands s refused.0 (standing_in file) plant.0 refused.2 in
    none_refused refused.0.townships refused.0.records refused.1
    (subst (λ (t : Standing). IsSerial depth t.townships t.records) same plant.1) refused.3) none

-- where the same blocks stand, the same stands
pub alike_stands : (old c : List ℕ) → StandsAlike old c → StandsAs old c
alike_stands old c same = ap standing_after same

-- with its block, or with none, what stands after the day stands
pub adds_stand : (block : Option (List ℕ)) (before after : Standing) → Adds block before after → (stood : Result (List (List ℕ)) ℕ)
    → standing_after stood ≡ Ok before → standing_after (with_text block stood) ≡ Ok after
adds_stand None before after adds stood is = is ∙ ap Ok (sym adds)
adds_stand (Some text) before after adds stood is = adds.1 stood is

-- what a day adds is a block
pub block_is : (block : Option (Vec ℕ)) (before after : Standing) → Adds (text_in block) before after
    → IfSome block (λ text. IsBlock text.items)
block_is None before after adds = tt
block_is (Some text) before after adds = adds.0
