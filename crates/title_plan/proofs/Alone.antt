-- On top of nothing rows do what they do alone.
use Rattle.std.proofs.Common.{◌≡◌, ◌+◌, ◌∙◌, refl, ap, ℕ, List, [], ◌∷◌, false, Option, Some, None, Result, Ok, Err, length, drop, eqb}
use Rattle.std.proofs.lemmas.Bool.{and_right}
use Rattle.title_land.specs.declared.tract.Land.{Land}
use Rattle.title_land.specs.declared.tract.Land.TheVariants as land
use Rattle.title_aliquot.specs.declared.fault.DescFault.{DescFault}
use Rattle.title_plan.specs.{declared.{fault.ScriptFault.{ScriptFault}, line.Schedule.{Schedule}, row.Row.{Row}}, Asked.{Asked}}
use Rattle.title_plan.specs.{Lands.{land_in}, Onto.{is_party_of, is_township_of, nothing_before, party_onto, township_onto}}
use Rattle.title_plan.specs.Onto.{Before, OntoNothing, after_row_onto, after_rows_onto, after_understood_onto, asked_on, first_of}
use Rattle.title_plan.specs.Plans.{after_row, after_rows, after_township, after_understood, going_on, rows_in, understood, with_party}
use Rattle.title_plan.specs.declared.row.Row.TheVariants as row

-- nothing stands that a row could declare again
pub record IsNothing (before : Before) : Type 0 where
  pub townships : before.townships ≡ []
  pub names : drop 1 before.names ≡ []

no_township : (before : Before) (said : Result Land DescFault) → before.townships ≡ [] → is_township_of before said ≡ false
no_township before (Ok (land.Township t)) none = rw none refl
no_township before _ none = refl

township_alone : (before : Before) (n : ℕ) (asked : Asked) (said : Result Land DescFault) → before.townships ≡ []
    → township_onto before n asked said ≡ after_township n asked said
township_alone before n asked said none =
    rw (and_right (eqb (length asked.lines) 0) (is_township_of before said) (no_township before said none)) refl

party_alone : (before : Before) (n : ℕ) (asked : Asked) (name : List ℕ) → drop 1 before.names ≡ []
    → party_onto before n asked name ≡ with_party n asked name
party_alone before n asked name none =
    let no : is_party_of before name ≡ false = rw none refl in
    rw (and_right (eqb (length asked.lines) 0) (is_party_of before name) no) refl

understood_alone : (sched : Schedule) (before : Before) (n : ℕ) (asked : Asked) (found : Option (Row (List ℕ))) → IsNothing before
    → after_understood_onto sched before n asked found ≡ after_understood sched n asked found
understood_alone sched before n asked None none = refl
understood_alone sched before n asked (Some (row.Township text)) none = township_alone before n asked (land_in text) none.townships
understood_alone sched before n asked (Some (row.Party name)) none = party_alone before n asked name none.names
understood_alone sched before n asked (Some (row.Step e a)) none = refl

row_alone : (sched : Schedule) (before : Before) (n : ℕ) (asked : Asked) (fields : List (List ℕ)) → IsNothing before
    → after_row_onto sched before n asked fields ≡ after_row sched n asked fields
row_alone sched before n asked fields none = understood_alone sched before n asked (understood n fields) none

-- on top of the first none
pub row_on_none : (sched : Schedule) (n : ℕ) (asked : Asked) (fields : List (List ℕ))
    → after_row_onto sched (first_of (record { townships = 0; parties = 0 }) asked) n asked fields ≡ after_row sched n asked fields
row_on_none sched n asked fields =
    row_alone sched (first_of (record { townships = 0; parties = 0 }) asked) n asked fields (record { townships = refl; names = refl })

same_on : (f g : Asked → Result Asked ScriptFault) (r : Result Asked ScriptFault) → ((a : Asked) → f a ≡ g a) → going_on f r ≡ going_on g r
same_on f g (Ok a) same = same a
same_on f g (Err e) same = refl

rows_alone : (sched : Schedule) (before : Before) (n : ℕ) (asked : Asked) (rows : List (List (List ℕ))) → IsNothing before
    → after_rows_onto sched before n asked rows ≡ after_rows sched n asked rows
rows_alone sched before n asked [] none = refl
rows_alone sched before n asked (row ∷ rows) none =
    same_on (λ after. after_rows_onto sched before (n + 1) after rows) (λ after. after_rows sched (n + 1) after rows)
    (after_row_onto sched before n asked row) (λ after. rows_alone sched before (n + 1) after rows none)
    ∙ ap (going_on (λ after. after_rows sched (n + 1) after rows)) (row_alone sched before n asked row none)

pub onto_nothing : OntoNothing
onto_nothing sched bytes =
    rows_alone sched nothing_before 1 (asked_on nothing_before) (rows_in bytes) (record { townships = refl; names = refl })
