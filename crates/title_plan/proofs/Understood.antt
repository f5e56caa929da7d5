-- Rows that are understood, and rows that are not.
use Rattle.std.{proofs.Common.{◌≡◌, ◌≤◌, refl, ℕ, List, true, Option, Err, nat_le, arith, inl, inr}, specs.{List.{list_all}, Str.{is_utf8}}}
use Rattle.std.proofs.lemmas.Bool.{and_right, cases_Bool, Decides.{nat_tests}}
use Rattle.csv.specs.Records.{AllText}
use Rattle.title_plan.specs.declared.fault.ScriptFault.TheVariants as fault
use Rattle.title_plan.specs.{declared.{line.Schedule.{Schedule}, row.Row.{Row}}, Asked.{Asked}, Limits.{most_rows}, Rows.{row_in}}
use Rattle.title_plan.specs.{Onto.{Before, after_row_onto, after_understood_onto}, Laws.Names.{texts_true}}

-- a row that isn't text
pub not_text : (schedule : Schedule) (before : Before) (n : ℕ) (asked : Asked) (fields : List (List ℕ))
    → (list_all is_utf8 fields ≡ true → ⊥) → after_row_onto schedule before n asked fields ≡ Err (fault.Row n)
not_text schedule before n asked fields h = elim (cases_Bool (list_all is_utf8 fields)) [
  | inl text ↦ absurd (h text)
  | inr other ↦ rw (and_right (nat_le n most_rows) (list_all is_utf8 fields) other) refl
]

-- a row that is
pub is_text : (schedule : Schedule) (before : Before) (n : ℕ) (asked : Asked) (fields : List (List ℕ)) (found : Option (Row (List ℕ)))
    → n ≤ most_rows → AllText fields → row_in fields ≡ found
    → after_row_onto schedule before n asked fields ≡ after_understood_onto schedule before n asked found
is_text schedule before n asked fields found within text is =
    let first : nat_le n most_rows ≡ true = grind (arith, nat_tests) in
    rw (first, texts_true fields text, is) refl
