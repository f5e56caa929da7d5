-- What the rows of an office ask for on top of what stands.
use Rattle.std.proofs.Common.{◌≡◌, ◌+◌, ◌==◌, ◌&&◌, refl, subst, ℕ, List, [], ◌∷◌, Bool, true, false, cond, length, nat_le}
use Rattle.std.{proofs.{Common.{Option, None, Some, Result, Ok}, lemmas.List.Elements.{All-nil}}, specs.{List.{list_all}, Str.{is_utf8}}}
use Rattle.title_plan.specs.{declared.{fault.ScriptFault.{ScriptFault}, row.Row.{Row}}, Asked.{Asked}, Lands.{land_in}, Limits.{most_rows}}
use Rattle.title_plan.specs.Onto.{Before, after_row_onto, after_rows_onto, after_understood_onto, asked_on, is_party_of, is_township_of}
use Rattle.title_plan.specs.Plans.{after_township, rows_in, with_party}
use Rattle.title_plan.specs.declared.line.Schedule.TheVariants as schedule
use Rattle.title_plan.specs.declared.row.Row.TheVariants as row
use Rattle.title_dealing.{specs.Turns.{IsAskedBy, IsOffice, OfficesKeepTurnsOnto}, proofs.FromOne.{FromOne, Has, found_low}}
use Rattle.title_dealing.proofs.TurnsKept.{kept_party, kept_step, kept_township, same_ok, went_on}

-- a declaration is passed over, or it is made
either : {P : Type 0} (b : Bool) (asked next : Asked) (r : Result Asked ScriptFault) → (asked ≡ next → P) → (r ≡ Ok next → P)
    → cond b (Ok asked) r ≡ Ok next → P
either true asked next r over made is = over (same_ok asked next is)
either false asked next r over made is = made is

stays_office : (number : ℕ) (asked next : Asked) → IsOffice number asked → asked ≡ next → IsOffice number next
stays_office number asked next h is = subst (λ (a : Asked). IsOffice number a) is h

onto_found : (number n : ℕ) (before : Before) (asked next : Asked) (found : Option (Row (List ℕ))) → Has FromOne found
    → IsOffice number asked → after_understood_onto (schedule.Office number) before n asked found ≡ Ok next → IsOffice number next
onto_found number n before asked next None low h is = absurd (cc is)
onto_found number n before asked next (Some (row.Township text)) low h is =
    either (length asked.lines == 0 && is_township_of before (land_in text)) asked next (after_township n asked (land_in text))
    (stays_office number asked next h) (kept_township number n asked next (land_in text) h) is
onto_found number n before asked next (Some (row.Party name)) low h is =
    either (length asked.lines == 0 && is_party_of before name) asked next (with_party n asked name)
    (stays_office number asked next h) (kept_party number n asked next name h) is
onto_found number n before asked next (Some (row.Step e a)) low h is = kept_step number n asked next e a h low.has is

onto_row : (number n : ℕ) (before : Before) (asked next : Asked) (fields : List (List ℕ)) → IsOffice number asked
    → after_row_onto (schedule.Office number) before n asked fields ≡ Ok next → IsOffice number next
onto_row number n before asked next fields h is =
    onto_found number n before asked next _ (found_low (nat_le n most_rows && list_all is_utf8 fields) fields) h is

onto_rows : (number n : ℕ) (before : Before) (asked next : Asked) (rows : List (List (List ℕ))) → IsOffice number asked
    → after_rows_onto (schedule.Office number) before n asked rows ≡ Ok next → IsOffice number next
onto_rows number n before asked next [] h is = stays_office number asked next h (same_ok asked next is)
onto_rows number n before asked next (row ∷ rows) h is =
    went_on (λ after. after_rows_onto (schedule.Office number) before (n + 1) after rows) next
    (after_row_onto (schedule.Office number) before n asked row)
    (λ after one more. onto_rows number (n + 1) before after next rows (onto_row number n before asked after row h one) more) is

nothing_on : (number : ℕ) (before : Before) → IsOffice number (asked_on before)
nothing_on number before = record { examiners = All-nil (IsAskedBy number); turns = λ e. refl }

pub office_kept_onto : OfficesKeepTurnsOnto
office_kept_onto number before bytes asked is =
    onto_rows number 1 before (asked_on before) asked (rows_in bytes) (nothing_on number before) is
