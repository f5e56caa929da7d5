-- What a row of an office asks for.
use Rattle.std.proofs.Common.{◌≡◌, ◌≤◌, ◌∙◌, sym, ap, refl, ℕ, List, [], ◌∷◌, Bool, true, false, not, cond, ◌==◌, ◌||◌}
use Rattle.std.{proofs.Common.{Option, None, Some, Result, Ok, Err, nat_le, nat_lt, length, subst, arith}, specs.List.{list_any}}
use Rattle.std.{specs.Str.{bytes_eq}, proofs.lemmas.{Bool.Decides.{nat_tests}, List.{Elements.{All-push}, Sums.{fold-append}}}}
use Rattle.title_land.specs.{declared.{survey.Township.{Township}, tract.Land.{Land}}, Survey.{same_township}}
use Rattle.title_land.specs.declared.tract.Land.TheVariants as land
use Rattle.title_aliquot.specs.declared.fault.DescFault.{DescFault}
use Rattle.title_instrument.specs.declared.instrument.Instrument.{Instrument}
use Rattle.title_chain.specs.{Alone.{most_parties}, declared.ask.Ask.{Ask}}
use Rattle.title_chain.specs.declared.ask.Ask.TheVariants as ask
use Rattle.title_trace.specs.{Due.{most_townships}, Trace.{examiner_of}, declared.call.Request.{Request}}
use Rattle.title_trace.specs.declared.call.Request.TheVariants as request
use Rattle.title_plan.specs.{declared.{fault.ScriptFault.{ScriptFault}, row.Act.{Act}}, Asked.{Asked}, Lands.{land_in}}
use Rattle.title_plan.specs.Plans.{after_act, after_asked, after_post, after_step_row, after_township, asked_of, going_on, is_inside}
use Rattle.title_plan.specs.Plans.{is_out_of_turn, numbered, post, with_begun, with_ended, with_line, with_party}
use Rattle.title_plan.specs.declared.fault.ScriptFault.TheVariants as fault
use Rattle.title_plan.specs.declared.line.Line.TheVariants as line
use Rattle.title_plan.specs.declared.line.Schedule.TheVariants as schedule
use Rattle.title_plan.specs.declared.row.Act.TheVariants as act
use Rattle.title_dealing.{specs.Turns.{IsAskedBy, IsOffice, turn_on}, proofs.TurnsOfOne.{begun, ended, stays, turned}}

-- ---- tests that a result has passed

passed : (b : Bool) (f : ScriptFault) (r : Result Asked ScriptFault) (x : Asked) → cond b (Err f) r ≡ Ok x → (b ≡ false) × (r ≡ Ok x)
passed true f r x h = absurd (cc h)
passed false f r x h = (refl, h)

passed_else : (b : Bool) (f : ScriptFault) (r : Result Asked ScriptFault) (x : Asked) → cond b r (Err f) ≡ Ok x → r ≡ Ok x
passed_else true f r x h = h
passed_else false f r x h = absurd (cc h)

abbrev got : Asked → Result Asked ScriptFault
got x = Ok x

pub same_ok : (x y : Asked) → got x ≡ got y → x ≡ y
same_ok x y h = cc h

not_false : (b : Bool) → not b ≡ false → b ≡ true
not_false true h = refl
not_false false h = absurd (cc h)

-- ---- steps

-- one request more, in its examiner's turn
pushed : (number : ℕ) (asked next : Asked) (q : Request) (inside : List ℕ) → IsOffice number asked → 1 ≤ examiner_of q
    → examiner_of q ≤ number → ((e : ℕ) → turn_on e (Some (is_inside asked.inside e)) (line.Asks q) ≡ Some (is_inside inside e))
    → got (with_line asked (line.Asks q) inside) ≡ got next → IsOffice number next
pushed number asked next q inside h low high turn is =
    subst (λ (a : Asked). IsOffice number a) (same_ok _ next is) (record {
      examiners = All-push (IsAskedBy number) asked.lines (line.Asks q) h.examiners (low, high);
      turns = λ e. fold-append (turn_on e) (Some false) asked.lines (line.Asks q ∷ [])
          ∙ ap (λ (s : Option Bool). turn_on e s (line.Asks q)) (h.turns e) ∙ turn e;
    })

to_some : (a b : Bool) → a ≡ b → Some a ≡ Some b
to_some a b e = cc e

kept_asked : (number n : ℕ) (asked next : Asked) (e : ℕ) → IsOffice number asked → 1 ≤ e → e ≤ number → is_inside asked.inside e ≡ true
    → (asks : Result Ask DescFault) → after_asked (schedule.Office number) n asked e asks ≡ Ok next → IsOffice number next
kept_asked number n asked next e h low high turn (Err why) is = absurd (cc is)
kept_asked number n asked next e h low high turn (Ok a) is =
    pushed number asked next (request.Step e a) asked.inside h low high
    (λ f. turned asked.inside (request.Step e a) true true turn refl f ∙ to_some _ _ (stays asked.inside e turn f)) is

kept_post : (number n : ℕ) (asked next : Asked) (e doc : ℕ) → IsOffice number asked → 1 ≤ e → e ≤ number → is_inside asked.inside e ≡ true
    → (instrument : Option (Instrument ℕ)) (text : List ℕ)
    → after_post (schedule.Office number) n asked e doc instrument text ≡ Ok next → IsOffice number next
kept_post number n asked next e doc h low high turn None text is = absurd (cc is)
kept_post number n asked next e doc h low high turn (Some instrument) text is =
    kept_asked number n asked next e h low high turn (asked_of (post doc instrument) (land_in text)) is

kept_act : (number n : ℕ) (asked next : Asked) (e : ℕ) (a : Act (List ℕ)) → IsOffice number asked → 1 ≤ e → e ≤ number
    → is_out_of_turn (schedule.Office number) asked.inside e a ≡ false
    → after_act (schedule.Office number) n asked e a ≡ Ok next → IsOffice number next
kept_act number n asked next e act.Begin h low high turn is =
    pushed number asked next (request.Begin e) (with_begun (schedule.Office number) asked.inside e) h low high
    (λ f. turned asked.inside (request.Begin e) false true turn refl f ∙ to_some _ _ (sym (begun number e f asked.inside))) is
kept_act number n asked next e act.Commit h low high turn is =
    pushed number asked next (request.Commit e) (with_ended asked.inside e) h low high
    (λ f. turned asked.inside (request.Commit e) true false (not_false _ turn) refl f ∙ to_some _ _ (sym (ended asked.inside e f))) is
kept_act number n asked next e act.Abort h low high turn is =
    pushed number asked next (request.Abort e) (with_ended asked.inside e) h low high
    (λ f. turned asked.inside (request.Abort e) true false (not_false _ turn) refl f ∙ to_some _ _ (sym (ended asked.inside e f))) is
kept_act number n asked next e (act.Sheet text) h low high turn is =
    kept_asked number n asked next e h low high (not_false _ turn) (asked_of ask.Sheet (land_in text)) is
kept_act number n asked next e (act.Chain text) h low high turn is =
    kept_asked number n asked next e h low high (not_false _ turn) (asked_of ask.Chain (land_in text)) is
kept_act number n asked next e (act.Post doc instrument text) h low high turn is =
    kept_post number n asked next e doc h low high (not_false _ turn) (numbered asked.names instrument) text is

within : (number e : ℕ) → nat_lt number e ≡ false → e ≤ number
within number e h = grind (arith, nat_tests)

pub kept_step : (number n : ℕ) (asked next : Asked) (e : ℕ) (a : Act (List ℕ)) → IsOffice number asked → 1 ≤ e
    → after_step_row (schedule.Office number) n asked e a ≡ Ok next → IsOffice number next
kept_step number n asked next e a h low is =
    let first = passed (nat_lt number e) (fault.Row n) _ next is in
    let second = passed (is_out_of_turn (schedule.Office number) asked.inside e a) (fault.Order n) _ next first.1 in
    kept_act number n asked next e a h low (within number e first.0) second.0 second.1

-- ---- declarations

same_steps : (number : ℕ) (asked next : Asked) (townships : List Township) (names : List (List ℕ)) → IsOffice number asked
    → got (record { townships = townships; names = names; lines = asked.lines; inside = asked.inside }) ≡ got next
    → IsOffice number next
same_steps number asked next townships names h is =
    subst (λ (a : Asked). IsOffice number a) (same_ok _ next is) (record { examiners = h.examiners; turns = h.turns })

pub kept_township : (number n : ℕ) (asked next : Asked) (found : Result Land DescFault) → IsOffice number asked
    → after_township n asked found ≡ Ok next → IsOffice number next
kept_township number n asked next (Ok (land.Township t)) h is =
    let refused = nat_le most_townships (length asked.townships) || list_any (λ other. same_township other t) asked.townships in
    let first = passed refused (fault.Row n) _ next is in
    same_steps number asked next _ _ h (passed_else (length asked.lines == 0) (fault.Order n) _ next first.1)
kept_township number n asked next (Ok land.Everything) h is = absurd (cc is)
kept_township number n asked next (Ok (land.Part s g)) h is = absurd (cc is)
kept_township number n asked next (Err why) h is = absurd (cc is)

pub kept_party : (number n : ℕ) (asked next : Asked) (name : List ℕ) → IsOffice number asked → with_party n asked name ≡ Ok next
    → IsOffice number next
kept_party number n asked next name h is =
    let first = passed (nat_le most_parties (length asked.names)) (fault.Row n) _ next is in
    let second = passed_else (length asked.lines == 0) (fault.Order n) _ next first.1 in
    let third = passed (list_any (bytes_eq name) asked.names) (fault.Party n) _ next second in
    same_steps number asked next _ _ h third.1

-- ---- rows

-- what comes after a row that isn't at fault
pub went_on : {P : Type 0} (more : Asked → Result Asked ScriptFault) (next : Asked) (r : Result Asked ScriptFault)
    → ((after : Asked) → r ≡ Ok after → more after ≡ Ok next → P) → going_on more r ≡ Ok next → P
went_on more next (Ok after) on is = on after refl is
went_on more next (Err e) on is = absurd (cc is)
