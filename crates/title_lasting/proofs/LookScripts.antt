-- A script whose rows only look declares no township.
use Rattle.std.proofs.Common.{◌≡◌, ◌∙◌, ◌+◌, ◌∷◌, ◌&&◌, [], refl, sym, ap, ℕ, zero, suc, Bool, true, false, List, cond, take, nat_le, arith}
use Rattle.std.{proofs.{Common.{Option, Some, None, Result, Ok, Err}, lemmas.Bool.{false≢true, Decides.{nat_tests}}}, specs.List.{list_all}}
use Rattle.std.specs.Str.{is_utf8}
use Rattle.title_land.specs.declared.survey.Township.{Township}
use Rattle.title_aliquot.specs.declared.fault.DescFault.{DescFault}
use Rattle.title_chain.specs.declared.ask.Ask.{Ask}
use Rattle.title_chain.specs.declared.ask.Ask.TheVariants as ask
use Rattle.title_trace.specs.declared.call.Request.TheVariants as request
use Rattle.title_plan.specs.{declared.{fault.ScriptFault.{ScriptFault}, line.Line.{Line}, row.{Act.{Act}, Row.{Row}}}, Asked.{Asked}}
use Rattle.title_plan.specs.{Lands.{land_in}, Limits.{most_rows}, Plans.{with_begun, with_ended, with_line}, Rows.{row_in}}
use Rattle.title_plan.specs.Onto.{Before, after_row_onto, after_rows_onto, after_said_onto, after_understood_onto, asked_on, script_onto}
use Rattle.title_plan.specs.Plans.{after_act, after_asked, asked_of, going_on, is_out_of_turn, line_of, rows_in, stands_alone}
use Rattle.title_plan.specs.declared.fault.ScriptFault.TheVariants as fault
use Rattle.title_plan.specs.declared.line.Line.TheVariants as line
use Rattle.title_plan.specs.declared.line.Schedule.TheVariants as schedule
use Rattle.title_plan.specs.declared.row.Act.TheVariants as act
use Rattle.title_plan.specs.declared.row.Row.TheVariants as row
use Rattle.title_lasting.specs.LookRows.{first_other, is_look, looks_if, only_looks, other_in, says_look}

-- ---- a row

-- the townships of what is asked for
abbrev townships_or : Result Asked ScriptFault → List Township
townships_or (Ok asked) = asked.townships
townships_or (Err e) = []

-- a step adds none
one_more_line : (asked after : Asked) (l : Line) (inside : List ℕ)
    → ◌≡◌ {A = Result Asked ScriptFault} (Ok (with_line asked l inside)) (Ok after) → after.townships ≡ asked.townships
one_more_line asked after l inside h = sym (ap townships_or h)

-- a step that is asked for is in its turn
in_turn : (b : Bool) (n : ℕ) (r : Result Asked ScriptFault) (after : Asked) → cond b (Err (fault.Order n)) r ≡ Ok after → r ≡ Ok after
in_turn true n r after h = absurd (cc h)
in_turn false n r after h = h

step_asks : (n : ℕ) (asked after : Asked) (e : ℕ) (asks : Result Ask DescFault) → after_asked schedule.Serial n asked e asks ≡ Ok after
    → after.townships ≡ asked.townships
step_asks n asked after e asks h =
    one_more_line asked after (line_of (stands_alone schedule.Serial asked.inside) e asks) asked.inside h

act_keeps : (n : ℕ) (asked after : Asked) (e : ℕ) (a : Act (List ℕ)) → only_looks a ≡ true
    → after_act schedule.Serial n asked e a ≡ Ok after → after.townships ≡ asked.townships
act_keeps n asked after e act.Begin looks h =
    one_more_line asked after (line.Asks (request.Begin e)) (with_begun schedule.Serial asked.inside e) h
act_keeps n asked after e act.Commit looks h = absurd (false≢true looks)
act_keeps n asked after e act.Abort looks h =
    one_more_line asked after (line.Asks (request.Abort e)) (with_ended asked.inside e) h
act_keeps n asked after e (act.Sheet text) looks h = step_asks n asked after e (asked_of ask.Sheet (land_in text)) h
act_keeps n asked after e (act.Chain text) looks h = step_asks n asked after e (asked_of ask.Chain (land_in text)) h
act_keeps n asked after e (act.Post doc instrument text) looks h = absurd (false≢true looks)

said_keeps : (before : Before) (n : ℕ) (asked after : Asked) (said : Row (List ℕ)) → says_look said ≡ true
    → after_said_onto schedule.Serial before n asked said ≡ Ok after → after.townships ≡ asked.townships
said_keeps before n asked after (row.Township text) looks h = absurd (false≢true looks)
said_keeps before n asked after (row.Party name) looks h = absurd (false≢true looks)
said_keeps before n asked after (row.Step e a) looks h =
    act_keeps n asked after e a looks
    (in_turn (is_out_of_turn schedule.Serial asked.inside e a) n (after_act schedule.Serial n asked e a) after h)

-- one that is understood is understood among fewer rows too
row_keeps : (before : Before) (n : ℕ) (asked after : Asked) (fields : List (List ℕ)) → is_look fields ≡ true
    → after_row_onto schedule.Serial before n asked fields ≡ Ok after → after.townships ≡ asked.townships
row_keeps before n asked after fields looks h =
    go (nat_le n most_rows) (nat_le 1 most_rows) (list_all is_utf8 fields) (row_in fields) looks h
  where
    go : (few some text : Bool) (found : Option (Row (List ℕ))) → looks_if (cond (some && text) found None) ≡ true
        → after_understood_onto schedule.Serial before n asked (cond (few && text) found None) ≡ Ok after
        → after.townships ≡ asked.townships
    go few false text found looks h = absurd (false≢true looks)
    go few true false found looks h = absurd (false≢true looks)
    go false true true found looks h = absurd (cc h)
    go true true true None looks h = absurd (false≢true looks)
    go true true true (Some said) looks h = said_keeps before n asked after said looks h

-- ---- rows one after another

-- where no row is another, the first isn't
looks_first : (b : Bool) (o : Option ℕ) (n : ℕ) → cond b o (Some n) ≡ None → (b ≡ true) × (o ≡ None)
looks_first true o n h = (refl, h)
looks_first false o n h = absurd (cc h)

-- what rows ask for, their first asks for
goes_first : (f : Asked → Result Asked ScriptFault) (r : Result Asked ScriptFault) (after : Asked) → going_on f r ≡ Ok after
    → (mid : Asked) × (r ≡ Ok mid) × (f mid ≡ Ok after)
goes_first f (Ok mid) after h = (mid, refl, h)
goes_first f (Err e) after h = absurd (cc h)

rows_keep : (before : Before) (n m k : ℕ) (asked after : Asked) (rows : List (List (List ℕ))) → first_other m (take k rows) ≡ None
    → after_rows_onto schedule.Serial before n asked rows ≡ Ok after → n + k ≡ most_rows + 1 → after.townships ≡ asked.townships
rows_keep before n m k asked after [] none h size = sym (ap townships_or h)
rows_keep before n m zero asked after (fields ∷ rows) none h size =
    let far : nat_le n most_rows ≡ false = grind (arith, nat_tests) in
    let bad = rw far at h in
    absurd (cc bad)
rows_keep before n m (suc k) asked after (fields ∷ rows) none h size =
    let first = looks_first (is_look fields) (first_other (m + 1) (take k rows)) m none in
    let goes = goes_first (λ mid. after_rows_onto schedule.Serial before (n + 1) mid rows)
    (after_row_onto schedule.Serial before n asked fields) after h in
    rows_keep before (n + 1) (m + 1) k goes.0 after rows first.1 goes.2 (omega (arith, size))
    ∙ row_keeps before n asked goes.0 fields first.0 goes.1

-- so a script of looks has the townships that stood
pub declares_none : (before : Before) (script : List ℕ) (asked : Asked) → other_in script ≡ None
    → script_onto schedule.Serial before script ≡ Ok asked → asked.townships ≡ before.townships
declares_none before script asked none h =
    rows_keep before 1 1 most_rows (asked_on before) asked (rows_in script) none h (omega arith)
