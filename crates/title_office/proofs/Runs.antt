-- Scripts that workers have run, one after another.
use Rattle.std.proofs.Common.{◌≡◌, ◌∙◌, List, [], ◌∷◌, ◌++◌, ℕ, map, All, Option, Some, None, IfSome, refl, subst, sym, ap, arith}
use Rattle.std.proofs.lemmas.List.{map-append, Elements.{All-cons}}
use Rattle.title_trace.specs.Due.{Setting}
use Rattle.title_turns.specs.{declared.script.Script.{Script}, Dealt.{dealt_in, told_by}}
use Rattle.title_office.specs.{declared.fault.Fault.{Fault}, Offices.{SeatState}, Transactions.{AreRunsOf}}
use Rattle.title_office.specs.{Turns.{EndsWorker, Report, HasRun, HaveRun}, Workers.{AreCounted, examiners_of}}
use Rattle.title_office.proofs.Outcomes.{run_nothing}
use Rattle.title_office.specs.declared.fault.Fault.TheVariants as fault

-- one script more
pub run_more : (setting : Setting) (scripts : List Script) (reports : List Report) (script : Script) (r : Report)
    → HaveRun setting scripts reports → HasRun setting script r → HaveRun setting (scripts ++ script ∷ []) (reports ++ r ∷ [])
run_more setting [] [] script r h one = (one, tt)
run_more setting [] (q ∷ qs) script r h one = absurd h
run_more setting (s ∷ ss) [] script r h one = absurd h
run_more setting (s ∷ ss) (q ∷ qs) script r h one = (h.0, run_more setting ss qs script r h.1 one)

-- one script more, where the reports are read off other items
pub run_last : {T : Type 0} (setting : Setting) (f : T → Report) (scripts all : List Script) (script own : Script)
    (items whole : List T) (w : T) → HaveRun setting scripts (map f items) → HasRun setting own (f w) → own ≡ script
    → all ≡ scripts ++ script ∷ [] → whole ≡ items ++ w ∷ [] → HaveRun setting all (map f whole)
run_last setting f scripts all script own items whole w before one same all_is whole_is =
    let more = run_more setting scripts (map f items) script (f w) before (subst (λ (s : Script). HasRun setting s (f w)) same one) in
    let read = sym (map-append f items (w ∷ [])) ∙ ap (map f) (sym whole_is) in
    let here = subst (λ (reports : List Report). HaveRun setting (scripts ++ script ∷ []) reports) read more in
    subst (λ (list : List Script). HaveRun setting list (map f whole)) (sym all_is) here

-- where no thread was started, nothing came of the script
pub unstarted : (setting : Setting) (script : Script) (r : Report) → r.examiner ≡ script.examiner → r.seat ≡ None
    → r.ended.fault ≡ Some fault.NoThread → r.ended.outcomes ≡ [] → HasRun setting script r
unstarted setting script r own seat why none = (
  own,
  subst (λ (s : Option SeatState). IfSome s (λ s. s.examiner ≡ script.examiner)) (sym seat) tt,
  subst (λ (f : Option Fault). IfSome f EndsWorker) (sym why) tt,
  λ fine. absurd (cc (why, fine)),
  λ fine. absurd (cc (why, fine)),
  run_nothing setting script.examiner (map dealt_in script.transactions.items) r.ended.outcomes none,
)

-- the reports are for the examiners of their scripts
pub run_examiners : {T : Type 0} (setting : Setting) (f : T → Report) (scripts : List Script) (items : List T)
    → HaveRun setting scripts (map f items) → map (λ w. (f w).examiner) items ≡ examiners_of scripts
run_examiners setting f [] [] h = refl
run_examiners setting f [] (w ∷ ws) h = absurd h
run_examiners setting f (s ∷ ss) [] h = absurd h
run_examiners setting f (s ∷ ss) (w ∷ ws) h =
    let head : (f w).examiner ≡ s.examiner = h.0.0 in let rest = run_examiners setting f ss ws h.1 in
    ap (λ (e : ℕ). e ∷ map (λ v. (f v).examiner) ws) head ∙ ap (λ (es : List ℕ). s.examiner ∷ es) rest

-- what came of the scripts is counted
pub run_counted : {T : Type 0} (setting : Setting) (f : T → Report) (scripts : List Script) (items : List T)
    → HaveRun setting scripts (map f items) → AreCounted scripts (map (λ w. (f w).ended) items)
run_counted setting f [] [] h = tt
run_counted setting f [] (w ∷ ws) h = absurd h
run_counted setting f (s ∷ ss) [] h = absurd h
run_counted setting f (s ∷ ss) (w ∷ ws) h = (h.0.3, run_counted setting f ss ws h.1)

-- and its outcomes are those of the scripts' transactions
pub run_transactions : {T : Type 0} (setting : Setting) (f : T → Report) (scripts : List Script) (items : List T)
    → HaveRun setting scripts (map f items) → AreRunsOf setting (map told_by scripts) (map (λ w. (f w).ended.outcomes) items)
run_transactions setting f [] [] h = tt
run_transactions setting f [] (w ∷ ws) h = absurd h
run_transactions setting f (s ∷ ss) [] h = absurd h
run_transactions setting f (s ∷ ss) (w ∷ ws) h = (h.0.5, run_transactions setting f ss ws h.1)

-- what holds of each item whose script is run holds of all of them
pub run_each : {T : Type 0} (setting : Setting) (f : T → Report) (P : T → Type 0) (scripts : List Script) (items : List T)
    → ((script : Script) (w : T) → HasRun setting script (f w) → P w) → HaveRun setting scripts (map f items) → All P items
run_each setting f P [] [] each h = λ k d below. absurd (omega arith)
run_each setting f P [] (w ∷ ws) each h = absurd h
run_each setting f P (s ∷ ss) [] each h = absurd h
run_each setting f P (s ∷ ss) (w ∷ ws) each h = All-cons P w ws (each s w h.0) (run_each setting f P ss ws each h.1)

-- a seat is that of the examiner who is reported
pub own_seat : (setting : Setting) (script : Script) (r : Report) → HasRun setting script r
    → IfSome r.seat (λ s. s.examiner ≡ r.examiner)
own_seat setting script r h = subst (λ (e : ℕ). IfSome r.seat (λ s. s.examiner ≡ e)) (sym h.0) h.1
