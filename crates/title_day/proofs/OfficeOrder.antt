-- The seats of an office and the scripts dealt for it are of the same examiners, in order, and have the transactions asked for.
use Rattle.std.proofs.Common.{◌≡◌, ◌∙◌, ◌+◌, ℕ, zero, suc, List, [], ◌∷◌, ◌++◌, length, map, refl, sym, ap, ap₂, arith}
use Rattle.title_plan.specs.declared.line.Line.{Line}
use Rattle.title_turns.specs.{declared.script.Script.{Script}, Dealt.{Dealt, told_by}}
use Rattle.title_office.specs.{Offices.{SeatState, opening_seats}, Workers.{examiners_of, seat_examiners}}
use Rattle.title_dealing.specs.Dealing.{AreDealt}
use Rattle.title_day.specs.OfficeRecords.{scripts_in}

-- so many numbers from one on
abbrev numbers_from : ℕ → ℕ → List ℕ
numbers_from e zero = []
numbers_from e (suc k) = e ∷ numbers_from (suc e) k

-- one number more stands at the end
number_more : (k e : ℕ) → numbers_from e (suc k) ≡ numbers_from e k ++ (e + k) ∷ []
number_more zero e = ap (λ (n : ℕ). n ∷ []) (omega arith)
number_more (suc k) e =
    ap (λ (ns : List ℕ). e ∷ ns)
    (number_more k (suc e) ∙ ap (λ (n : ℕ). numbers_from (suc e) k ++ n ∷ []) (omega arith))

examiners_added : (seats : List SeatState) (s : SeatState) → seat_examiners (seats ++ s ∷ []) ≡ seat_examiners seats ++ s.examiner ∷ []
examiners_added [] s = refl
examiners_added (t ∷ seats) s = ap (λ (ns : List ℕ). t.examiner ∷ ns) (examiners_added seats s)

-- the seats of an office that is opened are those of the examiners from 1 on
seats_in_order : (number k : ℕ) → seat_examiners (opening_seats number k) ≡ numbers_from 1 k
seats_in_order number zero = refl
seats_in_order number (suc k) =
    examiners_added (opening_seats number k) _
    ∙ ap (λ (ns : List ℕ). ns ++ suc k ∷ []) (seats_in_order number k)
    ∙ ap (λ (n : ℕ). numbers_from 1 k ++ n ∷ []) (omega arith)
    ∙ sym (number_more k 1)

-- the scripts that are dealt from an examiner on are of the examiners from it on
scripts_in_order : (lines : List Line) (e : ℕ) (scripts : List Script) → AreDealt lines e scripts →
    examiners_of scripts ≡ numbers_from e (length scripts)
scripts_in_order lines e [] dealt = refl
scripts_in_order lines e (s ∷ scripts) dealt =
    ap₂ (λ (n : ℕ) (ns : List ℕ). n ∷ ns) dealt.0.0 (scripts_in_order lines (suc e) scripts dealt.1)

-- the seats and the scripts of so many examiners fit
pub seats_fit : (lines : List Line) (scripts : List Script) (number k : ℕ) → length scripts ≡ k → AreDealt lines 1 scripts →
    seat_examiners (opening_seats number k) ≡ examiners_of scripts
seats_fit lines scripts number k many dealt =
    seats_in_order number k ∙ ap (numbers_from 1) (sym many) ∙ sym (scripts_in_order lines 1 scripts dealt)

-- the scripts that are dealt from an examiner on have the transactions that are asked for
asked_from : (lines : List Line) (e : ℕ) (scripts : List Script) → AreDealt lines e scripts →
    map told_by scripts ≡ scripts_in lines e (length scripts)
asked_from lines e [] dealt = refl
asked_from lines e (s ∷ scripts) dealt =
    ap₂ (λ (own : ℕ × List Dealt) (rest : List (ℕ × List Dealt)). own ∷ rest)
    (ap₂ (λ (n : ℕ) (ts : List Dealt). (n, ts)) dealt.0.0 dealt.0.1)
    (asked_from lines (suc e) scripts dealt.1)

pub scripts_asked : (lines : List Line) (scripts : List Script) (number : ℕ) → length scripts ≡ number → AreDealt lines 1 scripts →
    map told_by scripts ≡ scripts_in lines 1 number
scripts_asked lines scripts number many dealt = asked_from lines 1 scripts dealt ∙ ap (scripts_in lines 1) many
