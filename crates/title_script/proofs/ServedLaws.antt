-- The rows of step rows one after another.
use Rattle.std.proofs.{Common.{◌≡◌, ◌∙◌, ℕ, List, [], ◌∷◌, ◌++◌, length, refl, sym, ap, ap₂, subst}, lemmas.List.{append-nil, append_assoc}}
use Rattle.std.specs.List.{flat_map}
use Rattle.title_trace.specs.{declared.call.Call.{Call}, Due.{Setting}}
use Rattle.title_plan.specs.{Asked.{Asked}, declared.line.Line.{Line}}
use Rattle.title_plan.specs.declared.line.Line.TheVariants as line
use Rattle.title_script.specs.{declared.told.Told.{Told}, Served.{after_line, due_rows, line_rows}, ReportLaws.{after_lines}}
use Rattle.title_script.specs.{Told.{all_due_told, due_told, told_rows}, Reports.{report_on, report_onto, setting_of}}
use Rattle.title_page.specs.Rows.{row, rows_text}
use Rattle.title_report.specs.Replies.{end_row}

pub rows_in_order : (setting : Setting) (names : List (List ℕ)) (before : List Call) (lines more : List Line) →
    due_rows setting names before (lines ++ more)
    ≡ due_rows setting names before lines ++ due_rows setting names (after_lines setting before lines) more
rows_in_order setting names before [] more = refl
rows_in_order setting names before (l ∷ lines) more =
    ap (λ (rows : List (List (List ℕ))). line_rows setting names before l ++ rows)
    (rows_in_order setting names (after_line setting before l) lines more)
    ∙ sym (append_assoc (line_rows setting names before l) _ _)

-- what came of the steps so far, and what comes of those that are left
abbrev pub and_rest : Setting → List Told → List Call → List Line → List Told
and_rest setting done before lines = done ++ all_due_told setting before lines

-- a step that is served from the front owes no more
pub rest_served : (setting : Setting) (done : List Told) (before : List Call) (l : Line) (lines : List Line) →
    and_rest setting (done ++ due_told setting before l ∷ []) (after_line setting before l) lines
    ≡ and_rest setting done before (l ∷ lines)
rest_served setting done before l lines = append_assoc done (due_told setting before l ∷ []) _

-- no step being left, what came so far is all
pub none_left : (setting : Setting) (done all : List Told) (before : List Call) (lines : List Line) →
    lines ≡ [] → and_rest setting done before lines ≡ all → done ≡ all
none_left setting done all before lines none owed =
    sym (append-nil done) ∙ subst (λ (left : List Line). and_rest setting done before left ≡ all) none owed

-- what comes of a step row has its rows
line_told : (setting : Setting) (names : List (List ℕ)) (before : List Call) (l : Line) →
    told_rows names (due_told setting before l) ≡ line_rows setting names before l
line_told setting names before (line.Asks q) = refl
line_told setting names before (line.Alone e a) = refl
line_told setting names before (line.Described e why) = refl

-- and so has what comes of all
pub all_told : (setting : Setting) (names : List (List ℕ)) (before : List Call) (lines : List Line) →
    flat_map (told_rows names) (all_due_told setting before lines) ≡ due_rows setting names before lines
all_told setting names before [] = refl
all_told setting names before (l ∷ lines) =
    ap₂ (λ (rows more : List (List (List ℕ))). rows ++ more) (line_told setting names before l)
    (all_told setting names (after_line setting before l) lines)

-- so the text of what came of a script's steps on top of a trace is its report there
pub served_onto : (names : List (List ℕ)) (lines : List Line) (setting : Setting) (before : List Call)
    (told : List Told) (steps : ℕ) → told ≡ all_due_told setting before lines → steps ≡ length lines →
    rows_text (flat_map (told_rows names) told) ++ row (end_row steps)
    ≡ rows_text (due_rows setting names before lines) ++ row (end_row (length lines))
served_onto names lines setting before told steps all count =
    ap₂ (λ (rows : List (List (List ℕ))) (n : ℕ). rows_text rows ++ row (end_row n))
    (ap (λ (ts : List Told). flat_map (told_rows names) ts) all ∙ all_told setting names before lines)
    count

-- and on an empty trace, at the desk that it asks, that is the report of the script
pub reports_alike : (asked : Asked) (setting : Setting) (before : List Call) → setting ≡ setting_of asked → before ≡ [] →
    report_onto setting before asked ≡ report_on asked
reports_alike asked setting before same none = ap₂ (λ (s : Setting) (b : List Call). report_onto s b asked) same none
