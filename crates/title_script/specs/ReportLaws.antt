-- The law of reports.
use Rattle.std.specs.Prelude.{◌≡◌, ℕ, List, [], ◌∷◌, ◌++◌}
use Rattle.title_trace.specs.{declared.call.Call.{Call}, Due.{Setting}}
use Rattle.title_plan.specs.declared.line.Line.{Line}
use Rattle.title_script.specs.Served.{after_line, due_rows}

-- the trace after step rows
abbrev pub after_lines : Setting → List Call → List Line → List Call
after_lines setting before [] = before
after_lines setting before (l ∷ lines) = after_lines setting (after_line setting before l) lines

-- a script's rows stand in order: those of its first steps, whatever follows them, and then those of the rest
abbrev pub RowsInOrder : Type 0
RowsInOrder =
    (setting : Setting) (names : List (List ℕ)) (before : List Call) (lines more : List Line) →
    due_rows setting names before (lines ++ more)
    ≡ due_rows setting names before lines ++ due_rows setting names (after_lines setting before lines) more
