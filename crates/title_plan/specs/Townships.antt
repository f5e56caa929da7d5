-- Lists of townships.
use Rattle.std.specs.{Prelude.{◌&&◌, ◌||◌, not, Bool, true, List, [], ◌∷◌, length, nat_le}, List.{list_any}}
use Rattle.title_land.specs.{declared.survey.Township.{Township}, Survey.{same_township}}
use Rattle.title_trace.specs.Due.{most_townships}

-- no township stands twice, as a test
abbrev pub each_once : List Township → Bool
each_once [] = true
each_once (t ∷ townships) = not (list_any (same_township t) townships) && each_once townships

-- a township is refused: as many are declared as may be, or it is one of them
abbrev pub is_refused : List Township → Township → Bool
is_refused townships t = nat_le most_townships (length townships) || list_any (λ other. same_township other t) townships
