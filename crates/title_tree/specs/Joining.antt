-- Plots of which no four quarters that are leaves have the same division, but where they were written.
use Rattle.std.specs.Prelude.{◌≡◌, true, false, List}
use Rattle.title_land.specs.{declared.rectangle.Quarter.{Quarter}, Laws.Members.{In}}
use Rattle.title_tree.specs.{Joins.{is_joinable}, Plots.{Plot, plot_at, is_tidy, tidied, tidied_all}, Pieces.{Apart, StaysElsewhere}}

-- the path is apart from each path of each of the lists
abbrev pub ApartFromAll : List Quarter → List (List (List Quarter)) → Type 0
ApartFromAll q puts = (ps : List (List Quarter)) → In ps puts → Apart q ps

-- no node has four quarters that are leaves of the same division, but where a path of the lists leads to it, from it or past it
abbrev pub JoinedBut : List (List (List Quarter)) → Plot → Type 0
JoinedBut puts t = (q : List Quarter) → ApartFromAll q puts → is_joinable (plot_at q t) ≡ false

-- a tidied plot is tidy
abbrev pub TidiedIsTidy : Type 0
TidiedIsTidy = (t : Plot) → is_tidy (tidied t) ≡ true

-- a tidy plot that was changed at some paths alone is tidy again once it is tidied there
abbrev pub TidiedWhereWritten : Type 0
TidiedWhereWritten = (ps : List (List Quarter)) (t u : Plot) → is_tidy t ≡ true → StaysElsewhere ps t u → is_tidy (tidied_all ps u) ≡ true
