-- Laws of the depth of plots, for squares with any number of levels.
use Rattle.std.specs.Prelude.{◌≡◌, ℕ, ◌+◌, ◌≤◌, true, List, length}
use Rattle.title_share.specs.Division.{Division}
use Rattle.title_land.specs.declared.rectangle.Quarter.{Quarter}
use Rattle.title_tree.specs.Plots.{Plot, plot_at, graft, split, changed, tidied, tidied_all, fits}

-- a plot that fits the levels below a path may stand there
abbrev pub GraftFits : Type 0
GraftFits = (levels n : ℕ) (p : List Quarter) (new t : Plot) → levels ≡ length p + n → fits levels t ≡ true → fits n new ≡ true
    → fits levels (graft p new t) ≡ true

-- what stands at a path fits the levels below it
abbrev pub PlotAtFits : Type 0
PlotAtFits = (levels n : ℕ) (p : List Quarter) (t : Plot) → levels ≡ length p + n → fits levels t ≡ true → fits n (plot_at p t) ≡ true

-- quartering down to a path goes no deeper than the path
abbrev pub SplitFits : Type 0
SplitFits = (levels : ℕ) (p : List Quarter) (t : Plot) → length p ≤ levels → fits levels t ≡ true → fits levels (split p t) ≡ true

-- a change goes no deeper
abbrev pub ChangedFits : Type 0
ChangedFits = (levels : ℕ) (change : Division → Division) (t : Plot) → fits levels t ≡ true → fits levels (changed change t) ≡ true

-- joining leaves goes no deeper
abbrev pub TidiedFits : Type 0
TidiedFits = (levels : ℕ) (t : Plot) → fits levels t ≡ true → fits levels (tidied t) ≡ true

-- joining leaves at some paths and above them goes no deeper
abbrev pub TidiedAllFits : Type 0
TidiedAllFits = (levels : ℕ) (ps : List (List Quarter)) (t : Plot) → fits levels t ≡ true → fits levels (tidied_all ps t) ≡ true
