-- Laws of plots. A path of a cell has as many quarters as the square has levels; nothing here depends on how many.
use Rattle.std.specs.Prelude.{◌≡◌, ℕ, ◌≤◌, true, cond, List, [], ◌++◌, length, Some, None, Result}
use Rattle.title_share.specs.Division.{Division}
use Rattle.title_land.specs.declared.rectangle.Quarter.{Quarter}
use Rattle.title_tree.specs.{Changes.{why_of}, Paths.{begins, rest}, Plots.{tidied, tidied_all, fits}, Cells.{cell_paths, first_some}}
use Rattle.title_tree.specs.Plots.{Plot, value_at, has_path, plot_at, graft, split, changed, first_refusal, uniform}

-- after a graft the cells below the path hold what the new plot holds, and all others what they held
abbrev pub GraftShows : Type 0
GraftShows = (p : List Quarter) (new t : Plot) (c : List Quarter) → has_path p t ≡ true → length p ≤ length c
    → value_at (graft p new t) c ≡ cond (begins p c) (value_at new (rest p c)) (value_at t c)

-- the plot at a path holds what its cells hold in the whole
abbrev pub PlotAtShows : Type 0
PlotAtShows = (p : List Quarter) (t : Plot) (c : List Quarter) → begins p c ≡ true → value_at (plot_at p t) (rest p c) ≡ value_at t c

-- quartering changes no cell
abbrev pub SplitShows : Type 0
SplitShows = (p : List Quarter) (t : Plot) (c : List Quarter) → value_at (split p t) c ≡ value_at t c

-- joining leaves that hold the same changes no cell
abbrev pub TidiedShows : Type 0
TidiedShows = (t : Plot) (c : List Quarter) → value_at (tidied t) c ≡ value_at t c

-- joining leaves at some paths and above them changes no cell
abbrev pub TidiedAllShows : Type 0
TidiedAllShows = (ps : List (List Quarter)) (t : Plot) (c : List Quarter) → value_at (tidied_all ps t) c ≡ value_at t c

-- a change of the leaves is that of the cells
abbrev pub ChangedShows : Type 0
ChangedShows = (change : Division → Division) (t : Plot) (c : List Quarter) → value_at (changed change t) c ≡ change (value_at t c)

-- a uniform plot's division is that of each cell
abbrev pub UniformIsHeld : Type 0
UniformIsHeld = (t : Plot) (held : Division) → uniform t ≡ Some held → (c : List Quarter) → value_at t c ≡ held

-- a plot whose cells all have one division is uniform, however it is quartered
abbrev pub UniformIsFound : Type 0
UniformIsFound = (levels : ℕ) (t : Plot) (held : Division) → fits levels t ≡ true
    → ((c : List Quarter) → length c ≡ levels → value_at t c ≡ held) → uniform t ≡ Some held

-- the first leaf that refuses a change refuses it as the first cell that does
abbrev pub FirstLeafRefuses : Type 0 → Type 0
FirstLeafRefuses R = (effect : Division → Result Division R) (levels : ℕ) (t : Plot) → fits levels t ≡ true
    → first_refusal effect t ≡ first_some (λ c. why_of (effect (value_at t c))) (cell_paths levels)

-- where no leaf refuses a change, no cell does
abbrev pub NoneRefuses : Type 0 → Type 0
NoneRefuses R = (effect : Division → Result Division R) (t : Plot) → first_refusal effect t ≡ None
    → (c : List Quarter) → why_of (effect (value_at t c)) ≡ None

-- a plot quartered down to a path has a node there
abbrev pub SplitReaches : Type 0
SplitReaches = (p : List Quarter) (t : Plot) → has_path p (split p t) ≡ true

-- quartering keeps each node
abbrev pub SplitKeeps : Type 0
SplitKeeps = (p : List Quarter) (t : Plot) (q : List Quarter) → has_path q t ≡ true → has_path q (split p t) ≡ true

-- a graft keeps each node that doesn't lie in it, and those in it that the new plot has too
abbrev pub GraftKeeps : Type 0
GraftKeeps = (p : List Quarter) (new t : Plot) (q : List Quarter)
    → ((r : List Quarter) → q ≡ p ++ r → has_path r new ≡ true) → has_path q t ≡ true → has_path q (graft p new t) ≡ true

-- a change keeps exactly the nodes
abbrev pub ChangedKeeps : Type 0
ChangedKeeps = (change : Division → Division) (t : Plot) (q : List Quarter) → has_path q (changed change t) ≡ has_path q t

-- a node below a path is one of the plot at that path
abbrev pub NodesBelow : Type 0
NodesBelow = (p : List Quarter) (t : Plot) (r : List Quarter) → has_path (p ++ r) t ≡ true → has_path r (plot_at p t) ≡ true

-- quartering doesn't change the plot at a path that it doesn't go on below
abbrev pub SplitElsewhere : Type 0
SplitElsewhere = (p q : List Quarter) (t : Plot) → ((r : List Quarter) → q ≡ p ++ r → r ≡ []) → plot_at p (split q t) ≡ plot_at p t
