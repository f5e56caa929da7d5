-- Plots that are to stand at paths of another plot, or that stood there.
use Rattle.std.specs.Prelude.{◌≡◌, ℕ, ◌≤◌, Bool, true, false, cond, ◌||◌, List, [], ◌∷◌, ◌++◌, length, Option, Some, None, Result}
use Rattle.std.specs.Option.{option_or}
use Rattle.title_share.specs.Division.{Division, all_to}
use Rattle.title_land.specs.{declared.rectangle.Quarter.{Quarter}, CoverSets.{path_before}, Laws.Members.{In}}
use Rattle.title_tree.specs.Paths.{begins, rest}
use Rattle.title_tree.specs.Plots.{Plot, value_at, has_path, plot_at, graft, split, changed, first_refusal, same_division, uniform, fits}

-- a plot with its path
pub record Piece : Type 0 where
  pub path : List Quarter
  pub plot : Plot

abbrev pub paths : List Piece → List (List Quarter)
paths [] = []
paths (x ∷ xs) = x.path ∷ paths xs

-- the cell lies in a node at one of the paths
abbrev pub has : List (List Quarter) → List Quarter → Bool
has [] c = false
has (p ∷ ps) c = begins p c || has ps c

-- the division of a cell that the pieces have, by the last piece that has it
abbrev pub held : List Piece → List Quarter → Division
held [] c = all_to 0
held (x ∷ xs) c = cond (has (paths xs) c) (held xs c) (value_at x.plot (rest x.path c))

-- a plot after each piece in turn has changed places with what stands at its path
abbrev pub swapped : List Piece → Plot → Plot
swapped [] t = t
swapped (x ∷ xs) t = swapped xs (graft x.path x.plot t)

-- the pieces after that: what stood at their paths
abbrev pub taken : List Piece → Plot → List Piece
taken [] t = []
taken (x ∷ xs) t = record { path = x.path; plot = plot_at x.path t } ∷ taken xs (graft x.path x.plot t)

-- quartered down to each of the paths
abbrev pub split_all : List (List Quarter) → Plot → Plot
split_all [] t = t
split_all (p ∷ ps) t = split_all ps (split p t)

-- what stands at the paths, changed
abbrev pub fresh : (Division → Division) → List (List Quarter) → Plot → List Piece
fresh change [] t = []
fresh change (p ∷ ps) t = record { path = p; plot = changed change (plot_at p t) } ∷ fresh change ps t

-- why the first leaf at one of the paths that refuses a change refuses it
abbrev pub refusal_at : {R : Type 0} → (Division → Result Division R) → List (List Quarter) → Plot → Option R
refusal_at effect [] t = None
refusal_at effect (p ∷ ps) t = option_or (first_refusal effect (plot_at p t)) (refusal_at effect ps t)

-- no path begins the other: their nodes share no cell
abbrev pub Apart : List Quarter → List (List Quarter) → Type 0
Apart p qs = (q : List Quarter) → In q qs → (begins p q ≡ false) × (begins q p ≡ false)

-- no two nodes at the paths share a cell
abbrev pub Disjoint : List (List Quarter) → Type 0
Disjoint [] = Unit {0}
Disjoint (p ∷ ps) = Apart p ps × Disjoint ps

-- each path comes before all after it, as the squares of a tract are listed
abbrev pub InOrder : List (List Quarter) → Type 0
InOrder [] = Unit {0}
InOrder (p ∷ ps) = ((q : List Quarter) → In q ps → path_before p q ≡ true) × InOrder ps

-- the path of the first piece
abbrev pub first_path : List Piece → Option (List Quarter)
first_path [] = None
first_path (x ∷ xs) = Some x.path

-- the plot has a node at each of the paths
abbrev pub Ready : List (List Quarter) → Plot → Type 0
Ready ps t = (p : List Quarter) → In p ps → has_path p t ≡ true

-- no path goes deeper than so many levels
abbrev pub Short : List (List Quarter) → ℕ → Type 0
Short ps n = (p : List Quarter) → In p ps → length p ≤ n

-- where a path goes on below a piece, the piece has a node there
abbrev pub Reaches : List Quarter → List Piece → Type 0
Reaches q ys = (y : Piece) → In y ys → (r : List Quarter) → q ≡ y.path ++ r → has_path r y.plot ≡ true

-- where the first plot and the paths go no deeper than some levels, the second doesn't
abbrev pub StaysWithin : List (List Quarter) → Plot → Plot → Type 0
StaysWithin ps t u = (n : ℕ) → Short ps n → fits n t ≡ true → fits n u ≡ true

-- what stands at each path that is apart from the paths stays
abbrev pub StaysElsewhere : List (List Quarter) → Plot → Plot → Type 0
StaysElsewhere ps t u = (q : List Quarter) → Apart q ps → plot_at q u ≡ plot_at q t

-- the same content, and a node at each path where there was one
pub record Refines (t u : Plot) : Type 0 where
  pub content : (c : List Quarter) → value_at u c ≡ value_at t c
  pub paths : (q : List Quarter) → has_path q t ≡ true → has_path q u ≡ true

-- the division, where another is the same
abbrev pub both_have : Option Division → Option Division → Option Division
both_have None other = None
both_have (Some held) None = None
both_have (Some held) (Some other) = cond (same_division held other) (Some held) None

-- the one division of all leaves at the paths
abbrev pub uniform_at : List (List Quarter) → Plot → Option Division
uniform_at [] t = None
uniform_at (p ∷ []) t = uniform (plot_at p t)
uniform_at (p ∷ q ∷ ps) t = both_have (uniform (plot_at p t)) (uniform_at (q ∷ ps) t)
