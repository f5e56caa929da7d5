-- Laws of pieces that change places with what stands at their paths.
use Rattle.std.specs.Prelude.{◌≡◌, ℕ, true, cond, List, length, Some, None, Result}
use Rattle.title_share.specs.Division.{Division}
use Rattle.title_land.specs.declared.rectangle.Quarter.{Quarter}
use Rattle.title_tree.specs.{Changes.{why_of}, Plots.{Plot, value_at, fits}}
use Rattle.title_tree.specs.Pieces.{Piece, paths, has, held, swapped, taken, split_all, fresh, refusal_at, Disjoint, Ready, Short, Refines}

-- after the exchange the cells of the pieces hold what the pieces held, and all others what they held
abbrev pub SwappedShows : Type 0
SwappedShows = (xs : List Piece) (t : Plot) (c : List Quarter) → Disjoint (paths xs) → Ready (paths xs) t → Short (paths xs) (length c)
    → value_at (swapped xs t) c ≡ cond (has (paths xs) c) (held xs c) (value_at t c)

-- the pieces then hold what their cells held
abbrev pub TakenHolds : Type 0
TakenHolds = (xs : List Piece) (t : Plot) (c : List Quarter) → Disjoint (paths xs) → Ready (paths xs) t → Short (paths xs) (length c)
    → has (paths xs) c ≡ true → held (taken xs t) c ≡ value_at t c

-- a put: the plot is quartered down to the paths, and what stands there changes places with its change, made before
abbrev pub PutShows : Type 0
PutShows = (change : Division → Division) (ps : List (List Quarter)) (t : Plot) (c : List Quarter) → Disjoint ps → Short ps (length c)
    → value_at (swapped (fresh change ps t) (split_all ps t)) c ≡ cond (has ps c) (change (value_at t c)) (value_at t c)

-- what a put takes away is what the cells held
abbrev pub PutTakes : Type 0
PutTakes = (change : Division → Division) (ps : List (List Quarter)) (t : Plot) (c : List Quarter) → Disjoint ps → Short ps (length c)
    → has ps c ≡ true → held (taken (fresh change ps t) (split_all ps t)) c ≡ value_at t c

-- what is made before the plot is quartered is what would be made after
abbrev pub MadeBeforeTheSplit : Type 0
MadeBeforeTheSplit = (change : Division → Division) (ps : List (List Quarter)) (t : Plot) → Disjoint ps
    → fresh change ps (split_all ps t) ≡ fresh change ps t

-- a plot that is quartered down to each of the paths has a node there, and all nodes and cells that it had
abbrev pub SplitAllReaches : Type 0
SplitAllReaches = (ps : List (List Quarter)) (t : Plot) → Ready ps (split_all ps t) × Refines t (split_all ps t)

-- where no leaf at some paths refuses a change, no cell there does
abbrev pub NoneRefusesThere : Type 0 → Type 0
NoneRefusesThere R = (effect : Division → Result Division R) (ps : List (List Quarter)) (t : Plot) → refusal_at effect ps t ≡ None
    → (c : List Quarter) → has ps c ≡ true → why_of (effect (value_at t c)) ≡ None

-- the reason of a leaf at some paths that refuses a change is that of a cell there
abbrev pub ACellRefuses : Type 0 → Type 0
ACellRefuses R = (effect : Division → Result Division R) (levels : ℕ) (ps : List (List Quarter)) (t : Plot) (why : R)
    → fits levels t ≡ true → Short ps levels → refusal_at effect ps t ≡ Some why
    → (c : List Quarter) × (has ps c ≡ true) × (length c ≡ levels) × (why_of (effect (value_at t c)) ≡ Some why)
