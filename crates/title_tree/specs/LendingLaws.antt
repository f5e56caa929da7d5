-- Laws of images that are out: each can go back.
use Rattle.std.specs.Prelude.{◌≢◌, ℕ, suc, List, [], ◌∷◌, ◌++◌}
use Rattle.title_share.specs.Division.{Division}
use Rattle.title_land.specs.{declared.rectangle.Quarter.{Quarter}, Laws.Members.{In}}
use Rattle.title_tree.specs.{Plots.{Plot}, Pieces.{swapped, taken, split_all, fresh, Disjoint, Refines}}
use Rattle.title_tree.specs.Lendings.{Lending, Keeps, LaterClear}

-- after a put, whose image is out under the next number
abbrev pub PutKeeps : Type 0
PutKeeps = (change : Division → Division) (ps : List (List Quarter)) (t : Plot) (out : List Lending) (n : ℕ) → Disjoint ps → Keeps t out n
    → Keeps (swapped (fresh change ps t) (split_all ps t))
    (out ++ record { number = n; pieces = taken (fresh change ps t) (split_all ps t) } ∷ []) (suc n)

-- after an image has gone back, where no later one that is out lies in its nodes
abbrev pub RestoreKeeps : Type 0
RestoreKeeps = (t : Plot) (out less : List Lending) (n : ℕ) (y : Lending) → In y out → LaterClear y out
    → ((x : Lending) → In x less → In x out × (x.number ≢ y.number)) → Keeps t out n → Keeps (swapped y.pieces t) less n

-- after images have been let go
abbrev pub ForgetKeeps : Type 0
ForgetKeeps = (t : Plot) (out less : List Lending) (n : ℕ) → ((x : Lending) → In x less → In x out) → Keeps t out n → Keeps t less n

-- after quartering
abbrev pub RefineKeeps : Type 0
RefineKeeps = (t u : Plot) (out : List Lending) (n : ℕ) → Refines t u → Keeps t out n → Keeps u out n

-- where none is out, any tree keeps them all
abbrev pub NoneIsKept : Type 0
NoneIsKept = (t : Plot) → Keeps t [] 0
