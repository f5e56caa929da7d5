-- Paths in a tree of quarters, the outermost quarter first.
use Rattle.std.specs.Prelude.{◌≡◌, ℕ, zero, suc, ◌/◌, ◌%◌, Bool, true, false, ◌&&◌, cond, List, [], ◌∷◌, ◌++◌, reverse, Option, Some, None}
use Rattle.title_land.specs.{declared.rectangle.Quarter.{Quarter}, Nodes.{same_quarter}, Paths.{quarter_at, path_number, path_at}}

-- a path's quarters from its number: with q before the path of number n it is 4 n and the number of q
abbrev pub quarters_of : ℕ → List Quarter
quarters_of n = path_at n n

-- it is the number of a path
abbrev pub IsPath : ℕ → Type 0
IsPath n = path_number (quarters_of n) ≡ n

-- the path of a square that is named by its quarters, the innermost first
abbrev pub way : List Quarter → List Quarter
way quarters = reverse quarters

-- the first path begins the second: the node at the first has that at the second
abbrev pub begins : List Quarter → List Quarter → Bool
begins [] c = true
begins (q ∷ p) [] = false
begins (q ∷ p) (x ∷ c) = same_quarter q x && begins p c

-- what is left of the second path after one as long as the first
abbrev pub rest : List Quarter → List Quarter → List Quarter
rest [] c = c
rest (q ∷ p) [] = []
rest (q ∷ p) (x ∷ c) = rest p c

-- what is left of a path in a quarter; none, where it doesn't go there or there is none
abbrev pub rest_in : Quarter → Option (List Quarter) → Option (List Quarter)
rest_in q None = None
rest_in q (Some []) = None
rest_in q (Some (x ∷ p)) = cond (same_quarter q x) (Some p) None

-- the path of the square of a number among the 4 ^ levels that lie so many levels below
abbrev pub number_path : ℕ → ℕ → List Quarter
number_path zero n = []
number_path (suc levels) n = number_path levels (n / 4) ++ quarter_at (n % 4) ∷ []
