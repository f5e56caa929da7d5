-- A square of a section as a number: the section's own is 1, and the quarters of square n are 4 n to 4 n + 3, in their order.
use Rattle.std.specs.Prelude.{◌≡◌, ℕ, zero, suc, ◌+◌, ◌*◌, ◌/◌, ◌%◌, ◌==◌, List, [], ◌∷◌, if◌then◌else◌}
use Rattle.title_land.specs.{Depth.{depth}, declared.rectangle.Quarter.{Quarter, TheVariants.{Northeast, Northwest, Southwest, Southeast}}}

-- the number of a quarter among the four
abbrev pub quarter_number : Quarter → ℕ
quarter_number Northeast = 0
quarter_number Northwest = 1
quarter_number Southwest = 2
quarter_number Southeast = 3

-- the quarter with a number
abbrev pub quarter_at : ℕ → Quarter
quarter_at zero = Northeast
quarter_at (suc zero) = Northwest
quarter_at (suc (suc zero)) = Southwest
quarter_at (suc (suc (suc n))) = Southeast

-- the number of the square with these quarters, the innermost first
abbrev pub path_number : List Quarter → ℕ
path_number [] = 1
path_number (q ∷ quarters) = path_number quarters * 4 + quarter_number q

-- the quarters of the square with this number, so many at most
abbrev pub path_at : ℕ → ℕ → List Quarter
path_at zero n = []
path_at (suc most) n = if n / 4 == 0 then [] else quarter_at (n % 4) ∷ path_at most (n / 4)

-- a square's quarters, from its number
abbrev pub quarters_in : ℕ → List Quarter
quarters_in n = path_at depth n

-- it is the number of some square with a cell
abbrev pub IsPathNumber : ℕ → Type 0
IsPathNumber n = path_number (path_at depth n) ≡ n
