-- A square of a section that is quartered once more: the same square, with its sides doubled.
use Rattle.std.proofs.Common.{◌≡◌, ℕ, suc, ◌-◌, ◌*◌, ◌/◌, ◌^◌, ◌<◌, ◌≤◌, Bool, true, List, [], ◌∷◌, length, sym, ap, subst, ◌∙◌, arith}
use Rattle.std.proofs.lemmas.Bool.{and_from}
use Rattle.title_land.specs.{declared.rectangle.{Quarter.{Quarter}, Rectangle.{Rectangle}}, Survey.{side}, Nodes.{square}, Grids.{fills}}
use Rattle.title_land.specs.{Rectangles.{is_even, exists, quarter_of, holds}, Doubled.{double}, Laws.Filling.{fills_at, fills_from}}
use Rattle.title_land.specs.Laws.{PartsDoubled.{two_pow, even_double, quarter_double, section_double}, LandSharing.{equal_tests}}
use Rattle.title_land.specs.Laws.{Squares.{Inside, inside, holds_from, sized}, NodeLands.{square_in_section}}
use Rattle.title_land.specs.declared.rectangle.Step.TheVariants as step

-- a cell lies in a doubled rectangle where the cell that it lies in lies in the rectangle
pub inside_doubled : (r : Rectangle) (row column : ℕ) → Inside (double r) row column → Inside r (row / 2) (column / 2)
inside_doubled r row column i =
    record { below = omega (arith, i.below); above = omega (arith, i.above); right = omega (arith, i.right); left = omega (arith, i.left) }

pub inside_halved : (r : Rectangle) (row column : ℕ) → Inside r (row / 2) (column / 2) → Inside (double r) row column
inside_halved r row column i =
    record { below = omega (arith, i.below); above = omega (arith, i.above); right = omega (arith, i.right); left = omega (arith, i.left) }

pub holds_double : (r : Rectangle) (row column : ℕ) → holds (double r) row column ≡ holds r (row / 2) (column / 2)
holds_double r row column =
    equal_tests (holds (double r) row column) (holds r (row / 2) (column / 2))
    (λ h. holds_from r (row / 2) (column / 2) (inside_doubled r row column (inside (double r) row column h)))
    (λ h. holds_from (double r) row column (inside_halved r row column (inside r (row / 2) (column / 2) h)))

even_side : (levels n : ℕ) → n ≡ 2 ^ suc levels → is_even n ≡ true
even_side levels n e = subst (λ (m : ℕ). is_even m ≡ true) (sym (two_pow levels) ∙ sym e) (even_double (2 ^ levels))

-- a square of the section is, with twice the side, the same square
pub square_double : (d : ℕ) (w : List Quarter) → length w ≤ d → square (suc d) w ≡ double (square d w)
square_double d [] h = section_double d
square_double d (q ∷ w) h =
    let levels = d - suc (length w) in
    let z = sized d (suc levels) w (omega arith) in
    let even : exists (step.Quarter q) (square d w) ≡ true
    = and_from _ _ (even_side levels _ z.height_is) (even_side levels _ z.width_is) in
    ap (quarter_of q) (square_double d w (omega arith)) ∙ quarter_double q (square d w) even

-- a cell lies in a square where the cell that it lies in does
pub square_holds : (d : ℕ) (w : List Quarter) (row column : ℕ) → length w ≤ d
    → holds (square (suc d) w) row column ≡ holds (square d w) (row / 2) (column / 2)
square_holds d w row column h = ap (λ (r : Rectangle). holds r row column) (square_double d w h) ∙ holds_double (square d w) row column

-- the second set has, on the finer grid, the cells that lie in those of the first
abbrev pub Refines : ℕ → (ℕ → ℕ → Bool) → (ℕ → ℕ → Bool) → Type 0
Refines d set finer = (row column : ℕ) → row < side (suc d) → column < side (suc d) → finer row column ≡ set (row / 2) (column / 2)

-- a cell of a square has one of its four in the doubled square
inside_twice : (r : Rectangle) (row column : ℕ) → Inside r row column → Inside (double r) (2 * row) (2 * column)
inside_twice r row column i =
    record { below = omega (arith, i.below); above = omega (arith, i.above); right = omega (arith, i.right); left = omega (arith, i.left) }

-- the finer set fills a square exactly where the set does
pub fills_double : (d : ℕ) (set finer : ℕ → ℕ → Bool) (w : List Quarter) → length w ≤ d → Refines d set finer
    → fills finer (square (suc d) w) ≡ fills set (square d w)
fills_double d set finer w h f =
    let e = square_double d w h in
    let long : length w ≤ suc d = omega arith in
    let within = square_in_section (suc d) w long in
    let rows = within.0 in
    let columns = within.1 in
    equal_tests (fills finer (square (suc d) w)) (fills set (square d w))
    (λ full. fills_from set (square d w) (λ row column i.
    let j = subst (λ (r : Rectangle). Inside r (2 * row) (2 * column)) (sym e) (inside_twice (square d w) row column i) in
    let same = f (2 * row) (2 * column) (omega (arith, j.above, rows)) (omega (arith, j.left, columns)) in
    let half_row : (2 * row) / 2 ≡ row = omega arith in
    let half_column : (2 * column) / 2 ≡ column = omega arith in
    rw (half_row, half_column) at (sym same ∙ fills_at finer (square (suc d) w) (2 * row) (2 * column) full j)))
    (λ full. fills_from finer (square (suc d) w) (λ row column i.
    let j = inside_doubled (square d w) row column (subst (λ (r : Rectangle). Inside r row column) e i) in
    f row column (omega (arith, i.above, rows)) (omega (arith, i.left, columns)) ∙ fills_at set (square d w) (row / 2) (column / 2) full j))
