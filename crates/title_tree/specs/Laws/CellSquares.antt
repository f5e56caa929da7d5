-- A cell lies in a square exactly where the square's path begins the cell's.
use Rattle.std.proofs.Common.{◌≡◌, ℕ, zero, suc, ◌+◌, ◌<◌, ◌≤◌, Bool, true, false, List, [], ◌∷◌, ◌++◌, length, reverse}
use Rattle.std.proofs.{Common.{refl, sym, ap, subst, ◌∙◌, arith, true≢false}, lemmas.List.{reverse-append, reverse-reverse, length-reverse}}
use Rattle.title_land.specs.{declared.rectangle.Quarter.{Quarter, TheVariants.{Northeast, Northwest, Southwest, Southeast}}, Survey.{side}}
use Rattle.title_land.specs.{declared.rectangle.Rectangle.{Rectangle}, Rectangles.{quarter_of, holds}, Nodes.{square}}
use Rattle.title_land.specs.Laws.{Squares.{Inside, inside, holds_from, Sized, sized, nested, square_inside}, CoverCells.{in_a_quarter}}
use Rattle.title_tree.specs.{Paths.{way, begins, rest}, CellWays.{quarter_by, quarter_in, cell_quarters, cell_way}}
use Rattle.title_tree.specs.Laws.Beginnings.{begins_append, begins_is}

found_by : (r : Rectangle) (row column : ℕ) (a b c : Bool) → holds (quarter_of Northeast r) row column ≡ a
    → holds (quarter_of Northwest r) row column ≡ b → holds (quarter_of Southwest r) row column ≡ c
    → (q : Quarter) → Inside (quarter_of q r) row column → Inside (quarter_of (quarter_by a b c) r) row column
found_by r row column true b c e f g q i = inside (quarter_of Northeast r) row column e
found_by r row column false true c e f g q i = inside (quarter_of Northwest r) row column f
found_by r row column false false true e f g q i = inside (quarter_of Southwest r) row column g
found_by r row column false false false e f g Northeast i =
    absurd (true≢false (sym (holds_from (quarter_of Northeast r) row column i) ∙ e))
found_by r row column false false false e f g Northwest i =
    absurd (true≢false (sym (holds_from (quarter_of Northwest r) row column i) ∙ f))
found_by r row column false false false e f g Southwest i =
    absurd (true≢false (sym (holds_from (quarter_of Southwest r) row column i) ∙ g))
found_by r row column false false false e f g Southeast i = i

quarter_found : (d levels : ℕ) (r : Rectangle) (row column : ℕ) → Sized d (suc levels) r → Inside r row column
    → Inside (quarter_of (quarter_in r row column) r) row column
quarter_found d levels r row column s i =
    let x = in_a_quarter d levels r row column s i in
    found_by r row column (holds (quarter_of Northeast r) row column) (holds (quarter_of Northwest r) row column)
    (holds (quarter_of Southwest r) row column) refl refl refl x.0 x.1

cell_inside : (d levels : ℕ) (p : List Quarter) (row column : ℕ) → levels + length p ≡ d → Inside (square d p) row column
    → Inside (square d (cell_quarters d levels p row column)) row column
cell_inside d zero p row column l i = i
cell_inside d (suc levels) p row column l i =
    cell_inside d levels (quarter_in (square d p) row column ∷ p) row column (omega (arith, l))
    (quarter_found d levels (square d p) row column (sized d (suc levels) p l) i)

length-cell_quarters : (d levels : ℕ) (p : List Quarter) (row column : ℕ) → length (cell_quarters d levels p row column) ≡ levels + length p
length-cell_quarters d zero p row column = omega arith
length-cell_quarters d (suc levels) p row column =
    let e = length-cell_quarters d levels (quarter_in (square d p) row column ∷ p) row column in omega (arith, e)

pub cell_ways_are_whole : (d row column : ℕ) → length (cell_way d row column) ≡ d
cell_ways_are_whole d row column =
    let e = length-cell_quarters d d [] row column in
    let f = length-reverse (cell_quarters d d [] row column) in omega (arith, e, f)

in_section : (d row column : ℕ) → row < side d → column < side d → Inside (square d []) row column
in_section d row column r c = record {
  below = omega arith;
  above = omega (arith, r);
  right = omega arith;
  left = omega (arith, c);
}

both_ways : (b s : Bool) → (b ≡ true → s ≡ true) → (s ≡ true → b ≡ true) → b ≡ s
both_ways true s f g = sym (f refl)
both_ways false true f g = g refl
both_ways false false f g = refl

-- the square that a path names, by the rest of a cell's path
path_parts : (c w r : List Quarter) → reverse c ≡ reverse w ++ r → c ≡ reverse r ++ w
path_parts c w r e =
    sym (reverse-reverse c) ∙ ap (λ (z : List Quarter). reverse z) e ∙ reverse-append (reverse w) r
    ∙ ap (λ (z : List Quarter). reverse r ++ z) (reverse-reverse w)

pub squares_by_paths : (d : ℕ) (w : List Quarter) (row column : ℕ) → length w ≤ d → row < side d → column < side d
    → holds (square d w) row column ≡ begins (way w) (cell_way d row column)
squares_by_paths d w row column l h k =
    let c = cell_quarters d d [] row column in
    let there : Inside (square d c) row column = cell_inside d d [] row column (omega arith) (in_section d row column h k) in
    let e = length-cell_quarters d d [] row column in
    let long : length w ≤ length c = omega (arith, l, e) in
    both_ways (holds (square d w) row column) (begins (way w) (cell_way d row column))
    (λ y. let n = nested d c w row column long there (inside (square d w) row column y) in
    ap (λ (z : List Quarter). begins (reverse w) z) (ap (λ (z : List Quarter). reverse z) n.path_is ∙ reverse-append n.within w)
    ∙ begins_append (reverse w) (reverse n.within))
    (λ y. let r = rest (reverse w) (reverse c) in
    let parts = path_parts c w r (begins_is (reverse w) (reverse c) y) in
    holds_from (square d w) row column
    (square_inside d (reverse r) w row column (subst (λ (z : List Quarter). Inside (square d z) row column) parts there)))
