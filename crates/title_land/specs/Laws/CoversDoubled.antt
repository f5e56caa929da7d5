-- Land where each section is quartered once more: its cover, its size, and what it meets.
use Rattle.std.proofs.Common.{◌≡◌, ℕ, zero, suc, ◌+◌, ◌/◌, ◌<◌, ◌≤◌, Bool, false, inl, inr, List, [], ◌∷◌, ◌++◌, map, length, refl, sym, ap}
use Rattle.std.proofs.{Common.{subst, ◌∙◌, arith, if◌then◌else◌}, lemmas.Bool.{cases_Bool, both_ways, false_from_ne_true}}
use Rattle.std.specs.List.{list_any, range_with_len}
use Rattle.title_land.specs.{declared.{grid.Grid.{Grid}, rectangle.{Quarter.{Quarter}, Rectangle.{Rectangle}}}, Rectangles.{holds}}
use Rattle.title_land.specs.{declared.rectangle.Quarter.TheVariants.{Northeast, Northwest, Southwest, Southeast}, Survey.{side}}
use Rattle.title_land.specs.{Nodes.{square, are_related}, Grids.{grid_has, grid_of, fills, indices}, Covers.{cover_below, node_at}}
use Rattle.title_land.specs.{Lands.{cover_of}, Doubled.{doubled, DoubledIsLand, NodeLandDoubles, CoverDoubles, MeetsDoubles}}
use Rattle.title_land.specs.Laws.{Squares.{Inside, sized, has_corner, quarter_inside}, Filling.{fills_at}, CoverCells.{fills_one}}
use Rattle.title_land.specs.Laws.{CoverLaws.{cover_filled, cover_cell}, CoversMeet.{meets_by_covers}, GridLaws.{grid_has-grid_of}}
use Rattle.title_land.specs.Laws.NodeLands.{square_has, square_in_section, is_grid-grid_of}
use Rattle.title_land.specs.Laws.SquaresDoubled.{Refines, inside_doubled, square_double, square_holds, fills_double}
use Rattle.title_land.specs.declared.node.Node.TheVariants as node
use Rattle.title_land.specs.declared.tract.Land.TheVariants as land

-- a cell that the set doesn't have has no quarter that the finer set fills
quarter_empty : (d : ℕ) (set finer : ℕ → ℕ → Bool) (w : List Quarter) (q : Quarter) → zero + length w ≡ d → Refines d set finer
    → fills set (square d w) ≡ false → fills finer (square (suc d) (q ∷ w)) ≡ false
quarter_empty d set finer w q l f e =
    let r = square (suc d) (q ∷ w) in
    let corner = has_corner (suc d) zero (q ∷ w) (omega arith) in
    let short : length w ≤ d = omega arith in
    let long : suc (length w) ≤ suc d = omega arith in
    let within = square_in_section (suc d) (q ∷ w) long in
    let rows = within.0 in
    let columns = within.1 in
    let i = inside_doubled (square d w) r.top r.left
    (subst (λ (x : Rectangle). Inside x r.top r.left) (square_double d w short)
    (quarter_inside q (square (suc d) w) r.top r.left corner)) in
    false_from_ne_true (fills finer r) (λ full.
    let same = f r.top r.left (omega (arith, corner.above, rows)) (omega (arith, corner.left, columns)) in
    let there = sym same ∙ fills_at finer r r.top r.left full corner in
    both_ways (fills set (square d w)) e (fills_one d set (square d w) (r.top / 2) (r.left / 2) (sized d zero w l) i there))

-- the finer set has the same cover
pub cover_double : (d : ℕ) (set finer : ℕ → ℕ → Bool) (levels : ℕ) (w : List Quarter) → levels + length w ≡ d → Refines d set finer
    → cover_below (suc d) finer (suc levels) w ≡ cover_below d set levels w
cover_double d set finer zero w l f = elim (cases_Bool (fills set (square d w))) [
  | inl e ↦ cover_filled (suc d) finer 1 w (same ∙ e) ∙ sym (cover_filled d set zero w e)
  | inr e ↦
      split (same ∙ e) (leaf Northeast e) (leaf Northwest e) (leaf Southwest e) (leaf Southeast e)
      ∙ sym (cover_cell d set zero w e (omega arith))
]
  where
    same : fills finer (square (suc d) w) ≡ fills set (square d w)
    same = fills_double d set finer w (omega arith) f

    leaf : (q : Quarter) → fills set (square d w) ≡ false → cover_below (suc d) finer zero (q ∷ w) ≡ []
    leaf q e = cover_cell (suc d) finer zero (q ∷ w) (quarter_empty d set finer w q l f e) (omega arith)

    split : fills finer (square (suc d) w) ≡ false
        → cover_below (suc d) finer zero (Northeast ∷ w) ≡ [] → cover_below (suc d) finer zero (Northwest ∷ w) ≡ []
        → cover_below (suc d) finer zero (Southwest ∷ w) ≡ [] → cover_below (suc d) finer zero (Southeast ∷ w) ≡ []
        → cover_below (suc d) finer 1 w ≡ []
    split e a b c z = λ i. if e i then w ∷ [] else (a i ++ b i ++ c i ++ z i)
cover_double d set finer (suc levels) w l f =
    let same = fills_double d set finer w (omega arith) f in
    let a = cover_double d set finer levels (Northeast ∷ w) (omega arith) f in
    let b = cover_double d set finer levels (Northwest ∷ w) (omega arith) f in
    let c = cover_double d set finer levels (Southwest ∷ w) (omega arith) f in
    let z = cover_double d set finer levels (Southeast ∷ w) (omega arith) f in
    λ i. if same i then w ∷ [] else (a i ++ b i ++ c i ++ z i)

map_same : {X : Type 0} (f g : ℕ → X) (a n : ℕ) → ((k : ℕ) → k < a + n → f k ≡ g k)
    → map f (range_with_len a n) ≡ map g (range_with_len a n)
map_same f g a zero h = refl
map_same f g a (suc n) h =
    let here = h a (omega arith) in
    let rest = map_same f g (a + 1) n (λ k l. h k (omega arith)) in
    λ i. here i ∷ rest i

-- two tests that agree on the grid have one set
pub grid_same : (d : ℕ) (f g : ℕ → ℕ → Bool) → ((row column : ℕ) → row < side d → column < side d → f row column ≡ g row column)
    → grid_of d f ≡ grid_of d g
unfolding grid_of
grid_same d f g h =
    map_same (λ row. map (λ column. f row column) (indices d)) (λ row. map (λ column. g row column) (indices d)) 0 (side d)
    (λ row r. map_same (λ column. f row column) (λ column. g row column) 0 (side d) (λ column c. h row column (omega arith) (omega arith)))

-- the finer set of a section's set
pub refines : (d : ℕ) (g : Grid) → Refines d (grid_has g) (grid_has (grid_of (suc d) (λ row column. grid_has g (row / 2) (column / 2))))
refines d g row column r c = grid_has-grid_of (suc d) (λ row column. grid_has g (row / 2) (column / 2)) row column r c

pub cover_doubles : CoverDoubles
unfolding cover_of doubled
cover_doubles d land.Everything = refl
cover_doubles d (land.Township t) = refl
cover_doubles d (land.Part s g) = ap (map (node_at s)) (cover_double d (grid_has g) _ d [] (omega arith) (refines d g))

pub doubled_is_land : DoubledIsLand
unfolding doubled
doubled_is_land d land.Everything = tt
doubled_is_land d (land.Township t) = tt
doubled_is_land d (land.Part s g) = is_grid-grid_of (suc d) (λ row column. grid_has g (row / 2) (column / 2))

pub node_land_doubles : NodeLandDoubles
unfolding doubled
node_land_doubles d node.Everything h = refl
node_land_doubles d (node.Township t) h = refl
node_land_doubles d (node.Part s w) h =
    let same : (row column : ℕ) → grid_has (grid_of d (holds (square d w))) (row / 2) (column / 2) ≡ holds (square (suc d) w) row column
    = λ row column. square_has d w (row / 2) (column / 2) h ∙ sym (square_holds d w row column h) in
    λ i. land.Part s (grid_of (suc d) (λ row column. same row column i))

pub meets_doubles : MeetsDoubles
meets_doubles d a b h k =
    meets_by_covers (suc d) (doubled d a) (doubled d b) (doubled_is_land d a) (doubled_is_land d b)
    ∙ (λ i. list_any (λ m. list_any (are_related m) (cover_doubles d b i)) (cover_doubles d a i))
    ∙ sym (meets_by_covers d a b h k)
