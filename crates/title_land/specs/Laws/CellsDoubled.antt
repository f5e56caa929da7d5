-- The four cells that a cell is quartered into, and the land and the nodes in which they lie.
use Rattle.std.{proofs.Common.{◌≡◌, ℕ, suc, ◌+◌, ◌*◌, ◌/◌, ◌%◌, Bool, ◌&&◌, inl, inr, refl, ap, subst, ◌∙◌, arith}, specs.Prelude.{nat_lt}}
use Rattle.std.{specs.List.{list_any}, proofs.lemmas.Bool.{and_parts, ltb-true, lt-ltb, cases_eq}}
use Rattle.title_land.specs.{declared.survey.Cell.{Cell}, Survey.{side, is_on_grid, same_section}, Lands.{has}, CellLists.{same_cell}}
use Rattle.title_land.specs.Doubled.{halved, cell_in, four_cells, doubled, FourCellsLieIn, DoubledHasTheCells, NodesHaveTheCells}
use Rattle.title_land.specs.Laws.{PartsDoubled.{two_pow}, Members.{In}, LandSharing.{equal_tests}, SquaresDoubled.{square_holds}}
use Rattle.title_land.specs.Laws.{CellMembers.{same_cells_are_equal, listed, listed_from}, CoversDoubled.{refines}}
use Rattle.title_land.specs.declared.node.Node.TheVariants as node
use Rattle.title_land.specs.declared.tract.Land.TheVariants as land

lies_in : (a b : Cell) (row column : ℕ) → a ≡ cell_in b.section row column → row / 2 ≡ b.row → column / 2 ≡ b.column → halved a ≡ b
lies_in a b row column e r c = ap halved e ∙ (λ k. cell_in b.section (r k) (c k))

-- each of the four lies in the cell
pub four_halved : (a b : Cell) → In a (four_cells b) → halved a ≡ b
four_halved a b i = elim i [
  | inl e ↦ lies_in a b _ _ e (omega arith) (omega arith)
  | inr j ↦ elim j [
    | inl e ↦ lies_in a b _ _ e (omega arith) (omega arith)
    | inr m ↦ elim m [
      | inl e ↦ lies_in a b _ _ e (omega arith) (omega arith)
      | inr n ↦ elim n [
        | inl e ↦ lies_in a b _ _ e (omega arith) (omega arith)
        | inr z ↦ absurd z
      ]
    ]
  ]
]

-- each cell is one of the four of the cell that it lies in
pub in_four_cells : (a : Cell) → In a (four_cells (halved a))
in_four_cells a = elim (cases_eq (a.row % 2) 0) [
  | inl r ↦
      let row : a.row ≡ 2 * (a.row / 2) = omega (arith, r) in
      elim (cases_eq (a.column % 2) 0) [
        | inl c ↦
            let column : a.column ≡ 2 * (a.column / 2) = omega (arith, c) in
            inr (inl (λ k. cell_in a.section (row k) (column k)))
        | inr c ↦
            let column : a.column ≡ 2 * (a.column / 2) + 1 = omega (arith, c) in
            inl (λ k. cell_in a.section (row k) (column k))
      ]
  | inr r ↦
      let row : a.row ≡ 2 * (a.row / 2) + 1 = omega (arith, r) in
      elim (cases_eq (a.column % 2) 0) [
        | inl c ↦
            let column : a.column ≡ 2 * (a.column / 2) = omega (arith, c) in
            inr (inr (inl (λ k. cell_in a.section (row k) (column k))))
        | inr c ↦
            let column : a.column ≡ 2 * (a.column / 2) + 1 = omega (arith, c) in
            inr (inr (inr (inl (λ k. cell_in a.section (row k) (column k)))))
      ]
]

pub four_cells_lie_in : FourCellsLieIn
four_cells_lie_in a b =
    equal_tests (list_any (same_cell a) (four_cells b)) (same_cell (halved a) b)
    (λ h. (same_cells_are_equal (halved a) b).1 (four_halved a b (listed (four_cells b) a h)))
    (λ h.
    let e = (same_cells_are_equal (halved a) b).0 h in
    listed_from (four_cells b) a (subst (λ (c : Cell). In a (four_cells c)) e (in_four_cells a)))

half_below : (d n : ℕ) → nat_lt n (side (suc d)) ≡ nat_lt (n / 2) (side d)
half_below d n =
    let e = two_pow d in
    equal_tests (nat_lt n (side (suc d))) (nat_lt (n / 2) (side d))
    (λ h. lt-ltb (n / 2) (side d) (let k = ltb-true n (side (suc d)) h in omega arith))
    (λ h. lt-ltb n (side (suc d)) (let k = ltb-true (n / 2) (side d) h in omega arith))

-- a cell stands on the finer grid exactly where the cell that it lies in stands on the grid
pub grid_double : (d : ℕ) (c : Cell) → is_on_grid (suc d) c ≡ is_on_grid d (halved c)
grid_double d c = λ i. half_below d c.row i && half_below d c.column i

pub doubled_has_the_cells : DoubledHasTheCells
unfolding has doubled
doubled_has_the_cells d land.Everything c o = refl
doubled_has_the_cells d (land.Township t) c o = refl
doubled_has_the_cells d (land.Part s g) c o =
    let k = and_parts (nat_lt c.row (side (suc d))) (nat_lt c.column (side (suc d))) o in
    let e = refines d g c.row c.column (ltb-true c.row (side (suc d)) k.0) (ltb-true c.column (side (suc d)) k.1) in
    ap (λ (b : Bool). same_section s c.section && b) e

pub nodes_have_the_cells : NodesHaveTheCells
nodes_have_the_cells d node.Everything c h = refl
nodes_have_the_cells d (node.Township t) c h = refl
nodes_have_the_cells d (node.Part s w) c h = ap (λ (b : Bool). same_section s c.section && b) (square_holds d w c.row c.column h)
