-- One more cell of a set that is read from its text.
use Rattle.std.proofs.Common.{◌≡◌, ◌∙◌, ℕ, ◌+◌, ◌*◌, ◌/◌, ◌%◌, ◌<◌, ◌≤◌, Bool, true, false, ◌&&◌, ◌||◌, refl, arith, inl, inr}
use Rattle.std.{specs.Prelude.{nat_lt}, proofs.lemmas.Bool.{cases_Bool, cases_eq, Decides.{nat_tests}}}
use Rattle.title_land.specs.{declared.{grid.Grid.{Grid}, rectangle.Rectangle.{Rectangle}}, Depth.{depth}, Survey.{side}, Rectangles.{holds}}
use Rattle.title_land.specs.{Grids.{grid_has, grid_of, AddsRectangle, IsGrid}, Laws.{Sides.{side_is}, Squares.{inside}}}
use Rattle.title_spelling.proofs.Grids.{grid_is}

-- the set has those of the first cells, row by row, at which a test holds
abbrev pub HasFirst : (ℕ → ℕ → Bool) → ℕ → Grid → Type 0
HasFirst test number g =
    (row column : ℕ) → row < side depth → column < side depth →
    grid_has g row column ≡ (nat_lt (row * 16 + column) number && test row column)

lesser : (a b : ℕ) → a < b → nat_lt a b ≡ true
lesser a b h = grind (arith, nat_tests)

greater : (a b : ℕ) → b ≤ a → nat_lt a b ≡ false
greater a b h = grind (arith, nat_tests)

-- before a further number stands what stood before, and the number itself
same_before : (a n : ℕ) → (a ≡ n → ⊥) → nat_lt a n ≡ nat_lt a (n + 1)
same_before a n h = grind (arith, nat_tests)

and_none : (a : Bool) → (a && false) ≡ false
and_none true = refl
and_none false = refl

or_none : (a : Bool) → (a || false) ≡ a
or_none true = refl
or_none false = refl

or_some : (a : Bool) → (a || true) ≡ true
or_some true = refl
or_some false = refl

abbrev cell_at : ℕ → ℕ → Rectangle
cell_at row column = record { top = row; left = column; height = 1; width = 1 }

-- a cell has itself and no other
holds_here : (row column : ℕ) → holds (cell_at row column) row column ≡ true
holds_here row column = grind (arith, nat_tests)

holds_other : (row column r c : ℕ) → (r ≡ row → c ≡ column → ⊥) → holds (cell_at row column) r c ≡ false
holds_other row column r c h = elim (cases_Bool (holds (cell_at row column) r c)) [
  | inl e ↦
      let i = inside (cell_at row column) r c e in
      let above = i.below in
      let below = i.above in
      let after = i.right in
      let before = i.left in
      absurd (h (omega arith) (omega arith))
  | inr e ↦ e
]

module _ (test : ℕ → ℕ → Bool) (number row column : ℕ) (row_is : row ≡ number / 16) (column_is : column ≡ number % 16) where
  same_cell : (r c : ℕ) → r < side depth → c < side depth → r * 16 + c ≡ number → (r ≡ row) × (c ≡ column)
  same_cell r c in_rows in_columns e =
      let side = side_is in
      (omega arith, omega arith)

  -- one cell more that the text has
  pub one_more : (g h : Grid) → test row column ≡ true → AddsRectangle depth g (cell_at row column) h → HasFirst test number g
      → HasFirst test (number + 1) h
  one_more g h has adds first r c in_rows in_columns =
      let added = adds r c in_rows in_columns in
      let before = first r c in_rows in_columns in
      elim (cases_eq (r * 16 + c) number) [
        | inl e ↦
            let (same_row, same_column) = same_cell r c in_rows in_columns e in
            let here : holds (cell_at row column) r c ≡ true = rw (same_row, same_column) (holds_here row column) in
            let there : test r c ≡ true = rw (same_row, same_column) has in
            rw (added, here, there, or_some (grid_has g r c), lesser (r * 16 + c) (number + 1) (omega arith)) refl
        | inr n ↦
            let off = holds_other row column r c (λ a b. n (omega (arith, a, b))) in
            rw (added, off, or_none (grid_has g r c), before, same_before (r * 16 + c) number n) refl
      ]

  -- one cell more that it doesn't have
  pub none_more : (g : Grid) → test row column ≡ false → HasFirst test number g → HasFirst test (number + 1) g
  none_more g has first r c in_rows in_columns =
      let before = first r c in_rows in_columns in
      elim (cases_eq (r * 16 + c) number) [
        | inl e ↦
            let (same_row, same_column) = same_cell r c in_rows in_columns e in
            let there : test r c ≡ false = rw (same_row, same_column) has in
            rw (before, there, and_none (nat_lt (r * 16 + c) number), and_none (nat_lt (r * 16 + c) (number + 1))) refl
        | inr n ↦ rw (before, same_before (r * 16 + c) number n) refl
      ]

-- with all cells it is the set of the test
pub all_marked : (test : ℕ → ℕ → Bool) (g : Grid) → IsGrid depth g → HasFirst test 256 g → g ≡ grid_of depth test
all_marked test g sized first =
    grid_is depth g test sized (λ row column r c.
    let side = side_is in
    first row column r c ∙ rw (lesser (row * 16 + column) 256 (omega arith)) refl)
