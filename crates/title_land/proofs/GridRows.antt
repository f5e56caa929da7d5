-- Sets of cells by their rows' numbers: what the program computes of the numbers, it computes of the cells.
use Rattle.std.proofs.Common.{◌≡◌, ℕ, ◌+◌, ◌*◌, ◌^◌, ◌<◌, ◌≤◌, Bool, true, false, not, ◌&&◌, ◌||◌, cond, List, [], ◌∷◌, Option, map}
use Rattle.std.{proofs.{Common.{length, get_or, sum_by, refl, sym, ap, ◌∙◌, arith}, lemmas.Nat.{or_lt}}, specs.Prelude.{count_ones}}
use Rattle.std.specs.Prelude.{◌↔◌, ◌==◌, nat_eq, nat_le, nat_lt, slice_get, option_and_then, option_map, unwrap_or, bit_and, bit_or}
use Rattle.std.{specs.{List.{All, list_any, zip, range_with_len, fold}, Cmp.Lexicographic.{pointwise}}, proofs.Math.ListN.{replicate}}
use Rattle.std.proofs.lemmas.{Bool.{and_parts, and_from, leb-true, ltb-true, le-leb, lt-ltb, eqb-true, eq-eqb}, List.FromFn.{fill_by_all}}
use Rattle.std.proofs.lemmas.List.{length-map, get_or-map, length-replicate, get_or-replicate}
use Rattle.std.proofs.lemmas.List.Elements.{All-head, All-tail, All-map, All-get_or, All-from_get_or, All-replicate}
use Rattle.std.proofs.lemmas.Option.{slice_get-map, slice_get-get_or, slice_get_past, unwrap_or-slice_get}
use Rattle.title_land.specs.{declared.{grid.Grid.{Grid}, rectangle.Rectangle.{Rectangle}}, Grids.{with_rectangle, grid_of}, Survey.{side}}
use Rattle.title_land.specs.Grids.{grid_has, has_some, rows_meet, grids_meet, row_count, cell_count, IsGrid, indices, row_fills}
use Rattle.title_land.specs.{Rectangles.{holds, InSection}, RowBits.{is_set, row_cells, grid_cells, row_numbers, HasColumns, IsRows}}
use Rattle.title_land.specs.{RowNumbers.{length-row_cells, get_or-row_cells, rows_back}, Laws.Filling.{range_all_at, range_all_from}}
use Rattle.title_land.proofs.RowBits.{same_test, set_or, row_some, row_meets, row_counts, covers_mask, covered_mask}

-- a set has as many rows and columns as its section
pub rows_sized : (d : ℕ) (rows : List ℕ) → IsRows d rows → IsGrid d (grid_cells d rows)
rows_sized d rows h = (
  length-map rows (row_cells (side d)) ∙ h.0,
  All-map (λ cells. length cells ≡ side d) (row_cells (side d)) rows (λ k e l. length-row_cells (side d) (get_or rows k e)),
)

-- ---- one cell
abbrev row_get : Option (List Bool) → ℕ → Bool
row_get row column = unwrap_or (option_and_then (λ cells. slice_get cells column) row) false

row_of : (d : ℕ) (rows : List ℕ) (row column : ℕ) → row < length rows
    → grid_has (grid_cells d rows) row column ≡ get_or (row_cells (side d) (get_or rows row 0)) column false
row_of d rows row column r =
    ap (λ (c : Option (List Bool)). row_get c column) (slice_get-map (row_cells (side d)) rows row
    ∙ ap (option_map (row_cells (side d))) (slice_get-get_or rows row 0 r))
    ∙ unwrap_or-slice_get (row_cells (side d) (get_or rows row 0)) column false

-- the cell of a column lies in the set exactly where the row's bit is set
pub has_at : (d : ℕ) (rows : List ℕ) (row column : ℕ) → row < length rows → column < side d
    → grid_has (grid_cells d rows) row column ≡ is_set (get_or rows row 0) column
has_at d rows row column r c = row_of d rows row column r ∙ get_or-row_cells (side d) (get_or rows row 0) column false c

-- no cell past the last column lies in it
pub has_past : (d : ℕ) (rows : List ℕ) (row column : ℕ) → row < length rows → side d ≤ column
    → grid_has (grid_cells d rows) row column ≡ false
has_past d rows row column r c =
    let cells = row_cells (side d) (get_or rows row 0) in
    let past : length cells ≤ column = omega (arith, length-row_cells (side d) (get_or rows row 0)) in
    row_of d rows row column r ∙ sym (unwrap_or-slice_get cells column false)
    ∙ ap (λ (c : Option Bool). unwrap_or c false) (slice_get_past cells column past)

-- nor past the last row
pub has_below : (d : ℕ) (rows : List ℕ) (row column : ℕ) → length rows ≤ row → grid_has (grid_cells d rows) row column ≡ false
has_below d rows row column r =
    ap (λ (c : Option (List Bool)). row_get c column) (slice_get-map (row_cells (side d)) rows row
    ∙ ap (option_map (row_cells (side d))) (slice_get_past rows row r))

-- ---- whether it has a cell, or one in common with another set
abbrev Below : ℕ → ℕ → Type 0
Below n row = row < 2 ^ n

any_row : (n : ℕ) (rows : List ℕ) → All (Below n) rows
    → list_any (λ row. not (row == 0)) rows ≡ list_any (λ row. list_any (λ cell. cell) row) (map (row_cells n) rows)
any_row n [] h = refl
any_row n (x ∷ rows) h = rw (row_some n x (All-head (Below n) x rows h), any_row n rows (All-tail (Below n) x rows h)) refl

pub rows_some : (d : ℕ) (rows : List ℕ) → IsRows d rows → list_any (λ row. not (row == 0)) rows ≡ has_some (grid_cells d rows)
rows_some d rows h = any_row (side d) rows h.1

any_rows : (n : ℕ) (rows others : List ℕ) → All (Below n) rows → All (Below n) others
    → list_any (λ p. not (bit_and p.0 p.1 == 0)) (zip rows others)
    ≡ list_any (λ p. rows_meet p.0 p.1) (zip (map (row_cells n) rows) (map (row_cells n) others))
any_rows n [] others h k = refl
any_rows n (x ∷ rows) [] h k = refl
any_rows n (x ∷ rows) (y ∷ others) h k =
    rw (
      sym (row_meets n x y (All-head (Below n) x rows h) (All-head (Below n) y others k)),
      any_rows n rows others (All-tail (Below n) x rows h) (All-tail (Below n) y others k),
    ) refl

pub rows_meeting : (d : ℕ) (rows others : List ℕ) → IsRows d rows → IsRows d others
    → list_any (λ p. not (bit_and p.0 p.1 == 0)) (zip rows others) ≡ grids_meet (grid_cells d rows) (grid_cells d others)
rows_meeting d rows others h k = any_rows (side d) rows others h.1 k.1

-- two sets are one exactly where their rows' numbers are
pub rows_equal : (d : ℕ) (rows others : List ℕ) (g h : Grid) (r : Bool) → grid_cells d rows ≡ g → grid_cells d others ≡ h → IsRows d rows
    → IsRows d others → r ≡ pointwise nat_eq rows others → r ≡ pointwise nat_eq (row_numbers g) (row_numbers h)
rows_equal d rows others g h r e f i j k = rw (← e, ← f, rows_back d rows i, rows_back d others j) k

-- ---- the number of its cells
sum_rows : (n : ℕ) (rows : List ℕ) (start : ℕ) → All (Below n) rows
    → fold (λ s row. s + count_ones row) start rows ≡ fold (λ s row. s + row_count row) start (map (row_cells n) rows)
sum_rows n [] start h = refl
sum_rows n (x ∷ rows) start h = rw (row_counts n x (All-head (Below n) x rows h))
    (sum_rows n rows (start + row_count (row_cells n x)) (All-tail (Below n) x rows h))

-- the ones of all rows' numbers
pub rows_counted : (d : ℕ) (rows : List ℕ) → IsRows d rows → sum_by count_ones rows ≡ cell_count (grid_cells d rows)
rows_counted d rows h = sum_rows (side d) rows 0 h.1

-- one more row has no more cells than a side
pub count_more : (s i count ones : ℕ) → count ≤ s * i → ones ≤ s → count + ones ≤ s * (i + 1)
count_more s i count ones h k = grind arith

-- ---- a rectangle's cells
-- a row has all cells of a rectangle exactly where its number has all bits of the rectangle's columns
pub row_filled : (d : ℕ) (rows : List ℕ) (r : Rectangle) (row mask : ℕ) → row < length rows → InSection d r → mask < 2 ^ side d
    → HasColumns mask r.left r.width → (bit_and (get_or rows row 0) mask == mask) ≡ row_fills (grid_has (grid_cells d rows)) r row
row_filled d rows r row mask l inside low columns =
    same_test (bit_and (get_or rows row 0) mask == mask) (row_fills (grid_has (grid_cells d rows)) r row) found from
  where
    in_columns : (k : ℕ) → r.left ≤ k → k < r.left + r.width → is_set mask k ≡ true
    in_columns k a b = columns k ∙ and_from (nat_le r.left k) (nat_lt k (r.left + r.width)) (le-leb r.left k a)
        (lt-ltb k (r.left + r.width) b)

    found : (bit_and (get_or rows row 0) mask == mask) ≡ true → row_fills (grid_has (grid_cells d rows)) r row ≡ true
    found e =
        range_all_from (λ (column : ℕ). grid_has (grid_cells d rows) row column) r.left r.width
        (λ k a b. has_at d rows row k l (omega (arith, inside.1))
        ∙ covered_mask (get_or rows row 0) mask k (eqb-true (bit_and (get_or rows row 0) mask) mask e) (in_columns k a b))

    from : row_fills (grid_has (grid_cells d rows)) r row ≡ true → (bit_and (get_or rows row 0) mask == mask) ≡ true
    from e =
        eq-eqb (bit_and (get_or rows row 0) mask) mask
        (covers_mask (side d) (get_or rows row 0) mask low
        (λ k b h.
        let c = and_parts (nat_le r.left k) (nat_lt k (r.left + r.width)) (sym (columns k) ∙ h) in
        sym (has_at d rows row k l b) ∙ range_all_at (λ (column : ℕ). grid_has (grid_cells d rows) row column) r.left r.width k e
        (leb-true r.left k c.0) (ltb-true k (r.left + r.width) c.1)))

-- the rows of a rectangle have the mask's bits added, and the others are as they were
abbrev pub AddsMask : ℕ → ℕ → ℕ → List ℕ → List ℕ → Type 0
AddsMask top bottom mask rows new =
    (length new ≡ length rows) × ((k : ℕ) → k < length rows
    → get_or new k 0 ≡ cond (nat_le top k && nat_lt k bottom) (bit_or (get_or rows k 0) mask) (get_or rows k 0))

-- the numbers stay those of rows
pub mask_rows : (d top bottom mask : ℕ) (rows new : List ℕ) → IsRows d rows → mask < 2 ^ side d → AddsMask top bottom mask rows new
    → IsRows d new
mask_rows d top bottom mask rows new h low adds =
    (adds.0 ∙ h.0, All-from_get_or (Below (side d)) new 0 below)
  where
    each : (b : Bool) (x : ℕ) → x < 2 ^ side d → cond b (bit_or x mask) x < 2 ^ side d
    each true x l = or_lt (side d) x mask l low
    each false x l = l

    below : (k : ℕ) → k < length new → get_or new k 0 < 2 ^ side d
    below k l =
        let inside : k < length rows = omega (arith, adds.0) in
        rw (adds.1 k inside) (each (nat_le top k && nat_lt k bottom) (get_or rows k 0) (All-get_or (Below (side d)) rows k 0 inside h.1))

cells_by : (n x : ℕ) (test : ℕ → Bool) → ((k : ℕ) → k < n → is_set x k ≡ test k) → row_cells n x ≡ map test (range_with_len 0 n)
cells_by n x test e = fill_by_all test (row_cells n x) n false (length-row_cells n x) (λ k l. get_or-row_cells n x k false l ∙ e k l)

-- a set with a rectangle's cells added
pub rows_with : (d : ℕ) (rows new : List ℕ) (r : Rectangle) (mask : ℕ) → IsRows d rows → HasColumns mask r.left r.width
    → AddsMask r.top (r.top + r.height) mask rows new → grid_cells d new ≡ with_rectangle d (grid_cells d rows) r
unfolding with_rectangle grid_of
rows_with d rows new r mask h columns adds =
    fill_by_all (λ row. map (λ column. grid_has (grid_cells d rows) row column || holds r row column) (indices d)) (grid_cells d new)
    (side d) [] (length-map new (row_cells (side d)) ∙ adds.0 ∙ h.0) each
  where
    bit : (b : Bool) (x k : ℕ) → is_set (cond b (bit_or x mask) x) k ≡ (is_set x k || (b && nat_le r.left k && nat_lt k (r.left + r.width)))
    bit true x k = set_or x mask k ∙ ap (λ (c : Bool). is_set x k || c) (columns k)
    bit false x k = grind arith

    each : (row : ℕ) → row < side d → get_or (grid_cells d new) row []
        ≡ map (λ column. grid_has (grid_cells d rows) row column || holds r row column) (indices d)
    each row l =
        let inside : row < length rows = omega (arith, h.0) in
        let here : row < length new = omega (arith, adds.0) in
        get_or-map (row_cells (side d)) new row 0 [] here
        ∙ cells_by (side d) (get_or new row 0) (λ column. grid_has (grid_cells d rows) row column || holds r row column)
        (λ column m.
        ap (λ (x : ℕ). is_set x column) (adds.1 row inside)
        ∙ bit (nat_le r.top row && nat_lt row (r.top + r.height)) (get_or rows row 0) column
        ∙ ap (λ (c : Bool). c || holds r row column) (sym (has_at d rows row column inside m)))

-- ---- rows that are all one
pub one_rows : (d n x : ℕ) → n ≡ side d → x < 2 ^ side d → IsRows d (replicate n x)
one_rows d n x e h = (length-replicate n x ∙ e, All-replicate (Below (side d)) n x h)

pub one_row : (d n x : ℕ) (b : Bool) → n ≡ side d → ((column : ℕ) → column < side d → is_set x column ≡ b)
    → grid_cells d (replicate n x) ≡ grid_of d (λ row column. b)
unfolding grid_of
one_row d n x b e h =
    fill_by_all (λ row. map (λ column. b) (indices d)) (grid_cells d (replicate n x)) (side d) []
    (length-map (replicate n x) (row_cells (side d)) ∙ length-replicate n x ∙ e)
    (λ k l.
    let here : k < length (replicate n x) = omega (arith, length-replicate n x) in
    get_or-map (row_cells (side d)) (replicate n x) k 0 [] here
    ∙ ap (row_cells (side d)) (get_or-replicate n k x 0 (omega arith))
    ∙ cells_by (side d) x (λ column. b) h)

-- ---- sets that are one

numbers_are : (xs ys : List ℕ) → pointwise nat_eq xs ys ≡ true → xs ≡ ys
numbers_are [] [] h = refl
numbers_are [] (y ∷ ys) h = absurd cc
numbers_are (x ∷ xs) [] h = absurd cc
numbers_are (x ∷ xs) (y ∷ ys) h =
    let parts = and_parts (nat_eq x y) (pointwise nat_eq xs ys) h in
    rw (eqb-true x y parts.0, numbers_are xs ys parts.1) refl

numbers_self : (xs : List ℕ) → pointwise nat_eq xs xs ≡ true
numbers_self [] = refl
numbers_self (x ∷ xs) = and_from _ _ (eq-eqb x x refl) (numbers_self xs)

-- a test of the rows' numbers tells whether the sets are one
pub rows_tell : (d : ℕ) (rows others : List ℕ) (g h : Grid) (r : Bool) → grid_cells d rows ≡ g → grid_cells d others ≡ h
    → IsRows d rows → IsRows d others → r ≡ pointwise nat_eq rows others → (r ≡ true) ↔ (g ≡ h)
rows_tell d rows others g h r e f i j k = (
  λ t. sym e ∙ ap (grid_cells d) (numbers_are rows others (sym k ∙ t)) ∙ f,
  λ q. let same : others ≡ rows = sym (rows_back d others j) ∙ ap row_numbers (f ∙ sym q ∙ sym e) ∙ rows_back d rows i in
      k ∙ ap (pointwise nat_eq rows) same ∙ numbers_self rows,
)
