-- Rectangles that share cells, and the cells of several.
use Rattle.std.proofs.Common.{◌≡◌, ◌∙◌, ℕ, zero, suc, ◌+◌, ◌<◌, ◌≤◌, Bool, true, false, ◌||◌, inl, inr, List, [], ◌∷◌, map, max, refl, sym}
use Rattle.std.{proofs.Common.{ap, arith}, specs.{Bool.{Decides}, List.{list_any, range_with_len}}}
use Rattle.std.proofs.lemmas.Bool.{and_parts, or_cases, or_left, or_right, Decides.{nat_tests, Decides-or}}
use Rattle.title_land.specs.{declared.{grid.Grid.{Grid}, rectangle.Rectangle.{Rectangle}}, Survey.{side}}
use Rattle.title_land.specs.{Rectangles.{holds, rectangles_meet, SharesCell, InSection}, Laws.GridSharing.{grids_found, grids_from}}
use Rattle.title_land.specs.Grids.{grid_has, grid_of, with_rectangle, grids_meet, indices}
use Rattle.title_land.specs.Laws.GridLaws.{grid_has-grid_of, grid_has-everywhere, on_side}
use Rattle.title_aliquot.specs.Meaning.{SharesCellWithOne, Overlap, union}

-- ---- sharing a cell

pub meets_decides : (r s : Rectangle) → Decides (rectangles_meet r s) (SharesCell r s)
meets_decides r s = (
  (λ h. (max r.top s.top, max r.left s.left, grind (arith, nat_tests), grind (arith, nat_tests))),
  (λ h. grind (arith, nat_tests)),
)

none_decides : Decides false ⊥
none_decides = ((λ h. absurd cc), (λ h. absurd h))

pub one_decides : (r : Rectangle) (others : List Rectangle) → Decides (list_any (rectangles_meet r) others) (SharesCellWithOne r others)
one_decides r [] = none_decides
one_decides r (s ∷ others) =
    Decides-or (rectangles_meet r s) (list_any (rectangles_meet r) others) (meets_decides r s) (one_decides r others)

pub overlap_none : Decides false (Overlap [])
overlap_none = none_decides

pub overlap_next : (r : Rectangle) (others : List Rectangle) (a b : Bool) → a ≡ list_any (rectangles_meet r) others →
    Decides b (Overlap others) → Decides (a || b) (Overlap (r ∷ others))
overlap_next r others a b e d = rw e (Decides-or (list_any (rectangles_meet r) others) b (one_decides r others) d)

-- ---- the cells of several

map_same : {X : Type 0} (f g : ℕ → X) (a n : ℕ) → ((k : ℕ) → a ≤ k → k < a + n → f k ≡ g k) →
    map f (range_with_len a n) ≡ map g (range_with_len a n)
map_same f g a zero h = refl
map_same {X} f g a (suc n) h =
    let rest = map_same f g (a + 1) n (λ k l m. h k (omega arith) (omega arith)) in
    rw (h a (omega arith) (omega arith)) (ap (λ (xs : List X). g a ∷ xs) rest)

-- two tests that agree on the grid have one set
pub grid_same : (depth : ℕ) (f g : ℕ → ℕ → Bool) →
    ((row column : ℕ) → row < side depth → column < side depth → f row column ≡ g row column) → grid_of depth f ≡ grid_of depth g
unfolding grid_of
grid_same depth f g h =
    let rows : map (λ row. map (λ column. f row column) (indices depth)) (indices depth)
    ≡ map (λ row. map (λ column. g row column) (indices depth)) (indices depth) =
    map_same (λ row. map (λ column. f row column) (indices depth)) (λ row. map (λ column. g row column) (indices depth)) 0 (side depth)
    (λ row l m. map_same (λ column. f row column) (λ column. g row column) 0 (side depth)
    (λ column i j. h row column (omega arith) (omega arith))) in
    rows

or_turned : (a b : Bool) → (a || b) ≡ (b || a)
or_turned true true = refl
or_turned true false = refl
or_turned false true = refl
or_turned false false = refl

-- one more rectangle
pub union_next : (depth : ℕ) (r : Rectangle) (shapes : List Rectangle) (g h : Grid) → g ≡ grid_of depth (union shapes) →
    h ≡ with_rectangle depth g r →
    h ≡ grid_of depth (union (r ∷ shapes))
unfolding with_rectangle
union_next depth r shapes g h e k =
    k ∙ grid_same depth (λ row column. grid_has g row column || holds r row column) (union (r ∷ shapes))
    (λ row column m n.
    ap (λ (z : Grid). grid_has z row column || holds r row column) e
    ∙ ap (λ (b : Bool). b || holds r row column) (grid_has-grid_of depth (union shapes) row column m n)
    ∙ or_turned (union shapes row column) (holds r row column))

-- ---- a rectangle and the cells of others

-- a cell that the rectangle shares with the others
record SharedCell (r : Rectangle) (others : List Rectangle) : Type 0 where
  row : ℕ
  column : ℕ
  here : holds r row column ≡ true
  there : union others row column ≡ true

-- it's a cell of one of them
shared_one : (r : Rectangle) (others : List Rectangle) (row column : ℕ) → holds r row column ≡ true → union others row column ≡ true →
    SharesCellWithOne r others
shared_one r [] row column h k = absurd cc
shared_one r (s ∷ others) row column h k = elim (or_cases (holds s row column) (union others row column) k) [
  | inl e ↦ inl (row, column, h, e)
  | inr e ↦ inr (shared_one r others row column h e)
]

-- and the other way
shared_cell : (r : Rectangle) (others : List Rectangle) → SharesCellWithOne r others → SharedCell r others
shared_cell r [] h = absurd h
shared_cell r (s ∷ others) (inl h) = record {
  row = h.0;
  column = h.1;
  here = h.2;
  there = or_left (holds s h.0 h.1) (union others h.0 h.1) h.3;
}
shared_cell r (s ∷ others) (inr h) =
    let k = shared_cell r others h in
    let there = or_right (holds s k.row k.column) (union others k.row k.column) k.there in
    record { row = k.row; column = k.column; here = k.here; there = there }

-- the cells of a rectangle inside the section stand on the grid
on_grid : (depth : ℕ) (r : Rectangle) (row column : ℕ) → InSection depth r → holds r row column ≡ true →
    (row < side depth) × (column < side depth)
on_grid depth r row column inside h = (grind (arith, nat_tests), grind (arith, nat_tests))

-- the cell of a set made from a test passes it
passes : (depth : ℕ) (test : ℕ → ℕ → Bool) (g : Grid) (row column : ℕ) → g ≡ grid_of depth test → grid_has g row column ≡ true →
    test row column ≡ true
passes depth test g row column e h =
    let everywhere = grid_has-everywhere depth test row column in
    let has = sym everywhere ∙ ap (λ (z : Grid). grid_has z row column) (sym e) ∙ h in
    (and_parts (on_side depth row column) (test row column) has).1

-- and the other way, on the grid
has_passing : (depth : ℕ) (test : ℕ → ℕ → Bool) (g : Grid) (row column : ℕ) → g ≡ grid_of depth test →
    (row < side depth) × (column < side depth) → test row column ≡ true →
    grid_has g row column ≡ true
has_passing depth test g row column e on h =
    ap (λ (z : Grid). grid_has z row column) e ∙ grid_has-grid_of depth test row column on.0 on.1 ∙ h

-- the set of a rectangle alone, and that of others
shared_found : (depth : ℕ) (r : Rectangle) (others : List Rectangle) (g a : Grid) → g ≡ grid_of depth (union others) →
    a ≡ grid_of depth (union (r ∷ [])) →
    grids_meet g a ≡ true → SharesCellWithOne r others
shared_found depth r others g a e k m =
    let spot = grids_found g a m in
    let there = passes depth (union others) g spot.0 spot.1 e spot.2 in
    let alone = passes depth (union (r ∷ [])) a spot.0 spot.1 k spot.3 in
    elim (or_cases (holds r spot.0 spot.1) (union [] spot.0 spot.1) alone) [
      | inl here ↦ shared_one r others spot.0 spot.1 here there
      | inr none ↦ absurd cc
    ]

shared_from : (depth : ℕ) (r : Rectangle) (others : List Rectangle) (g a : Grid) → InSection depth r → g ≡ grid_of depth (union others) →
    a ≡ grid_of depth (union (r ∷ [])) →
    SharesCellWithOne r others → grids_meet g a ≡ true
shared_from depth r others g a inside e k h =
    let spot = shared_cell r others h in
    let on = on_grid depth r spot.row spot.column inside spot.here in
    let alone = or_left (holds r spot.row spot.column) (union [] spot.row spot.column) spot.here in
    grids_from g a spot.row spot.column (has_passing depth (union others) g spot.row spot.column e on spot.there)
    (has_passing depth (union (r ∷ [])) a spot.row spot.column k on alone)

pub shared_decides : (depth : ℕ) (r : Rectangle) (others : List Rectangle) (g a : Grid) → InSection depth r →
    g ≡ grid_of depth (union others) → a ≡ grid_of depth (union (r ∷ [])) →
    Decides (grids_meet g a) (SharesCellWithOne r others)
shared_decides depth r others g a inside e k =
    ((λ m. shared_found depth r others g a e k m), (λ h. shared_from depth r others g a inside e k h))
