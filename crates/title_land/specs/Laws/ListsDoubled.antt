-- The cells in their order, where each section is quartered once more.
use Rattle.std.proofs.Common.{◌≡◌, ℕ, zero, suc, ◌+◌, ◌*◌, ◌/◌, ◌≤◌, Bool, true, false, cond, inl, inr, List, [], ◌∷◌, ◌++◌, map, length}
use Rattle.std.{proofs.{Common.{refl, sym, ap, ◌∙◌, arith}, lemmas.Bool.{and_parts}}, specs.List.{list_any, flat_map, filter}}
use Rattle.std.proofs.lemmas.{List.Elements.{filter-append}, Grind.{flat_map-append}}
use Rattle.title_land.specs.declared.{survey.{Township.{Township}, Section.{Section}, Cell.{Cell}}, rectangle.Quarter.{Quarter}}
use Rattle.title_land.specs.{declared.rectangle.Rectangle.{Rectangle}, Survey.{same_township, is_on_grid}, Rectangles.{quarter_of}}
use Rattle.title_land.specs.{Nodes.{square, quarters, node_has}, Lands.{has}, CellLists.{node_cells}, Laws.{Members.{In}, Squares.{sized}}}
use Rattle.title_land.specs.CellLists.{sections_of, corner_of, cells_below, section_cells, township_cells, plant_cells, cells_of}
use Rattle.title_land.specs.{Doubled.{cell_in, four_cells, doubled, CellsDouble, NodeCellsDouble}, Laws.CellMembers.{plant_cells-in}}
use Rattle.title_land.specs.Laws.SquaresDoubled.{square_double}
use Rattle.title_land.specs.Laws.CellsDoubled.{four_halved, grid_double, doubled_has_the_cells, nodes_have_the_cells}

-- lists of lists are joined in either order
pub flat_twice : {A B C : Type 0} (f : A → List B) (g : B → List C) (xs : List A)
    → flat_map (λ x. flat_map g (f x)) xs ≡ flat_map g (flat_map f xs)
flat_twice f g [] = refl
flat_twice {C = C} f g (x ∷ xs) =
    ap (λ (ys : List C). flat_map g (f x) ++ ys) (flat_twice f g xs)
    ∙ sym (flat_map-append g (f x) (flat_map f xs))

-- the corner of a cell's quarter is one of its four
corners : (d : ℕ) (s : Section) (w : List Quarter) → zero + length w ≡ d
    → cells_below (suc d) s 1 w ≡ four_cells (corner_of s (square d w)) ++ []
corners d s w l =
    let z = sized d zero w l in
    let h : (square d w).height ≡ 1 = z.height_is in
    let k : (square d w).width ≡ 1 = z.width_is in
    let short : length w ≤ d = omega arith in
    let r = square d w in
    let top : 2 * r.top + (2 * r.height) / 2 ≡ 2 * r.top + 1 = omega arith in
    let left : 2 * r.left + (2 * r.width) / 2 ≡ 2 * r.left + 1 = omega arith in
    ap (λ (x : Rectangle). map (λ q. corner_of s (quarter_of q x)) quarters)
    (square_double d w short)
    ∙ (λ i. cell_in s (2 * r.top) (left i) ∷ cell_in s (2 * r.top) (2 * r.left)
    ∷ cell_in s (top i) (2 * r.left) ∷ cell_in s (top i) (left i) ∷ [])

-- the cells of a square are, in order, the four of each
below_double : (d : ℕ) (s : Section) (levels : ℕ) (w : List Quarter) → levels + length w ≡ d
    → cells_below (suc d) s (suc levels) w ≡ flat_map four_cells (cells_below d s levels w)
below_double d s zero w l = corners d s w l
below_double d s (suc levels) w l =
    let each : (q : Quarter) → cells_below (suc d) s (suc levels) (q ∷ w) ≡ flat_map four_cells (cells_below d s levels (q ∷ w))
    = λ q. below_double d s levels (q ∷ w) (omega arith) in
    (λ i. flat_map (λ q. each q i) quarters) ∙ flat_twice (λ q. cells_below d s levels (q ∷ w)) four_cells quarters

section_double : (d : ℕ) (s : Section) → section_cells (suc d) s ≡ flat_map four_cells (section_cells d s)
section_double d s = below_double d s d [] (omega arith)

township_double : (d : ℕ) (t : Township) → township_cells (suc d) t ≡ flat_map four_cells (township_cells d t)
township_double d t = (λ i. flat_map (λ s. section_double d s i) (sections_of t)) ∙ flat_twice (section_cells d) four_cells (sections_of t)

-- the plant's cells are, in order, the four of each
pub plant_double : (d : ℕ) (ts : List Township) → plant_cells (suc d) ts ≡ flat_map four_cells (plant_cells d ts)
unfolding plant_cells
plant_double d ts = (λ i. flat_map (λ t. township_double d t i) ts) ∙ flat_twice (township_cells d) four_cells ts

four_pass : (p : Cell → Bool) (b : Bool) (x y z u : Cell) → p x ≡ b → p y ≡ b → p z ≡ b → p u ≡ b
    → filter p (x ∷ y ∷ z ∷ u ∷ []) ≡ cond b (x ∷ y ∷ z ∷ u ∷ []) []
four_pass p true x y z u e f g h = rw (e, f, g, h) refl
four_pass p false x y z u e f g h = rw (e, f, g, h) refl

one_more : (b : Bool) (c : Cell) (cs : List Cell)
    → cond b (four_cells c) [] ++ flat_map four_cells cs ≡ flat_map four_cells (cond b (c ∷ cs) cs)
one_more true c cs = refl
one_more false c cs = refl

-- where the four of each cell pass a test exactly where the cell passes another, what passes is the four of each that does
pub filter_double : (p q : Cell → Bool) (cs : List Cell) → ((c : Cell) → In c cs → (x : Cell) → In x (four_cells c) → p x ≡ q c)
    → filter p (flat_map four_cells cs) ≡ flat_map four_cells (filter q cs)
filter_double p q [] f = refl
filter_double p q (c ∷ cs) f =
    let here : (x : Cell) → In x (four_cells c) → p x ≡ q c = λ x i. f c (inl refl) x i in
    filter-append p (four_cells c) (flat_map four_cells cs)
    ∙ (λ i. four_pass p (q c) _ _ _ _ (here _ (inl refl)) (here _ (inr (inl refl)))
    (here _ (inr (inr (inl refl)))) (here _ (inr (inr (inr (inl refl))))) i
    ++ filter_double p q cs (λ x j. f x (inr j)) i)
    ∙ one_more (q c) c (filter q cs)

pub cells_double : CellsDouble
unfolding cells_of
cells_double d ts x =
    ap (filter (has (doubled d x))) (plant_double d ts)
    ∙ filter_double (has (doubled d x)) (has x) (plant_cells d ts) (λ c i y j.
    let e = four_halved y c j in
    let o = (and_parts (is_on_grid d c) (list_any (same_township c.section.township) ts) (plant_cells-in d ts c i)).0 in
    doubled_has_the_cells d x y (grid_double d y ∙ ap (is_on_grid d) e ∙ o) ∙ ap (has x) e)

pub node_cells_double : NodeCellsDouble
unfolding node_cells
node_cells_double d ts n h =
    ap (filter (node_has (suc d) n)) (plant_double d ts)
    ∙ filter_double (node_has (suc d) n) (node_has d n) (plant_cells d ts) (λ c i y j.
    nodes_have_the_cells d n y h ∙ ap (node_has d n) (four_halved y c j))
