-- What the trees have of a node is what the node's cells have.
use Rattle.std.proofs.Common.{◌≡◌, ◌∙◌, ap, sym, refl, subst, ℕ, zero, suc, ◌+◌, ◌-◌, ◌<◌, ◌≤◌, arith, Bool, true, ◌&&◌, inl}
use Rattle.std.proofs.{Common.{List, [], ◌∷◌, ◌++◌, length, length-append, map, get_or, Option, Some, None}, lemmas.Option.{cond_some}}
use Rattle.std.{specs.{Option.{option_map}, List.{flat_map}}, proofs.lemmas.List.{get_or-map, length-map, length-reverse}}
use Rattle.std.{specs.Prelude.{nat_lt, is_some, ◌==◌}, proofs.lemmas.Bool.{and_from, and_parts, cond_both, eq-eqb, eqb-true, ltb-true}}
use Rattle.title_share.specs.Division.{Division}
use Rattle.title_land.specs.{Depth.{depth}, declared.{survey.{Township.{Township}, Section.{Section}, Cell.{Cell}}, node.Node.{Node}}}
use Rattle.title_land.specs.{declared.{rectangle.Quarter.{Quarter}, tract.Land.{Land}}, Laws.CellMembers.{sections_of-in}}
use Rattle.title_land.specs.{Lands.{is_in_plant, is_plant_cell, cover_of}, CellLists.{sections_of, node_cells, children_of}}
use Rattle.title_land.specs.{Laws.{CoverLists.{flat_same}, Members.{In, in_mapped}}, Nodes.{quarters, node_has, square}, Rectangles.{holds}}
use Rattle.title_land.specs.{Survey.{same_section}, Laws.{SameLand.{same_township-is, same_section-is}, NodeSharing.{cell_of}}}
use Rattle.title_instrument.specs.{declared.parts.Estate.{Estate, TheVariants.{S, O, M}}, Owners.{holding_of}}
use Rattle.title_store.specs.{Plants.{IsEachOnce}, Laws.SheetHoldings.{one_found, one_from, in_node, of_node}}
use Rattle.title_store.specs.Sheets.{one_holding, rows_or, sheet_below, estate_sheet, estates, sheet_of}
use Rattle.title_tree.specs.{Paths.{way, begins, rest}, Plots.{Plot, value_at, plot_at, uniform, same_division, fits}, Trees.{plot}}
use Rattle.title_tree.specs.{CellWays.{cell_way}, Pieces.{both_have}, Laws.{Beginnings.{begins_append, rest_append}, Depths.{fits_plot_at}}}
use Rattle.title_tree.specs.Laws.{Grafts.{value_plot_at}, SameDivisions.{same_is, same_self}, CellSquares.{squares_by_paths}}
use Rattle.title_tree.specs.Laws.Uniform.{uniform_is_held, uniform_is_found}
use Rattle.title_tree_store.specs.declared.{ground.Ground.{Ground, TheVariants.{Whole, Parted}}, sections.Sections.{Sections}}
use Rattle.title_tree_store.specs.{declared.{forest.Forest.{Forest}, lent.Lent.{Lent}}, Spots.{index_of}, Keeping.{content_of, IsKept}}
use Rattle.title_tree_store.specs.Grounds.{nothing, section_plots, all_have, ground_uniform, plot_in, uniform_in}
use Rattle.title_tree_store.specs.{Forests.{grounds, plots}, TreeSheets.{node_uniform, tree_sheet}}
use Rattle.title_tree_store.proofs.CellPaths.{IsOf, is_own, index_below, section_below, township_told, section_told, plant_parts}
use Rattle.title_tree_store.proofs.{CellPaths.{grid_parts, cell_at, IsDeclared, cover_declared}, Keeps.{some_township}}
use Rattle.title_land.specs.declared.node.Node.TheVariants as node

-- ---- the one holding of plots and townships

both_some : (x y : Option Division) (w : Division) → both_have x y ≡ Some w → (x ≡ Some w) × (y ≡ Some w)
both_some None y w h = absurd cc
both_some (Some x) None w h = absurd cc
both_some (Some x) (Some y) w h =
    let k = cond_some (same_division x y) x w h in (ap Some k.1, ap Some (sym (same_is x y k.0) ∙ k.1))

-- where all have one holding each has it
all_held : (xs : List (Option Division)) (w : Division) → all_have xs ≡ Some w → (j : ℕ) → j < length xs → get_or xs j None ≡ Some w
all_held [] w h j l = absurd (omega (arith, l))
all_held (x ∷ []) w h zero l = h
all_held (x ∷ []) w h (suc j) l = absurd (omega (arith, l))
all_held (x ∷ y ∷ xs) w h zero l = (both_some x (all_have (y ∷ xs)) w h).0
all_held (x ∷ y ∷ xs) w h (suc j) l = all_held (y ∷ xs) w (both_some x (all_have (y ∷ xs)) w h).1 j (omega (arith, l))

all_found : (xs : List (Option Division)) (w : Division) → 0 < length xs → ((j : ℕ) → j < length xs → get_or xs j None ≡ Some w)
    → all_have xs ≡ Some w
all_found [] w l f = absurd (omega (arith, l))
all_found (x ∷ []) w l f = f 0 (omega arith)
all_found (x ∷ y ∷ xs) w l f =
    let first = f 0 (omega arith) in
    let others = all_found (y ∷ xs) w (omega arith) (λ j k. f (suc j) (omega (arith, k))) in
    rw (first, others, same_self w) refl

-- that of a parted township, section by section
abbrev ones : Sections → List (Option Division)
ones x = map uniform (section_plots x)

ones_are_36 : (x : Sections) → length (ones x) ≡ 36
ones_are_36 x = length-map (section_plots x) uniform ∙ length-map x.trees.items plot ∙ x.all

one_at : (x : Sections) (j : ℕ) → j < 36 → get_or (ones x) j None ≡ uniform (get_or (section_plots x) j nothing)
one_at x j l = let m = length-map x.trees.items plot ∙ x.all in get_or-map uniform (section_plots x) j nothing None (omega (arith, l, m))

-- where a township has one holding it stands in each section
township_held : (gs : List Ground) (w : Division) (i j : ℕ) → uniform_in gs i ≡ Some w → j < 36 → uniform (plot_in gs i j) ≡ Some w
township_held [] w i j h l = absurd cc
township_held (Whole tree ∷ gs) w zero j h l = h
township_held (Parted x ∷ gs) w zero j h l =
    let m = ones_are_36 x in sym (one_at x j l) ∙ all_held (ones x) w h j (omega (arith, l, m))
township_held (g ∷ gs) w (suc i) j h l = township_held gs w i j h l

township_found : (gs : List Ground) (w : Division) (i : ℕ) → i < length gs → ((j : ℕ) → j < 36 → uniform (plot_in gs i j) ≡ Some w)
    → uniform_in gs i ≡ Some w
township_found [] w i l f = absurd (omega (arith, l))
township_found (Whole tree ∷ gs) w zero l f = f 0 (omega arith)
township_found (Parted x ∷ gs) w zero l f =
    let m = ones_are_36 x in
    all_found (ones x) w (omega (arith, m)) (λ j k. let b : j < 36 = omega (arith, k, m) in one_at x j b ∙ f j b)
township_found (g ∷ gs) w (suc i) l f = township_found gs w i (omega (arith, l)) f

one_found_at : (p : List Quarter) (t : Plot) (w : Division) → fits depth t ≡ true → length p ≤ depth
    → ((c : List Quarter) → length c ≡ depth → begins p c ≡ true → value_at t c ≡ w) → uniform (plot_at p t) ≡ Some w
one_found_at p t w f l h =
    let whole : depth ≡ length p + (depth - length p) = omega (arith, l) in
    uniform_is_found (depth - length p) (plot_at p t) w (fits_plot_at depth (depth - length p) p t whole f)
    (λ c e. ap (λ (z : List Quarter). value_at (plot_at p t) z) (sym (rest_append p c))
    ∙ value_plot_at p t (p ++ c) (begins_append p c)
    ∙ h (p ++ c) (let g = length-append p c in omega (arith, g, e, l)) (begins_append p c))

-- ---- nodes and their sheets

child_declared : (ts : List Township) (n m : Node) → IsDeclared ts n → In m (children_of depth ts n) → IsDeclared ts m
child_declared ts node.Everything m of i =
    let k = in_mapped (λ t. node.Township t) m ts i in
    subst (IsDeclared ts) (sym k.2) (is_own ts k.0 k.1)
child_declared ts (node.Township t) m of i =
    let k = in_mapped (λ s. node.Part s []) m (sections_of t) i in
    let none : length {A = Quarter} [] ≤ depth = omega arith in
    subst (IsDeclared ts) (sym k.2) (subst (IsOf ts) (sym (sections_of-in t k.0 k.1)) of, none)
child_declared ts (node.Part s w) m of i = cond_both (nat_lt (length w) depth) (map (λ q. node.Part s (q ∷ w)) quarters) []
    (λ ns. In m ns → IsDeclared ts m) (λ e j.
    let k = in_mapped (λ q. node.Part s (q ∷ w)) m quarters j in
    let l = ltb-true (length w) depth e in
    let short : length (k.0 ∷ w) ≤ depth = omega (arith, l) in
    subst (IsDeclared ts) (sym k.2) (of.0, short)) (λ _ j. absurd j) i

option_same : (a b : Option Division) → ((w : Division) → a ≡ Some w → b ≡ Some w) → ((w : Division) → b ≡ Some w → a ≡ None → ⊥) → a ≡ b
option_same None None f g = refl
option_same None (Some w) f g = absurd (g w refl refl)
option_same (Some w) b f g = sym (f w refl)

-- ---- where a node lies, by indices and a path

abbrev lies : List Township → Node → ℕ → ℕ → List Quarter → Bool
lies ts node.Everything i j p = true
lies ts (node.Township t) i j p = index_of ts t == i
lies ts (node.Part s w) i j p = (index_of ts s.township == i && s.number - 1 == j) && begins (way w) p

lies_told : (ts : List Township) (n : Node) (c : Cell) → IsDeclared ts n → is_plant_cell depth ts c ≡ true
    → lies ts n (index_of ts c.section.township) (c.section.number - 1) (cell_way depth c.row c.column) ≡ node_has depth n c
lies_told ts node.Everything c of plant = refl
lies_told ts (node.Township t) c of plant = township_told ts t c.section.township of (plant_parts ts c plant).1
lies_told ts (node.Part s w) c of plant =
    let k = plant_parts ts c plant in
    let g = grid_parts c k.0 in
    let told = section_told ts s c.section of.0 k.1 in
    let by = squares_by_paths depth w c.row c.column of.1 g.0 g.1 in
    λ i. told i && sym by i

-- each node of a plant has a cell of it
node_cell : (ts : List Township) (n : Node) → IsDeclared ts n → 0 < length ts → (c : Cell) × In c (node_cells depth ts n)
node_cell [] node.Everything of some = absurd (omega (arith, some))
node_cell (t ∷ ts) node.Everything of some =
    let k = cell_of depth (node.Township t) tt in
    let own = subst (IsOf (t ∷ ts)) (same_township-is t k.cell.section.township k.has_is) (is_own (t ∷ ts) t (inl refl)) in
    (k.cell, in_node depth (t ∷ ts) node.Everything k.cell refl (and_from _ _ k.on_grid_is own))
node_cell ts (node.Township t) of some =
    let k = cell_of depth (node.Township t) tt in
    let own = subst (IsOf ts) (same_township-is t k.cell.section.township k.has_is) of in
    (k.cell, in_node depth ts (node.Township t) k.cell k.has_is (and_from _ _ k.on_grid_is own))
node_cell ts (node.Part s w) of some =
    let k = cell_of depth (node.Part s w) of.1 in
    let same = and_parts (same_section s k.cell.section) (holds (square depth w) k.cell.row k.cell.column) k.has_is in
    let own = subst (λ (u : Section). IsOf ts u.township) (same_section-is s k.cell.section same.0) of.0 in
    (k.cell, in_node depth ts (node.Part s w) k.cell k.has_is (and_from _ _ k.on_grid_is own))

-- of the trees of a plant
module _ {ts : List Township} {f : Forest} {lent : List Lent} {next : ℕ} (kept : IsKept ts f lent next) (once : IsEachOnce ts) where
  -- what a cell of the plant has of an estate
  cell_holding : (e : Estate) (c : Cell) → is_plant_cell depth ts c ≡ true → holding_of e (content_of ts (plots f) c)
      ≡ value_at (plots f e (index_of ts c.section.township) (c.section.number - 1)) (cell_way depth c.row c.column)
  cell_holding S c plant = rw plant refl
  cell_holding O c plant = rw plant refl
  cell_holding M c plant = rw plant refl

  module _ (some : 0 < length ts) (e : Estate) where
    -- the one holding of a node stands at each place in it
    held : (n : Node) (w : Division) → node_uniform ts (grounds f e) n ≡ Some w → (i j : ℕ) (p : List Quarter) → i < length ts → j < 36
        → lies ts n i j p ≡ true → value_at (plots f e i j) p ≡ w
    held node.Everything w h i j p l m k =
        let size = length-map (grounds f e) ground_uniform ∙ kept.sized e in
        uniform_is_held (plots f e i j) w
        (township_held (grounds f e) w i j (all_held (map ground_uniform (grounds f e)) w h i (omega (arith, l, size))) m) p
    held (node.Township t) w h i j p l m k = uniform_is_held (plots f e i j) w (township_held (grounds f e) w i j
        (ap (uniform_in (grounds f e)) (sym (eqb-true (index_of ts t) i k)) ∙ h) m) p
    held (node.Part s v) w h i j p l m k =
        let a = and_parts (index_of ts s.township == i && s.number - 1 == j) (begins (way v) p) k in
        let b = and_parts (index_of ts s.township == i) (s.number - 1 == j) a.0 in
        let at = sym (eqb-true (index_of ts s.township) i b.0) in
        let number = sym (eqb-true (s.number - 1) j b.1) in
        let t = plots f e (index_of ts s.township) (s.number - 1) in
        (λ o. value_at (plots f e (at o) (number o)) p) ∙ sym (value_plot_at (way v) t p a.1)
        ∙ uniform_is_held (plot_at (way v) t) w h (rest (way v) p)

    township_from : (w : Division) (i : ℕ) → i < length ts
        → ((j : ℕ) (p : List Quarter) → j < 36 → length p ≡ depth → value_at (plots f e i j) p ≡ w) → uniform_in (grounds f e) i ≡ Some w
    township_from w i l h =
        let size = kept.sized e in
        township_found (grounds f e) w i (omega (arith, l, size)) (λ j m.
        one_found_at [] (plots f e i j) w (kept.fit e i j l m) (omega arith) (λ p long b. h j p m long))

    -- what stands at each place in a node is its one holding
    found : (n : Node) (w : Division) → IsDeclared ts n → ((i j : ℕ) (p : List Quarter) → i < length ts → j < 36 → length p ≡ depth
        → lies ts n i j p ≡ true → value_at (plots f e i j) p ≡ w) → node_uniform ts (grounds f e) n ≡ Some w
    found node.Everything w of h =
        let size = length-map (grounds f e) ground_uniform ∙ kept.sized e in
        all_found (map ground_uniform (grounds f e)) w (omega (arith, some, size)) (λ i l.
        let there : i < length ts = omega (arith, l, size) in township_from w i there (λ j p m long. h i j p there m long refl))
    found (node.Township t) w of h =
        let i = index_of ts t in
        let there = index_below ts t of in
        township_from w i there (λ j p m long. h i j p there m long (eq-eqb i i refl))
    found (node.Part s v) w of h =
        let i = index_of ts s.township in
        let j = s.number - 1 in
        let there = index_below ts s.township of.0 in
        let below = section_below s in
        let l = length-reverse v in
        let short = of.1 in
        one_found_at (way v) (plots f e i j) w (kept.fit e i j there below) (omega (arith, l, short)) (λ p long b.
        h i j p there below long (and_from _ _ (and_from _ _ (eq-eqb i i refl) (eq-eqb j j refl)) b))

    one_holding_is : (n : Node) → IsDeclared ts n
        → one_holding e (content_of ts (plots f)) (node_cells depth ts n) ≡ node_uniform ts (grounds f e) n
    one_holding_is n of = option_same _ _ (λ w h. found n w of (λ i j p l m long k.
        -- a cell at a place in the node is one of its cells
        let c = cell_at ts i j p once l m long in
        let here = in_node depth ts n c.cell (sym (lies_told ts n c.cell of c.plant)
        ∙ (λ o. lies ts n (c.township_is o) (c.section_is o) (c.path_is o)) ∙ k) c.plant in
        sym (λ o. value_at (plots f e (c.township_is o) (c.section_is o)) (c.path_is o)) ∙ sym (cell_holding e c.cell c.plant)
        ∙ one_found e (content_of ts (plots f)) (node_cells depth ts n) w c.cell h here)) (λ w h.
        let cell = node_cell ts n of some in
        one_from e (content_of ts (plots f)) (node_cells depth ts n) w cell.0 cell.1 (λ c i.
        let k = of_node depth ts n c i in
        cell_holding e c k.1 ∙ held n w h (index_of ts c.section.township) (c.section.number - 1) (cell_way depth c.row c.column)
        (index_below ts c.section.township (plant_parts ts c k.1).1) (section_below c.section) (lies_told ts n c of k.1 ∙ k.0)))

    -- the sheet that is read off the trees is that of its cells
    tree_sheet_is : (below : ℕ) (n : Node) → IsDeclared ts n
        → tree_sheet below ts (grounds f e) e n ≡ sheet_below below depth ts (content_of ts (plots f)) e n
    tree_sheet_is zero n of = ap (λ (o : Option Division). rows_or n e o []) (sym (one_holding_is n of))
    tree_sheet_is (suc below) n of = λ i. rows_or n e (sym (one_holding_is n of) i)
        (flat_same (tree_sheet below ts (grounds f e) e) (sheet_below below depth ts (content_of ts (plots f)) e) (children_of depth ts n)
        (λ m j. tree_sheet_is below m (child_declared ts n m of j)) i)

  -- of a tract for one estate
  pub part_is : (land : Land) (e : Estate) → is_in_plant ts land ≡ true
      → flat_map (tree_sheet (depth + 2) ts (grounds f e) e) (cover_of depth land) ≡ estate_sheet depth ts (content_of ts (plots f)) land e
  part_is land e of = flat_same (tree_sheet (depth + 2) ts (grounds f e) e) (sheet_below (depth + 2) depth ts (content_of ts (plots f)) e)
      (cover_of depth land) (λ n i. tree_sheet_is (some_township ts land of) e (depth + 2) n (cover_declared ts land n of i))

  -- of a tract
  pub sheet_is : (land : Land) → is_in_plant ts land ≡ true
      → flat_map (λ e. flat_map (tree_sheet (depth + 2) ts (grounds f e) e) (cover_of depth land)) estates
      ≡ sheet_of depth ts (content_of ts (plots f)) land
  unfolding sheet_of
  sheet_is land of = flat_same (λ e. flat_map (tree_sheet (depth + 2) ts (grounds f e) e) (cover_of depth land))
      (λ e. estate_sheet depth ts (content_of ts (plots f)) land e) estates (λ e i. part_is land e of)

  -- whether there is one holding in a section, by what stands there
  pub section_one : (e : Estate) (s : Section) (x : Plot) → IsOf ts s.township → x ≡ plots f e (index_of ts s.township) (s.number - 1)
      → uniform x ≡ one_holding e (content_of ts (plots f)) (node_cells depth ts (node.Part s []))
  section_one e s x of at =
      let l = index_below ts s.township of in
      ap uniform at ∙ sym (one_holding_is (omega (arith, l)) e (node.Part s []) (of, omega arith))

-- a test of it
pub one_test : {A : Type 0} (f : A → Division) (o : Option A) (b : Bool) (one : Option Division) → b ≡ is_some o → option_map f o ≡ one
    → b ≡ is_some one
one_test f None b one test is = test ∙ ap is_some is
one_test f (Some x) b one test is = test ∙ ap is_some is
