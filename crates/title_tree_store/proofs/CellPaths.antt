-- Where the cells of a plant lie: the index of a township, that of a section, and a path.
use Rattle.std.proofs.Common.{◌≡◌, ◌∙◌, ap, sym, refl, subst, ℕ, zero, suc, ◌+◌, lt-ltb, ◌-◌, ◌<◌, ◌≤◌, arith, Bool, true, false, cond}
use Rattle.std.proofs.Common.{◌&&◌, ◌||◌, add-one, get_or, inl, inr, List, [], ◌∷◌, ◌++◌, length, length-append, reverse}
use Rattle.std.{proofs.lemmas.Bool.Decides.{nat_tests}, specs.{Prelude.{nat_lt, ◌==◌}, List.{list_any, list_all, flat_map}}}
use Rattle.std.proofs.{lemmas.{List.{length-reverse, reverse-reverse}, Bool.{ltb-true, or_right}}, Math.Bool.{or-false}}
use Rattle.std.proofs.lemmas.Bool.{and_from, and_parts, cond_both, and_right, both_ways, cases_Bool, eq-eqb, eqb-true, false_from_ne_true}
use Rattle.title_land.specs.{Depth.{depth}, declared.grid.Grid.{Grid}, Rectangles.{holds}, Grids.{grid_has}, Laws.NodeLands.{path_after}}
use Rattle.title_land.specs.{declared.{survey.{Township.{Township}, Section.{Section}}, node.Node.{Node}}, Nodes.{square, node_has, IsNode}}
use Rattle.title_land.specs.{declared.survey.Cell.{Cell}, Laws.LandSharing.{cover_has_its_cells, cover_in_tree, part_found, equal_tests}}
use Rattle.title_land.specs.{declared.{rectangle.Quarter.{Quarter}, tract.Land.{Land}}, Laws.Members.{any_from, all_at, In, in_flat_mapped}}
use Rattle.title_land.specs.{Survey.{side, same_township, same_section, is_on_grid}, CoverSets.{path_before, comes_before, are_in_order}}
use Rattle.title_land.specs.{Lands.{has, cover_of, is_in_plant, is_plant_cell}, Laws.CoverSet.{cell_in_grid, cover_is_cover}}
use Rattle.title_land.specs.Laws.{SameLand.{same_township-is, same_township-self, same_section-self}, Squares.{holds_from, has_corner}}
use Rattle.title_store.specs.{Plants.{IsEachOnce}, Laws.SheetShows.{cover_apart}}
use Rattle.title_tree.specs.{Paths.{way, begins}, CellWays.{cell_way}, Laws.CellSquares.{squares_by_paths, cell_ways_are_whole}}
use Rattle.title_tree.specs.{Pieces.{Disjoint, InOrder, Short}, Laws.Beginnings.{begins_on, begins_self, begins_whole}}
use Rattle.title_tree.specs.Laws.{PathLists.{has_flat, has_from, disjoint_join}, Uniform.{corner, length-corner}}
use Rattle.title_tree_store.specs.{Spots.{index_of, home_in, node_ways, tract_ways, ways_at, ways_in, IsHome}, declared.spots.Home.{Home}}
use Rattle.title_land.specs.declared.node.Node.TheVariants as node
use Rattle.title_land.specs.declared.tract.Land.TheVariants as land
use Rattle.title_tree_store.specs.declared.spots.Home.TheVariants as home
use Rattle.title_tree.specs.Pieces as pieces

-- ---- townships and sections by their indices

-- a township is one of these
abbrev pub IsOf : List Township → Township → Type 0
IsOf ts t = list_any (same_township t) ts ≡ true

pub is_own : (ts : List Township) (t : Township) → In t ts → IsOf ts t
is_own ts t i = any_from (same_township t) ts t i (same_township-self t)

pub section_below : (s : Section) → s.number - 1 < 36
section_below s = let n = s.numbered in omega (arith, n.0, n.1)

-- that a township's index is that of one of the list tells that it is one of them
pub index_told : (ts : List Township) (t : Township) → nat_lt (index_of ts t) (length ts) ≡ list_any (same_township t) ts
index_told [] t = refl
index_told (u ∷ ts) t = elim (cases_Bool (same_township t u)) [
  | inl e ↦ rw e (lt-ltb 0 (suc (length ts)) (omega arith))
  | inr e ↦ rw e (next (index_of ts t) (length ts) ∙ index_told ts t)
]
  where
    next : (n m : ℕ) → nat_lt (n + 1) (suc m) ≡ nat_lt n m
    next n m = grind (arith, nat_tests)

pub index_below : (ts : List Township) (t : Township) → IsOf ts t → index_of ts t < length ts
index_below ts t h = ltb-true (index_of ts t) (length ts) (index_told ts t ∙ h)

at_index : (ts : List Township) (t d : Township) → IsOf ts t → get_or ts (index_of ts t) d ≡ t
at_index [] t d h = absurd cc
at_index (u ∷ ts) t d h = elim (cases_Bool (same_township t u)) [
  | inl e ↦ rw e (sym (same_township-is t u e))
  | inr e ↦ (let k : IsOf ts t = rw e at h in rw (e, add-one) (at_index ts t d k))
]

-- the township of an index
pub township_at : (ts : List Township) (i : ℕ) → IsEachOnce ts → i < length ts → (t : Township) × IsOf ts t × (index_of ts t ≡ i)
township_at [] i once l = absurd (omega (arith, l))
township_at (u ∷ ts) zero once l = (u, is_own (u ∷ ts) u (inl refl), rw (same_township-self u) refl)
township_at (u ∷ ts) (suc i) once l =
    let k = township_at ts i once.1 (omega (arith, l)) in
    let other : same_township k.0 u ≡ false = false_from_ne_true (same_township k.0 u) (λ h.
    both_ways (list_any (same_township u) ts) once.0 (subst (IsOf ts) (same_township-is k.0 u h) k.1)) in
    let more = k.2 in
    (k.0, or_right (same_township k.0 u) (list_any (same_township k.0) ts) k.1, rw other (omega (arith, more)))

pub index_at : (ts : List Township) (i : ℕ) (t : Township) → IsEachOnce ts → i < length ts → t ≡ get_or ts i t → index_of ts t ≡ i
index_at ts i t once l at =
    let k = township_at ts i once l in
    ap (index_of ts) (at ∙ ap (λ (n : ℕ). get_or ts n t) (sym k.2) ∙ at_index ts k.0 t k.1) ∙ k.2

-- townships are one where their indices are
pub township_told : (ts : List Township) (t u : Township) → IsOf ts t → IsOf ts u → (index_of ts t == index_of ts u) ≡ same_township t u
township_told ts t u h k = equal_tests _ _
    (λ e. subst (λ (v : Township). same_township t v ≡ true) (sym (at_index ts t t h)
    ∙ ap (λ (n : ℕ). get_or ts n t) (eqb-true (index_of ts t) (index_of ts u) e) ∙ at_index ts u t k) (same_township-self t))
    (λ e. eq-eqb (index_of ts t) (index_of ts u) (ap (index_of ts) (same_township-is t u e)))

number_told : (s u : Section) → (s.number - 1 == u.number - 1) ≡ (s.number == u.number)
number_told s u = let a = s.numbered in let b = u.numbered in grind (arith, nat_tests, a.0, b.0)

-- so are sections
pub section_told : (ts : List Township) (s u : Section) → IsOf ts s.township → IsOf ts u.township
    → (index_of ts s.township == index_of ts u.township && s.number - 1 == u.number - 1) ≡ same_section s u
section_told ts s u h k = λ i. township_told ts s.township u.township h k i && number_told s u i

-- where a tract of the plant lies there are such townships and sections
pub is_there : (ts : List Township) (x : Land) → is_in_plant ts x ≡ true → IsHome (length ts) (home_in ts x)
is_there ts land.Everything of = tt
is_there ts (land.Township t) of = index_below ts t of
is_there ts (land.Part s g) of = (index_below ts s.township of, section_below s)

-- a node whose township is declared
abbrev pub IsDeclared : List Township → Node → Type 0
IsDeclared ts node.Everything = Unit {0}
IsDeclared ts (node.Township t) = IsOf ts t
IsDeclared ts (node.Part s w) = IsOf ts s.township × (length w ≤ depth)

-- the nodes of a cover are declared where the tract is in the plant
pub cover_declared : (ts : List Township) (x : Land) (n : Node) → is_in_plant ts x ≡ true → In n (cover_of depth x) → IsDeclared ts n
unfolding cover_of
cover_declared ts land.Everything n h i = elim i [ inl e ↦ subst (IsDeclared ts) (sym e) tt | inr z ↦ absurd z ]
cover_declared ts (land.Township t) n h i = elim i [ inl e ↦ subst (IsDeclared ts) (sym e) h | inr z ↦ absurd z ]
cover_declared ts (land.Part s g) n h i =
    let p = part_found depth s g n i in
    let long = p.found.long in
    subst (IsDeclared ts) (sym p.node_is) (h, omega (arith, long))

-- ---- cells of a section by their paths

pub plant_parts : (ts : List Township) (c : Cell) → is_plant_cell depth ts c ≡ true
    → (is_on_grid depth c ≡ true) × IsOf ts c.section.township
plant_parts ts c h = and_parts (is_on_grid depth c) (list_any (same_township c.section.township) ts) h

pub grid_parts : (c : Cell) → is_on_grid depth c ≡ true → (c.row < side depth) × (c.column < side depth)
grid_parts c h =
    let k = and_parts (nat_lt c.row (side depth)) (nat_lt c.column (side depth)) h in
    (ltb-true c.row (side depth) k.0, ltb-true c.column (side depth) k.1)

-- a cell of a section at a path
in_section : (s : Section) (p : List Quarter) → length p ≡ depth
    → (c : Cell) × (c.section ≡ s) × (is_on_grid depth c ≡ true) × (cell_way depth c.row c.column ≡ p)
in_section s p l =
    let w = reverse p in
    let long : length w ≡ depth = length-reverse p ∙ l in
    let none : 0 + length w ≡ depth = omega (arith, long) in
    let short : length w ≤ depth = omega (arith, long) in
    let i = has_corner depth 0 w none in
    let c : Cell = record { section = s; row = (square depth w).top; column = (square depth w).left } in
    let grid = cell_in_grid depth s w c.row c.column short i in
    let g = grid_parts c grid in (
      c,
      refl,
      grid,
      sym (begins_whole (way w) (cell_way depth c.row c.column) (length-reverse w ∙ long
          ∙ sym (cell_ways_are_whole depth c.row c.column)) (sym (squares_by_paths depth w c.row c.column short g.0 g.1)
          ∙ holds_from (square depth w) c.row c.column i)) ∙ reverse-reverse p,
    )

-- a cell of the plant at a path of a section
pub record CellAt (ts : List Township) (i j : ℕ) (p : List Quarter) : Type 0 where
  pub cell : Cell
  pub plant : is_plant_cell depth ts cell ≡ true
  pub township_is : index_of ts cell.section.township ≡ i
  pub section_is : cell.section.number - 1 ≡ j
  pub path_is : cell_way depth cell.row cell.column ≡ p

-- there is one at each path of a cell's length
pub cell_at : (ts : List Township) (i j : ℕ) (p : List Quarter) → IsEachOnce ts → i < length ts → j < 36 → length p ≡ depth
    → CellAt ts i j p
cell_at ts i j p once l m long =
    let t = township_at ts i once l in
    let number : j + 1 - 1 ≡ j = omega arith in
    let low : 1 ≤ j + 1 = omega arith in
    let high : j + 1 ≤ 36 = omega (arith, m) in
    let s : Section = record { township = t.0; number = j + 1; numbered = (low, high) } in
    let c = in_section s p long in
    record {
      cell = c.0;
      plant = and_from _ _ c.2 (subst (λ (u : Section). IsOf ts u.township) (sym c.1) t.1);
      township_is = ap (λ (u : Section). index_of ts u.township) c.1 ∙ t.2;
      section_is = ap (λ (u : Section). u.number - 1) c.1 ∙ number;
      path_is = c.3;
    }

-- a path that goes on to the northeast, down to a cell
abbrev pub whole : List Quarter → List Quarter
whole q = q ++ corner (depth - length q)

pub length-whole : (q : List Quarter) → length q ≤ depth → length (whole q) ≡ depth
length-whole q short =
    let long = length-corner (depth - length q) in
    let e = length-append q (corner (depth - length q)) in
    omega (arith, short, long, e)

pub has_whole : (ps : List (List Quarter)) (p q : List Quarter) → In p ps → begins p q ≡ true → pieces.has ps (whole q) ≡ true
has_whole ps p q i h = has_from ps p (whole q) i (begins_on p q (corner (depth - length q)) h)

-- ---- the paths of a tract

node_short : (n : Node) → IsNode depth n → Short (node_ways n) depth
node_short (node.Part s w) short p i = elim i [
  | inl e ↦ subst (λ (z : List Quarter). length z ≤ depth) (sym e) (let l = length-reverse w in omega (arith, l, short))
  | inr z ↦ absurd z
]
node_short _ short p i = absurd i

-- what holds of a section's root, of a tract's paths and of none
each_ways : (P : List (List Quarter) → Type 0) (ps : List (List Quarter)) → P ([] ∷ []) → P [] → P ps → (h : Home) (i j : ℕ)
    → P (ways_at h ps i j)
each_ways P ps root none own home.Everything i j = root
each_ways P ps root none own (home.Township t) i j = cond_both (t == i) ([] ∷ []) [] P (λ _. root) (λ _. none)
each_ways P ps root none own (home.Section n t) i j = cond_both (t == i && n == j) ps [] P (λ _. own) (λ _. none)

-- no path of a tract goes deeper than a cell
pub tract_short : (ts : List Township) (x : Land) (i j : ℕ) → Short (ways_in ts x i j) depth
tract_short ts x i j = each_ways (λ ps. Short ps depth) (tract_ways x)
    (λ p k. elim k [ inl e ↦ subst (λ (z : List Quarter). length z ≤ depth) (sym e) (omega arith) | inr z ↦ absurd z ]) (λ p k. absurd k)
    (λ p k. let n = in_flat_mapped node_ways (cover_of depth x) p k in node_short n.0 (cover_in_tree depth x n.0 n.1) p n.2)
    (home_in ts x) i j

-- a square of a section's cover has a cell of the section exactly where its path begins the cell's
node_has_at : (s : Section) (g : Grid) (n : Node) (c : Cell) → In n (cover_of depth (land.Part s g)) → is_on_grid depth c ≡ true
    → same_section s c.section ≡ true → pieces.has (node_ways n) (cell_way depth c.row c.column) ≡ node_has depth n c
unfolding cover_of
node_has_at s g n c i grid same =
    let k = part_found depth s g n i in
    let long = k.found.long in
    let short : length k.quarters ≤ depth = omega (arith, long) in
    let at = grid_parts c grid in
    subst (λ (m : Node). pieces.has (node_ways m) (cell_way depth c.row c.column) ≡ node_has depth m c) (sym k.node_is)
    (or-false (begins (way k.quarters) (cell_way depth c.row c.column))
    ∙ sym (squares_by_paths depth k.quarters c.row c.column short at.0 at.1)
    ∙ sym (ap (λ (b : Bool). b && holds (square depth k.quarters) c.row c.column) same))

any_agree : (p q : Node → Bool) (ns : List Node) → ((n : Node) → In n ns → p n ≡ q n) → list_any p ns ≡ list_any q ns
any_agree p q [] f = refl
any_agree p q (n ∷ ns) f = λ i. f n (inl refl) i || any_agree p q ns (λ m j. f m (inr j)) i

root_has : (b : Bool) (p : List Quarter) → pieces.has (cond b ([] ∷ []) []) p ≡ b
root_has true p = refl
root_has false p = refl

-- a cell of the plant lies in a tract exactly where one of the tract's paths in its section begins the cell's
pub tract_has : (ts : List Township) (x : Land) (c : Cell) → is_in_plant ts x ≡ true → is_plant_cell depth ts c ≡ true
    → pieces.has (ways_in ts x (index_of ts c.section.township) (c.section.number - 1)) (cell_way depth c.row c.column) ≡ has x c
unfolding has
tract_has ts land.Everything c of plant = refl
tract_has ts (land.Township t) c of plant = root_has (index_of ts t == index_of ts c.section.township) (cell_way depth c.row c.column)
    ∙ township_told ts t c.section.township of (plant_parts ts c plant).1
tract_has ts (land.Part s g) c of plant =
    let k = plant_parts ts c plant in
    let p = cell_way depth c.row c.column in
    let ways = tract_ways (land.Part s g) in
    ap (λ (b : Bool). pieces.has (cond b ways []) p) (section_told ts s c.section of k.1)
    ∙ cond_both (same_section s c.section) ways [] (λ ps. pieces.has ps p ≡ has (land.Part s g) c)
    (λ same. has_flat node_ways (cover_of depth (land.Part s g)) p
    ∙ any_agree (λ n. pieces.has (node_ways n) p) (λ n. node_has depth n c) (cover_of depth (land.Part s g))
    (λ n i. node_has_at s g n c i k.0 same) ∙ sym (cover_has_its_cells depth (land.Part s g) c k.0))
    (λ other. sym (ap (λ (b : Bool). b && grid_has g c.row c.column) other))

pub tract_has_at : (ts : List Township) (x : Land) (i j : ℕ) (p : List Quarter) (c : CellAt ts i j p) → is_in_plant ts x ≡ true
    → pieces.has (ways_in ts x i j) p ≡ has x c.cell
tract_has_at ts x i j p c of =
    (λ k. pieces.has (ways_in ts x (sym c.township_is k) (sym c.section_is k)) (sym c.path_is k)) ∙ tract_has ts x c.cell of c.plant

-- ---- no two of them lie one below the other

before_self : (n : Node) → comes_before n n ≡ false
before_self (node.Part s w) = and_right (same_section s s) (path_before (reverse w) (reverse w)) (path_after (reverse w))
before_self _ = refl

own_apart : (n : Node) → Disjoint (node_ways n)
own_apart (node.Part s w) = (λ q i. absurd i, tt)
own_apart _ = tt

-- nodes in order, of which one's path begins another's only where they are one
ways_apart : (ns : List Node) → ((m n : Node) (p q : List Quarter) → In m ns → In n ns → In p (node_ways m) → In q (node_ways n)
    → begins p q ≡ true → m ≡ n) → are_in_order ns ≡ true → Disjoint (flat_map node_ways ns)
ways_apart [] one order = tt
ways_apart (n ∷ ns) one order =
    let k = and_parts (list_all (comes_before n) ns) (are_in_order ns) order in
    let other = λ (m : Node) (i : In m ns) (e : n ≡ m). both_ways (comes_before n n) (before_self n)
    (subst (λ (z : Node). comes_before n z ≡ true) (sym e) (all_at (comes_before n) ns m k.0 i)) in
    disjoint_join (node_ways n) (flat_map node_ways ns) (own_apart n) (ways_apart ns (λ y z p q i j. one y z p q (inr i) (inr j)) k.1)
    (λ p q i j. let y = in_flat_mapped node_ways ns q j in (
      false_from_ne_true (begins p q) (λ h. other y.0 y.1 (one n y.0 p q (inl refl) (inr y.1) i y.2 h)),
      false_from_ne_true (begins q p) (λ h. other y.0 y.1 (sym (one y.0 n q p (inr y.1) (inl refl) y.2 i h))),
    ))

-- nodes of a cover of which one's path begins the other's are one: they have a cell in common
one_node : (s : Section) (g : Grid) (m n : Node) (p q : List Quarter) → In m (cover_of depth (land.Part s g))
    → In n (cover_of depth (land.Part s g)) → In p (node_ways m) → In q (node_ways n) → begins p q ≡ true → m ≡ n
one_node s g m n p q i j a b h =
    let c = in_section s (whole q) (length-whole q (node_short n (cover_in_tree depth (land.Part s g) n j) q b)) in
    let own = ap (same_section s) c.1 ∙ same_section-self s in
    cover_apart depth (land.Part s g) m n c.0 i j
    (sym (node_has_at s g m c.0 i c.2 own) ∙ ap (pieces.has (node_ways m)) c.3 ∙ has_whole (node_ways m) p q a h)
    (sym (node_has_at s g n c.0 j c.2 own) ∙ ap (pieces.has (node_ways n)) c.3 ∙ has_whole (node_ways n) q q b (begins_self q))

-- no two paths of a tract lie one below the other
pub own_ways_apart : (x : Land) → Disjoint (tract_ways x)
unfolding cover_of
own_ways_apart (land.Part s g) =
    ways_apart (cover_of depth (land.Part s g)) (one_node s g) (cover_is_cover depth (land.Part s g)).order
own_ways_apart _ = tt

-- nor two of those that lie in a section
pub tract_apart : (ts : List Township) (x : Land) (i j : ℕ) → Disjoint (ways_in ts x i j)
tract_apart ts x i j = each_ways Disjoint (tract_ways x) (λ q i. absurd i, tt) tt (own_ways_apart x) (home_in ts x) i j

-- ---- they stand in order

way_before : (s : Section) (w : List Quarter) (m : Node) (q : List Quarter) → comes_before (node.Part s w) m ≡ true → In q (node_ways m)
    → path_before (way w) q ≡ true
way_before s w (node.Part u v) q h (inl e) =
    ap (path_before (way w)) e ∙ (and_parts (same_section s u) (path_before (reverse w) (reverse v)) h).1
way_before s w (node.Part u v) q h (inr i) = absurd i
way_before s w node.Everything q h i = absurd i
way_before s w (node.Township t) q h i = absurd i

ways_in_order : (ns : List Node) → are_in_order ns ≡ true → InOrder (flat_map node_ways ns)
ways_in_order [] order = tt
ways_in_order (node.Part s w ∷ ns) order =
    let k = and_parts (list_all (comes_before (node.Part s w)) ns) (are_in_order ns) order in (
      λ q i. let y = in_flat_mapped node_ways ns q i in
          way_before s w y.0 q (all_at (comes_before (node.Part s w)) ns y.0 k.0 y.1) y.2,
      ways_in_order ns k.1,
    )
ways_in_order (node.Everything ∷ ns) order =
    ways_in_order ns (and_parts (list_all (comes_before node.Everything) ns) (are_in_order ns) order).1
ways_in_order (node.Township t ∷ ns) order =
    ways_in_order ns (and_parts (list_all (comes_before (node.Township t)) ns) (are_in_order ns) order).1

pub own_ways_in_order : (x : Land) → InOrder (tract_ways x)
unfolding cover_of
own_ways_in_order (land.Part s g) =
    ways_in_order (cover_of depth (land.Part s g)) (cover_is_cover depth (land.Part s g)).order
own_ways_in_order _ = tt
