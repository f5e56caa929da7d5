-- A sheet depends on the cells of its tract alone.
use Rattle.std.proofs.Common.{◌≡◌, ℕ, zero, suc, ◌+◌, true, cond, ◌&&◌, ◌==◌, List, [], ◌∷◌, ◌++◌, Option, Some, None, refl, sym, ap, ◌∙◌}
use Rattle.std.{proofs.lemmas.Bool.{and_from, and_parts, eqb-true, eq-eqb}, specs.List.{AllByRecursion, flat_map, list_all}}
use Rattle.title_share.specs.Division.{Division, rows_of, same_rows}
use Rattle.title_land.specs.{declared.{survey.{Township.{Township}, Cell.{Cell}}, node.Node.{Node}, tract.Land.{Land}}, Nodes.{node_has}}
use Rattle.title_land.specs.{Lands.{has, cover_of, is_plant_cell}, CellLists.{node_cells, children_of}}
use Rattle.title_instrument.specs.{declared.parts.Estate.{Estate}, Owners.{holding_of}}
use Rattle.title_store.specs.{declared.sheet_row.SheetRow.{SheetRow}, Plants.{Plant}, StoreLaws.{SheetSame, SameDivisionsAreEqual}}
use Rattle.title_store.specs.Sheets.{same_entries, same_division, one_holding, rows_or, sheet_below, estates, sheet_of}
use Rattle.title_store.specs.Laws.{Each.{each_from, flat_map_same}, PlantCells.{node_each}, TractNodes.{cover_within, children_within}}

all_same : (e : Estate) (p q : Plant) (x y : Division) (cells : List Cell) → x ≡ y
    → AllByRecursion (λ c. holding_of e (p c) ≡ holding_of e (q c)) cells
    → list_all (λ c. same_division (holding_of e (p c)) x) cells ≡ list_all (λ c. same_division (holding_of e (q c)) y) cells
all_same e p q x y [] same h = refl
all_same e p q x y (c ∷ cells) same h = λ i. same_division (h.0 i) (same i) && all_same e p q x y cells same h.1 i

one_same : (e : Estate) (p q : Plant) (cells : List Cell) → AllByRecursion (λ c. holding_of e (p c) ≡ holding_of e (q c)) cells
    → one_holding e p cells ≡ one_holding e q cells
one_same e p q [] h = refl
one_same e p q (c ∷ cells) h = λ i.
    cond (all_same e p q (holding_of e (p c)) (holding_of e (q c)) cells h.0 h.1 i) (Some (h.0 i)) None

-- the plants have the same holding of an estate in each of a node's cells
abbrev SameIn : ℕ → List Township → Estate → Plant → Plant → Node → Type 0
SameIn d ts e p q n = (c : Cell) → node_has d n c ≡ true → is_plant_cell d ts c ≡ true → holding_of e (p c) ≡ holding_of e (q c)

node_same : (d : ℕ) (ts : List Township) (e : Estate) (p q : Plant) (n : Node) → SameIn d ts e p q n
    → one_holding e p (node_cells d ts n) ≡ one_holding e q (node_cells d ts n)
node_same d ts e p q n same =
    one_same e p q (node_cells d ts n)
    (each_from (λ c. (node_has d n c ≡ true) × (is_plant_cell d ts c ≡ true)) (λ c. holding_of e (p c) ≡ holding_of e (q c)) _
    (λ c h. same c h.0 h.1) (node_each d ts n))

below_same : (levels d : ℕ) (ts : List Township) (e : Estate) (p q : Plant) (n : Node) → SameIn d ts e p q n
    → sheet_below levels d ts p e n ≡ sheet_below levels d ts q e n
below_same zero d ts e p q n same = ap (λ (o : Option Division). rows_or n e o []) (node_same d ts e p q n same)
below_same (suc levels) d ts e p q n same =
    let parts = flat_map_same (sheet_below levels d ts p e) (sheet_below levels d ts q e) (children_of d ts n)
    (each_from (λ m. (c : Cell) → node_has d m c ≡ true → node_has d n c ≡ true)
    (λ m. sheet_below levels d ts p e m ≡ sheet_below levels d ts q e m) _
    (λ m h. below_same levels d ts e p q m (λ c k. same c (h c k))) (children_within d ts n)) in
    λ i. rows_or n e (node_same d ts e p q n same i) (parts i)

-- the part of a sheet for an estate depends on the holdings of that estate alone
pub holding_same : (d : ℕ) (ts : List Township) (land : Land) (p q : Plant) (e : Estate)
    → ((c : Cell) → (has land c && is_plant_cell d ts c) ≡ true → holding_of e (p c) ≡ holding_of e (q c))
    → flat_map (sheet_below (d + 2) d ts p e) (cover_of d land) ≡ flat_map (sheet_below (d + 2) d ts q e) (cover_of d land)
holding_same d ts land p q e same =
    flat_map_same (sheet_below (d + 2) d ts p e) (sheet_below (d + 2) d ts q e) (cover_of d land)
    (each_from (λ n. (c : Cell) → node_has d n c ≡ true → has land c ≡ true)
    (λ n. sheet_below (d + 2) d ts p e n ≡ sheet_below (d + 2) d ts q e n) _
    (λ n h. below_same (d + 2) d ts e p q n (λ c k l. same c (and_from (has land c) _ (h c k) l))) (cover_within d land))

estate_same : (d : ℕ) (ts : List Township) (land : Land) (p q : Plant)
    → ((c : Cell) → (has land c && is_plant_cell d ts c) ≡ true → p c ≡ q c) → (e : Estate)
    → flat_map (sheet_below (d + 2) d ts p e) (cover_of d land) ≡ flat_map (sheet_below (d + 2) d ts q e) (cover_of d land)
estate_same d ts land p q same e = holding_same d ts land p q e (λ c h. ap (holding_of e) (same c h))

each_estate : (f g : Estate → List SheetRow) → ((e : Estate) → f e ≡ g e) → (es : List Estate) → flat_map f es ≡ flat_map g es
each_estate f g h [] = refl
each_estate f g h (e ∷ es) = λ i. h e i ++ each_estate f g h es i

pub sheet_same : SheetSame
unfolding sheet_of
sheet_same d ts land p q same = each_estate _ _ (estate_same d ts land p q same) estates

entries_is : (xs ys : List (ℕ × ℕ)) → same_entries xs ys ≡ true → xs ≡ ys
entries_is [] [] h = refl
entries_is [] (y ∷ ys) h = absurd cc
entries_is (x ∷ xs) [] h = absurd cc
entries_is (x ∷ xs) (y ∷ ys) h =
    let parts = and_parts (x.0 == y.0 && x.1 == y.1) (same_entries xs ys) h in
    let numbers = and_parts (x.0 == y.0) (x.1 == y.1) parts.0 in
    let a = eqb-true x.0 y.0 numbers.0 in
    let b = eqb-true x.1 y.1 numbers.1 in
    let rest = entries_is xs ys parts.1 in
    λ i. (a i, b i) ∷ rest i

entries_self : (xs : List (ℕ × ℕ)) → same_entries xs xs ≡ true
entries_self [] = refl
entries_self (x ∷ xs) = and_from _ _ (and_from _ _ (eq-eqb x.0 x.0 refl) (eq-eqb x.1 x.1 refl)) (entries_self xs)

pub same_divisions_are_equal : SameDivisionsAreEqual
same_divisions_are_equal d e = (
  (λ h. same_rows d e (entries_is (rows_of d) (rows_of e) h)),
  (λ h. sym (ap (λ (x : Division). same_division d x) h) ∙ entries_self (rows_of d)),
)
