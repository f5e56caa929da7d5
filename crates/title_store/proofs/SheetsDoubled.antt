-- A sheet on the finer grid has the same rows.
use Rattle.std.proofs.Common.{◌≡◌, ℕ, zero, suc, ◌+◌, ◌<◌, ◌≤◌, Bool, true, false, cond, ◌&&◌, inl, inr, List, [], ◌∷◌, ◌++◌, map}
use Rattle.std.{proofs.Common.{length, Option, Some, None, refl, sym, ap, subst, ◌∙◌, arith, if◌then◌else◌}, specs.Prelude.{nat_lt}}
use Rattle.std.specs.List.{flat_map, list_all}
use Rattle.std.proofs.lemmas.Bool.{and_parts, and_from, lt-ltb, ltb-true, le-ltb, ltb-false, cases_Bool, false_from_ne_true}
use Rattle.title_share.specs.Division.{Division}
use Rattle.title_land.specs.declared.{survey.{Township.{Township}, Section.{Section}, Cell.{Cell}}, rectangle.Quarter.{Quarter}}
use Rattle.title_land.specs.{declared.node.Node.{Node}, Survey.{same_section}, Rectangles.{holds}, Lands.{cover_of}}
use Rattle.title_land.specs.{Nodes.{square, quarters, node_has, IsNode}, CellLists.{sections_of, plant_cells, node_cells, children_of}}
use Rattle.title_land.specs.{Doubled.{cell_in, four_cells, doubled}, Laws.Members.{In, in_mapped, in_filter, in_filtered, filter_none}}
use Rattle.title_land.specs.Laws.{SameLand.{same_section-is}, Squares.{inside, sized}, LandSharing.{cover_in_tree}}
use Rattle.title_land.specs.Laws.{CoversDoubled.{cover_doubles}, CellsDoubled.{four_halved}, ListsDoubled.{node_cells_double}}
use Rattle.title_land.specs.declared.node.Node.TheVariants as node
use Rattle.title_instrument.specs.{declared.parts.Estate.{Estate}, Owners.{holding_of}}
use Rattle.title_store.specs.{declared.sheet_row.SheetRow.{SheetRow}, Plants.{Plant}, DepthLaws.{finer, SheetDoubles}}
use Rattle.title_store.specs.{Sheets.{same_division, one_holding, rows_or, sheet_below, estates, sheet_of}, Laws.TractNodes.{quarter_in}}
use Rattle.title_store.specs.Laws.SheetLaws.{same_divisions_are_equal}

-- ---- one holding

same_self : (x : Division) → same_division x x ≡ true
same_self x = (same_divisions_are_equal x x).1 refl

four_and : (b rest : Bool) → (b && (b && (b && (b && rest)))) ≡ (b && rest)
four_and true rest = refl
four_and false rest = refl

-- the cell's holding is this one
abbrev has_holding : Estate → Plant → Division → Cell → Bool
has_holding e p x c = same_division (holding_of e (p c)) x

all_double : (e : Estate) (p : Plant) (x : Division) (cs : List Cell)
    → list_all (has_holding e (finer p) x) (flat_map four_cells cs) ≡ list_all (has_holding e p x) cs
all_double e p x [] = refl
all_double e p x (c ∷ cs) =
    let a = four_halved _ c (inl refl) in
    let b = four_halved _ c (inr (inl refl)) in
    let d = four_halved _ c (inr (inr (inl refl))) in
    let f = four_halved _ c (inr (inr (inr (inl refl)))) in
    let has = has_holding e p x in
    (λ i. has (a i) && (has (b i) && (has (d i) && (has (f i) && all_double e p x cs i))))
    ∙ four_and (has_holding e p x c) (list_all (has_holding e p x) cs)

-- the four of each cell have one holding exactly where the cells have it
one_double : (e : Estate) (p : Plant) (cs : List Cell) → one_holding e (finer p) (flat_map four_cells cs) ≡ one_holding e p cs
one_double e p [] = refl
one_double e p (c ∷ cs) =
    let a = four_halved _ c (inl refl) in
    let b = four_halved _ c (inr (inl refl)) in
    let d = four_halved _ c (inr (inr (inl refl))) in
    let f = four_halved _ c (inr (inr (inr (inl refl)))) in
    let x = holding_of e (p c) in
    let first : (c : Cell) → Division = λ c. holding_of e (p c) in
    (λ i. cond (has_holding e p (first (a i)) (b i) && (has_holding e p (first (a i)) (d i) && (has_holding e p (first (a i)) (f i)
    && list_all (has_holding e (finer p) (first (a i))) (flat_map four_cells cs)))) (Some (first (a i))) None)
    ∙ (λ i. cond (same_self x i && (same_self x i && (same_self x i && all_double e p x cs i))) (Some x) None)

node_double : (d : ℕ) (ts : List Township) (e : Estate) (p : Plant) (n : Node) → IsNode d n
    → one_holding e (finer p) (node_cells (suc d) ts n) ≡ one_holding e p (node_cells d ts n)
node_double d ts e p n h = ap (one_holding e (finer p)) (node_cells_double d ts n h) ∙ one_double e p (node_cells d ts n)

-- ---- nodes of one cell

all_from : (f : Cell → Bool) (cs : List Cell) → ((c : Cell) → In c cs → f c ≡ true) → list_all f cs ≡ true
all_from f [] h = refl
all_from f (c ∷ cs) h = and_from (f c) (list_all f cs) (h c (inl refl)) (all_from f cs (λ x i. h x (inr i)))

-- cells that are all one have one holding, unless there are none
none_empty : (e : Estate) (p : Plant) (cs : List Cell) → ((x y : Cell) → In x cs → In y cs → x ≡ y) → one_holding e p cs ≡ None → cs ≡ []
none_empty e p [] one h = refl
none_empty e p (c ∷ cs) one h =
    let x = holding_of e (p c) in
    let all = all_from (has_holding e p x) cs (λ y i. ap (has_holding e p x) (one y c (inr i) (inl refl)) ∙ same_self x) in
    let some : Some x ≡ None = sym (ap (λ (b : Bool). cond b (Some x) None) all) ∙ h in
    absurd cc

-- the cells of a square with no level below it are one
one_cell : (d : ℕ) (ts : List Township) (s : Section) (w : List Quarter) → zero + length w ≡ d
    → (x y : Cell) → In x (node_cells d ts (node.Part s w)) → In y (node_cells d ts (node.Part s w)) → x ≡ y
unfolding node_cells
one_cell d ts s w l x y i j =
    let z = sized d zero w l in
    let height : (square d w).height ≡ 1 = z.height_is in
    let width : (square d w).width ≡ 1 = z.width_is in
    let x_has = (in_filtered (node_has d (node.Part s w)) (plant_cells d ts) x i).1 in
    let y_has = (in_filtered (node_has d (node.Part s w)) (plant_cells d ts) y j).1 in
    let a = and_parts (same_section s x.section) (holds (square d w) x.row x.column) x_has in
    let b = and_parts (same_section s y.section) (holds (square d w) y.row y.column) y_has in
    let m = inside (square d w) x.row x.column a.1 in
    let n = inside (square d w) y.row y.column b.1 in
    let section = sym (same_section-is s x.section a.0) ∙ same_section-is s y.section b.0 in
    let row : x.row ≡ y.row = omega (arith, m, n) in
    let column : x.column ≡ y.column = omega (arith, m, n) in
    λ k. cell_in (section k) (row k) (column k)

-- where a square has no cell in the plant, none of its quarters has one
quarter_none : (d : ℕ) (ts : List Township) (s : Section) (w : List Quarter) (q : Quarter) → length w ≤ d
    → node_cells d ts (node.Part s w) ≡ [] → node_cells (suc d) ts (node.Part s (q ∷ w)) ≡ []
unfolding node_cells
quarter_none d ts s w q h e =
    let above : node_cells (suc d) ts (node.Part s w) ≡ [] = node_cells_double d ts (node.Part s w) h ∙ ap (flat_map four_cells) e in
    filter_none (node_has (suc d) (node.Part s (q ∷ w))) (plant_cells (suc d) ts) (λ c i.
    false_from_ne_true (node_has (suc d) (node.Part s (q ∷ w)) c) (λ k.
    subst (λ (cs : List Cell). In c cs) above
    (in_filter (node_has (suc d) (node.Part s w)) (plant_cells (suc d) ts) c i (quarter_in (suc d) s w q c k))))

flat_none : (f : Node → List SheetRow) (ns : List Node) → ((n : Node) → In n ns → f n ≡ []) → flat_map f ns ≡ []
flat_none f [] h = refl
flat_none f (n ∷ ns) h = λ i. h n (inl refl) i ++ flat_none f ns (λ m j. h m (inr j)) i

flat_same : (f g : Node → List SheetRow) (ns : List Node) → ((n : Node) → In n ns → f n ≡ g n) → flat_map f ns ≡ flat_map g ns
flat_same f g [] h = refl
flat_same f g (n ∷ ns) h = λ i. h n (inl refl) i ++ flat_same f g ns (λ m j. h m (inr j)) i

if_true : (b : Bool) (ns : List Node) → b ≡ true → (if b then ns else []) ≡ ns
if_true b ns e = rw e refl

if_false : (b : Bool) (ns : List Node) → b ≡ false → (if b then ns else []) ≡ []
if_false b ns e = rw e refl

-- a node without cells in the plant, and without nodes below it, has no rows
no_rows : (l d : ℕ) (ts : List Township) (e : Estate) (p : Plant) (s : Section) (w : List Quarter) → length w ≡ d
    → node_cells d ts (node.Part s w) ≡ [] → sheet_below l d ts p e (node.Part s w) ≡ []
no_rows zero d ts e p s w l h = ap (λ (cs : List Cell). rows_or (node.Part s w) e (one_holding e p cs) []) h
no_rows (suc l) d ts e p s w k h =
    let below : children_of d ts (node.Part s w) ≡ [] = if_false (nat_lt (length w) d) _ (le-ltb (length w) d (omega arith)) in
    λ i. rows_or (node.Part s w) e (one_holding e p (h i)) (flat_map (sheet_below l d ts p e) (below i))

-- the sheets of a cell's quarters add no row
cell_rows : (l d : ℕ) (ts : List Township) (e : Estate) (p : Plant) (s : Section) (w : List Quarter) → length w ≡ d
    → (o : Option Division) → one_holding e p (node_cells d ts (node.Part s w)) ≡ o
    → rows_or (node.Part s w) e o (flat_map (sheet_below l (suc d) ts (finer p) e) (children_of (suc d) ts (node.Part s w)))
    ≡ rows_or (node.Part s w) e o []
cell_rows l d ts e p s w k (Some held) h = refl
cell_rows l d ts e p s w k None h =
    let empty = none_empty e p (node_cells d ts (node.Part s w)) (one_cell d ts s w (omega arith)) h in
    let below = if_true (nat_lt (length w) (suc d)) (map (λ q. node.Part s (q ∷ w)) quarters) (lt-ltb (length w) (suc d) (omega arith)) in
    ap (flat_map (sheet_below l (suc d) ts (finer p) e)) below
    ∙ flat_none (sheet_below l (suc d) ts (finer p) e) (map (λ q. node.Part s (q ∷ w)) quarters) (λ n i.
    let q = in_mapped (λ q. node.Part s (q ∷ w)) n quarters i in
    ap (sheet_below l (suc d) ts (finer p) e) q.2
    ∙ no_rows l (suc d) ts e (finer p) s (q.0 ∷ w) (omega arith) (quarter_none d ts s w q.0 (omega arith) empty))

-- ---- sheets

-- the number of nodes above a node
abbrev rank : Node → ℕ
rank node.Everything = 0
rank (node.Township t) = 1
rank (node.Part s w) = length w + 2

-- with one level more to go down, the sheet has the same rows
below_double : (l d : ℕ) (ts : List Township) (e : Estate) (p : Plant) (n : Node) → IsNode d n → d + 2 ≤ l + rank n
    → sheet_below (suc l) (suc d) ts (finer p) e n ≡ sheet_below l d ts p e n
below_double zero d ts e p node.Everything h k = absurd (omega arith)
below_double zero d ts e p (node.Township t) h k = absurd (omega arith)
below_double zero d ts e p (node.Part s w) h k =
    let n = node.Part s w in
    let parts = flat_map (sheet_below zero (suc d) ts (finer p) e) (children_of (suc d) ts n) in
    ap (λ (held : Option Division). rows_or n e held parts) (node_double d ts e p n h)
    ∙ cell_rows zero d ts e p s w (omega arith) _ refl
below_double (suc l) d ts e p node.Everything h k =
    let o = node_double d ts e p node.Everything h in
    let parts = flat_same (sheet_below (suc l) (suc d) ts (finer p) e) (sheet_below l d ts p e) (map (λ t. node.Township t) ts) (λ n i.
    let t = in_mapped (λ t. node.Township t) n ts i in
    subst (λ (m : Node). sheet_below (suc l) (suc d) ts (finer p) e m ≡ sheet_below l d ts p e m) (sym t.2)
    (below_double l d ts e p (node.Township t.0) tt (omega arith))) in
    λ i. rows_or node.Everything e (o i) (parts i)
below_double (suc l) d ts e p (node.Township t) h k =
    let o = node_double d ts e p (node.Township t) h in
    let sections = map (λ s. node.Part s []) (sections_of t) in
    let parts = flat_same (sheet_below (suc l) (suc d) ts (finer p) e) (sheet_below l d ts p e) sections (λ n i.
    let s = in_mapped (λ s. node.Part s []) n (sections_of t) i in
    subst (λ (m : Node). sheet_below (suc l) (suc d) ts (finer p) e m ≡ sheet_below l d ts p e m) (sym s.2)
    (below_double l d ts e p (node.Part s.0 []) (omega arith) (omega arith))) in
    λ i. rows_or (node.Township t) e (o i) (parts i)
below_double (suc l) d ts e p (node.Part s w) h k =
    let n = node.Part s w in
    let below = map (λ q. node.Part s (q ∷ w)) quarters in
    let one = one_holding e p (node_cells d ts n) in
    let o = node_double d ts e p n h in
    elim (cases_Bool (nat_lt (length w) d)) [
      | inl short ↦
          let m : length w < d = ltb-true (length w) d short in
          let parts = flat_same (sheet_below (suc l) (suc d) ts (finer p) e) (sheet_below l d ts p e) below (λ x i.
          let q = in_mapped (λ q. node.Part s (q ∷ w)) x quarters i in
          subst (λ (y : Node). sheet_below (suc l) (suc d) ts (finer p) e y ≡ sheet_below l d ts p e y) (sym q.2)
          (below_double l d ts e p (node.Part s (q.0 ∷ w)) (omega arith) (omega arith))) in
          let here = if_true (nat_lt (length w) (suc d)) below (lt-ltb (length w) (suc d) (omega arith)) in
          let there = if_true (nat_lt (length w) d) below short in
          (λ i. rows_or n e (o i) (flat_map (sheet_below (suc l) (suc d) ts (finer p) e) (here i)))
          ∙ (λ i. rows_or n e one (parts i))
          ∙ (λ i. rows_or n e one (flat_map (sheet_below l d ts p e) (sym there i)))
      | inr long ↦
          let m : d ≤ length w = ltb-false (length w) d long in
          let none = if_false (nat_lt (length w) d) below long in
          let parts = flat_map (sheet_below (suc l) (suc d) ts (finer p) e) (children_of (suc d) ts n) in
          ap (λ (held : Option Division). rows_or n e held parts) o
          ∙ cell_rows (suc l) d ts e p s w (omega arith) one refl
          ∙ ap (λ (ns : List Node). rows_or n e one (flat_map (sheet_below l d ts p e) ns)) (sym none)
    ]

pub sheet_doubles : SheetDoubles
unfolding sheet_of
sheet_doubles d ts p x =
    let levels : suc d + 2 ≡ suc (d + 2) = omega arith in
    let same : (e : Estate) → flat_map (sheet_below (suc d + 2) (suc d) ts (finer p) e) (cover_of (suc d) (doubled d x))
    ≡ flat_map (sheet_below (d + 2) d ts p e) (cover_of d x)
    = λ e. (λ i. flat_map (sheet_below (levels i) (suc d) ts (finer p) e) (cover_doubles d x i))
    ∙ flat_same (sheet_below (suc (d + 2)) (suc d) ts (finer p) e) (sheet_below (d + 2) d ts p e) (cover_of d x) (λ n i.
    below_double (d + 2) d ts e p n (cover_in_tree d x n i) (omega arith)) in
    λ i. flat_map (λ e. same e i) estates
