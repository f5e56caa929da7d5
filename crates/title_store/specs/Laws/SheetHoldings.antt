-- The one holding of a node's cells, and the nodes right below a node.
use Rattle.std.proofs.Common.{◌≡◌, ℕ, zero, suc, ◌+◌, ◌≤◌, Bool, true, inl, inr, List, [], ◌∷◌, length, map}
use Rattle.std.{proofs.Common.{Some, None, refl, sym, ap, subst, ◌∙◌, arith}, specs.Prelude.{nat_lt}}
use Rattle.std.{proofs.lemmas.Bool.{and_from, and_parts, cases_Bool, eq-eqb, lt-ltb}, specs.List.{list_all, list_any}}
use Rattle.title_share.specs.Division.{Division}
use Rattle.title_land.specs.declared.{survey.{Township.{Township}, Section.{Section}, Cell.{Cell}}, rectangle.Quarter.{Quarter}}
use Rattle.title_land.specs.{declared.node.{Node.{Node}, Within.{Within}}, Survey.{is_on_grid, same_township, same_section}}
use Rattle.title_land.specs.{Rectangles.{holds, quarter_of}, Nodes.{square, quarters, node_has, parent_of}, Lands.{is_plant_cell}}
use Rattle.title_land.specs.{CellLists.{sections_of, node_cells, children_of}, Laws.Members.{In, any_found, in_map, in_mapped}}
use Rattle.title_land.specs.Laws.SameLand.{same_township-is, same_section-is, same_section-self, same_township-self}
use Rattle.title_land.specs.Laws.{Squares.{inside, holds_from, sized, quarters_apart}, CoverCells.{in_a_quarter}}
use Rattle.title_land.specs.Laws.{LandSharing.{whole_section}, CellMembers.{in_sections_of, in_quarters}}
use Rattle.title_land.specs.Laws.CellMembers.{same_cells_are_equal, listed, listed_from, node_list_has_the_cells, sections_of-in}
use Rattle.title_land.specs.declared.node.Node.TheVariants as node
use Rattle.title_instrument.specs.{declared.parts.Estate.{Estate}, Owners.{holding_of}}
use Rattle.title_store.specs.{Plants.{Plant}, Sheets.{same_division, one_holding}, Laws.SheetLaws.{same_divisions_are_equal}}

all_at : (test : Cell → Bool) (cells : List Cell) (c : Cell) → list_all test cells ≡ true → In c cells → test c ≡ true
all_at test [] c h i = absurd i
all_at test (z ∷ cells) c h i =
    let k = and_parts (test z) (list_all test cells) h in
    elim i [ inl e ↦ ap test e ∙ k.0 | inr j ↦ all_at test cells c k.1 j ]

all_from : (test : Cell → Bool) (cells : List Cell) → ((c : Cell) → In c cells → test c ≡ true) → list_all test cells ≡ true
all_from test [] f = refl
all_from test (z ∷ cells) f = and_from (test z) (list_all test cells) (f z (inl refl)) (all_from test cells (λ c i. f c (inr i)))

-- each cell has the one holding
pub one_found : (e : Estate) (p : Plant) (cells : List Cell) (held : Division) (c : Cell) → one_holding e p cells ≡ Some held → In c cells
    → holding_of e (p c) ≡ held
one_found e p [] held c h i = absurd i
one_found e p (z ∷ cells) held c h i =
    let test = λ (x : Cell). same_division (holding_of e (p x)) (holding_of e (p z)) in
    elim (cases_Bool (list_all test cells)) [
      | inl y ↦
          let k : Some (holding_of e (p z)) ≡ Some held = rw y at h in
          let first : holding_of e (p z) ≡ held = cc in
          elim i [
            | inl same ↦ ap (λ (x : Cell). holding_of e (p x)) same ∙ first
            | inr j ↦ (same_divisions_are_equal (holding_of e (p c)) (holding_of e (p z))).0 (all_at test cells c y j) ∙ first
          ]
      | inr y ↦ let k : None ≡ Some held = rw y at h in absurd cc
    ]

-- cells that have one holding are found to have it
pub one_from : (e : Estate) (p : Plant) (cells : List Cell) (held : Division) (c : Cell) → In c cells
    → ((x : Cell) → In x cells → holding_of e (p x) ≡ held) → one_holding e p cells ≡ None → ⊥
one_from e p [] held c i f h = i
one_from e p (z ∷ cells) held c i f h =
    let test = λ (x : Cell). same_division (holding_of e (p x)) (holding_of e (p z)) in
    let all = all_from test cells (λ x j.
    (same_divisions_are_equal (holding_of e (p x)) (holding_of e (p z))).1 (f x (inr j) ∙ sym (f z (inl refl)))) in
    let k : Some (holding_of e (p z)) ≡ None = rw all at h in
    absurd cc

-- where there is one holding there is a cell
pub one_some : (e : Estate) (p : Plant) (cells : List Cell) (held : Division) → one_holding e p cells ≡ Some held → (c : Cell) × In c cells
one_some e p [] held h = absurd cc
one_some e p (z ∷ cells) held h = (z, inl refl)

pub in_node : (d : ℕ) (ts : List Township) (n : Node) (c : Cell) → node_has d n c ≡ true → is_plant_cell d ts c ≡ true
    → In c (node_cells d ts n)
in_node d ts n c h k =
    listed (node_cells d ts n) c (node_list_has_the_cells d ts n c ∙ and_from (node_has d n c) (is_plant_cell d ts c) h k)

pub of_node : (d : ℕ) (ts : List Township) (n : Node) (c : Cell) → In c (node_cells d ts n)
    → (node_has d n c ≡ true) × (is_plant_cell d ts c ≡ true)
of_node d ts n c i =
    and_parts (node_has d n c) (is_plant_cell d ts c) (sym (node_list_has_the_cells d ts n c) ∙ listed_from (node_cells d ts n) c i)

-- a square without squares below it has one cell
one_cell : (d : ℕ) (s : Section) (w : Within) (b c : Cell) → length w ≡ d → node_has d (node.Part s w) b ≡ true
    → node_has d (node.Part s w) c ≡ true → b ≡ c
one_cell d s w b c l h k =
    let first = and_parts (same_section s b.section) (holds (square d w) b.row b.column) h in
    let second = and_parts (same_section s c.section) (holds (square d w) c.row c.column) k in
    let i = inside (square d w) b.row b.column first.1 in
    let j = inside (square d w) c.row c.column second.1 in
    let z = sized d zero w (omega (arith, l)) in
    let tall : (square d w).height ≡ 1 = z.height_is in
    let wide : (square d w).width ≡ 1 = z.width_is in
    let row : b.row ≡ c.row = omega (arith, i.below, i.above, j.below, j.above, tall) in
    let column : b.column ≡ c.column = omega (arith, i.right, i.left, j.right, j.left, wide) in
    let sections : b.section ≡ c.section = sym (same_section-is s b.section first.0) ∙ same_section-is s c.section second.0 in
    (same_cells_are_equal b c).0 (and_from _ _ (and_from _ _
    (subst (λ (x : Section). same_section b.section x ≡ true) sections (same_section-self b.section))
    (eq-eqb b.row c.row row)) (eq-eqb b.column c.column column))

pub cell_has_one : (d : ℕ) (ts : List Township) (e : Estate) (p : Plant) (s : Section) (w : Within) (c : Cell) → length w ≡ d
    → node_has d (node.Part s w) c ≡ true → is_plant_cell d ts c ≡ true → one_holding e p (node_cells d ts (node.Part s w)) ≡ None → ⊥
cell_has_one d ts e p s w c l h k =
    one_from e p (node_cells d ts (node.Part s w)) (holding_of e (p c)) c (in_node d ts (node.Part s w) c h k)
    (λ x i. ap (λ (b : Cell). holding_of e (p b)) (one_cell d s w x c l (of_node d ts (node.Part s w) x i).0 h))

-- ---- the nodes right below a node

-- so many levels reach down to the cells
abbrev pub Reach : ℕ → ℕ → Node → Type 0
Reach levels d node.Everything = d + 2 ≤ levels
Reach levels d (node.Township t) = d + 1 ≤ levels
Reach levels d (node.Part s w) = (d ≤ levels + length w) × (length w ≤ d)

-- a square's quarters, where it isn't a cell
in_part : (d : ℕ) (ts : List Township) (s : Section) (w : Within) (m : Node) → In m (children_of d ts (node.Part s w))
    → (q : Quarter) × (m ≡ node.Part s (q ∷ w))
in_part d ts s w m i = elim (cases_Bool (nat_lt (length w) d)) [
  | inl y ↦
      let k : In m (map (λ q. node.Part s (q ∷ w)) quarters) = rw y at i in
      let found = in_mapped (λ (q : Quarter). node.Part s (q ∷ w)) m quarters k in (found.0, found.2)
  | inr y ↦ let k : In m [] = rw y at i in absurd k
]

pub child_parent : (d : ℕ) (ts : List Township) (n m : Node) → In m (children_of d ts n) → parent_of m ≡ Some n
child_parent d ts node.Everything m i =
    let found = in_mapped (λ (t : Township). node.Township t) m ts i in ap parent_of found.2
child_parent d ts (node.Township t) m i =
    let found = in_mapped (λ (s : Section). node.Part s []) m (sections_of t) i in
    ap parent_of found.2 ∙ ap (λ (u : Township). Some (node.Township u)) (sections_of-in t found.0 found.1)
child_parent d ts (node.Part s w) m i = let found = in_part d ts s w m i in ap parent_of found.1

-- two of them with a cell in common are one
pub children_apart : (d : ℕ) (ts : List Township) (n a b : Node) (c : Cell) → In a (children_of d ts n) → In b (children_of d ts n)
    → node_has d a c ≡ true → node_has d b c ≡ true → a ≡ b
children_apart d ts node.Everything a b c i j h k =
    let f = in_mapped (λ (t : Township). node.Township t) a ts i in
    let g = in_mapped (λ (t : Township). node.Township t) b ts j in
    let first = same_township-is f.0 c.section.township (sym (ap (λ (x : Node). node_has d x c) f.2) ∙ h) in
    let second = same_township-is g.0 c.section.township (sym (ap (λ (x : Node). node_has d x c) g.2) ∙ k) in
    f.2 ∙ ap (λ (t : Township). node.Township t) (first ∙ sym second) ∙ sym g.2
children_apart d ts (node.Township t) a b c i j h k =
    let f = in_mapped (λ (s : Section). node.Part s []) a (sections_of t) i in
    let g = in_mapped (λ (s : Section). node.Part s []) b (sections_of t) j in
    let at = λ (s : Section) (x : Node) (z : x ≡ node.Part s []) (y : node_has d x c ≡ true).
    same_section-is s c.section (and_parts (same_section s c.section) (holds (square d []) c.row c.column)
    (sym (ap (λ (v : Node). node_has d v c) z) ∙ y)).0 in
    f.2 ∙ ap (λ (s : Section). node.Part s []) (at f.0 a f.2 h ∙ sym (at g.0 b g.2 k)) ∙ sym g.2
children_apart d ts (node.Part s w) a b c i j h k =
    let f = in_part d ts s w a i in
    let g = in_part d ts s w b j in
    let at = λ (q : Quarter) (x : Node) (z : x ≡ node.Part s (q ∷ w)) (y : node_has d x c ≡ true).
    inside (quarter_of q (square d w)) c.row c.column
    (and_parts (same_section s c.section) (holds (quarter_of q (square d w)) c.row c.column)
    (sym (ap (λ (v : Node). node_has d v c) z) ∙ y)).1 in
    f.1 ∙ ap (λ (q : Quarter). node.Part s (q ∷ w))
    (quarters_apart f.0 g.0 (square d w) c.row c.column (at f.0 a f.1 h) (at g.0 b g.1 k)) ∙ sym g.1

-- the node right below that has a cell
pub record ChildWith (levels d : ℕ) (ts : List Township) (n : Node) (c : Cell) : Type 0 where
  pub child : Node
  pub is_child : In child (children_of d ts n)
  pub reach : Reach levels d child
  pub has_is : node_has d child c ≡ true

pub child_of_all : (levels d : ℕ) (ts : List Township) (c : Cell) → Reach (suc levels) d node.Everything → is_plant_cell d ts c ≡ true
    → ChildWith levels d ts node.Everything c
child_of_all levels d ts c r k =
    let own = same_township c.section.township in
    let found = any_found own ts (and_parts (is_on_grid d c) (list_any own ts) k).1 in
    record {
      child = node.Township found.0;
      is_child = in_map (λ (t : Township). node.Township t) found.0 ts found.1;
      reach = omega (arith, r);
      has_is = subst (λ (t : Township). same_township found.0 t ≡ true) (sym (same_township-is c.section.township found.0 found.2))
          (same_township-self found.0);
    }

pub child_of_township : (levels d : ℕ) (ts : List Township) (t : Township) (c : Cell) → Reach (suc levels) d (node.Township t)
    → node_has d (node.Township t) c ≡ true → is_plant_cell d ts c ≡ true → ChildWith levels d ts (node.Township t) c
child_of_township levels d ts t c r h k =
    let on = (and_parts (is_on_grid d c) (list_any (same_township c.section.township) ts) k).0 in
    let same = same_township-is t c.section.township h in
    let none : length {A = Quarter} [] ≡ 0 = refl in
    record {
      child = node.Part c.section [];
      is_child = in_map (λ (s : Section). node.Part s []) c.section (sections_of t)
          (subst (λ (u : Township). In c.section (sections_of u)) (sym same) (in_sections_of c.section));
      reach = (omega (arith, r, none), omega (arith, none));
      has_is = and_from (same_section c.section c.section) (holds (square d []) c.row c.column) (same_section-self c.section)
          (holds_from (square d []) c.row c.column (whole_section d c on));
    }

pub child_of_part : (levels d : ℕ) (ts : List Township) (s : Section) (w : Within) (c : Cell) → (rest : ℕ) → suc rest + length w ≡ d
    → Reach (suc levels) d (node.Part s w) → node_has d (node.Part s w) c ≡ true → ChildWith levels d ts (node.Part s w) c
child_of_part levels d ts s w c rest l r h =
    let parts = and_parts (same_section s c.section) (holds (square d w) c.row c.column) h in
    let x = in_a_quarter d rest (square d w) c.row c.column (sized d (suc rest) w l) (inside (square d w) c.row c.column parts.1) in
    let short : nat_lt (length w) d ≡ true = lt-ltb (length w) d (omega (arith, l)) in
    let reach : d ≤ suc levels + length w = r.0 in
    record {
      child = node.Part s (x.0 ∷ w);
      is_child = rw short (in_map (λ (q : Quarter). node.Part s (q ∷ w)) x.0 quarters (in_quarters x.0));
      reach = (omega (arith, reach), omega (arith, l));
      has_is = and_from (same_section s c.section) (holds (quarter_of x.0 (square d w)) c.row c.column) parts.0
          (holds_from (quarter_of x.0 (square d w)) c.row c.column x.1);
    }
