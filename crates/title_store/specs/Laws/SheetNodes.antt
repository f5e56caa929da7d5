-- A sheet's rows, one by one: what each says of its node, and which node shows a cell.
use Rattle.std.proofs.Common.{◌≡◌, ◌⊎◌, ℕ, zero, suc, ◌+◌, ◌-◌, ◌≤◌, true, inl, inr, List, [], ◌∷◌, length}
use Rattle.std.{proofs.Common.{Option, Some, None, refl, sym, ap, subst, ◌∙◌, arith}, specs.List.{AllByRecursion, flat_map}}
use Rattle.std.proofs.lemmas.Bool.{cases_lt}
use Rattle.title_share.specs.Division.{Division, rows_of}
use Rattle.title_land.specs.{declared.{survey.{Township.{Township}, Cell.{Cell}}, node.Node.{Node}}, Nodes.{node_has, parent_of}}
use Rattle.title_land.specs.{Lands.{is_plant_cell}, CellLists.{node_cells, children_of}}
use Rattle.title_land.specs.Laws.Members.{In, in_flat_map, in_flat_mapped, in_mapped}
use Rattle.title_land.specs.declared.node.Node.TheVariants as node
use Rattle.title_instrument.specs.{declared.parts.Estate.{Estate}, Owners.{holding_of}}
use Rattle.title_store.specs.{declared.sheet_row.SheetRow.{SheetRow}, Plants.{Plant}, Laws.TractNodes.{children_within}}
use Rattle.title_store.specs.{Sheets.{one_holding, holding_rows, rows_or, sheet_below}, Laws.SheetSteps.{sheet_one, sheet_none}}
use Rattle.title_store.specs.Laws.SheetHoldings.{one_found, in_node, cell_has_one, Reach, child_parent, children_apart}
use Rattle.title_store.specs.Laws.SheetHoldings.{child_of_all, child_of_township, child_of_part}

pub option_cases : (o : Option Division) → (o ≡ None) ⊎ ((held : Division) × (o ≡ Some held))
option_cases None = inl refl
option_cases (Some held) = inr (held, refl)

pub sheet_split : (levels d : ℕ) (ts : List Township) (p : Plant) (e : Estate) (n : Node) → one_holding e p (node_cells d ts n) ≡ None
    → sheet_below (suc levels) d ts p e n ≡ flat_map (sheet_below levels d ts p e) (children_of d ts n)
sheet_split levels d ts p e n h =
    ap (λ (o : Option Division). rows_or n e o (flat_map (sheet_below levels d ts p e) (children_of d ts n))) h

-- ---- each cell is shown

-- the node with rows that has a cell
pub record Shown (levels d : ℕ) (ts : List Township) (p : Plant) (e : Estate) (n : Node) (c : Cell) : Type 0 where
  pub at : Node
  pub has_is : node_has d at c ≡ true
  pub one : one_holding e p (node_cells d ts at) ≡ Some (holding_of e (p c))
  pub rows_in : (x : SheetRow) → In x (holding_rows at e (holding_of e (p c))) → In x (sheet_below levels d ts p e n)

shown_here : (levels d : ℕ) (ts : List Township) (p : Plant) (e : Estate) (n : Node) (c : Cell) (held : Division)
    → one_holding e p (node_cells d ts n) ≡ Some held → node_has d n c ≡ true → is_plant_cell d ts c ≡ true → Shown levels d ts p e n c
shown_here levels d ts p e n c held h k l =
    let same = one_found e p (node_cells d ts n) held c h (in_node d ts n c k l) in
    let one = h ∙ ap (λ (x : Division). Some x) (sym same) in
    record {
      at = n;
      has_is = k;
      one = one;
      rows_in = λ x i. subst (λ (rows : List SheetRow). In x rows) (sym (sheet_one levels d ts p e n (holding_of e (p c)) one)) i;
    }

shown_below : (levels d : ℕ) (ts : List Township) (p : Plant) (e : Estate) (n m : Node) (c : Cell)
    → one_holding e p (node_cells d ts n) ≡ None → In m (children_of d ts n) → Shown levels d ts p e m c → Shown (suc levels) d ts p e n c
shown_below levels d ts p e n m c h i s = record {
  at = s.at;
  has_is = s.has_is;
  one = s.one;
  rows_in = λ x j. subst (λ (rows : List SheetRow). In x rows) (sym (sheet_split levels d ts p e n h))
      (in_flat_map (sheet_below levels d ts p e) (children_of d ts n) m x i (s.rows_in x j));
}

shown_split : (levels d : ℕ) (ts : List Township) (p : Plant) (e : Estate) (n : Node) (c : Cell) → Reach (suc levels) d n
    → node_has d n c ≡ true → is_plant_cell d ts c ≡ true → one_holding e p (node_cells d ts n) ≡ None
    → ((m : Node) → Reach levels d m → node_has d m c ≡ true → Shown levels d ts p e m c) → Shown (suc levels) d ts p e n c
shown_split levels d ts p e node.Everything c r h k none f =
    let x = child_of_all levels d ts c r k in
    shown_below levels d ts p e node.Everything x.child c none x.is_child (f x.child x.reach x.has_is)
shown_split levels d ts p e (node.Township t) c r h k none f =
    let x = child_of_township levels d ts t c r h k in
    shown_below levels d ts p e (node.Township t) x.child c none x.is_child (f x.child x.reach x.has_is)
shown_split levels d ts p e (node.Part s w) c r h k none f =
    let deep : length w ≤ d = r.1 in
    elim (cases_lt (length w) d) [
      | inl short ↦
          let x = child_of_part levels d ts s w c (d - length w - 1) (omega (arith, short)) r h in
          shown_below levels d ts p e (node.Part s w) x.child c none x.is_child (f x.child x.reach x.has_is)
      | inr long ↦ absurd (cell_has_one d ts e p s w c (omega (arith, long, deep)) h k none)
    ]

shown_last : (d : ℕ) (ts : List Township) (p : Plant) (e : Estate) (n : Node) (c : Cell) → Reach zero d n
    → node_has d n c ≡ true → is_plant_cell d ts c ≡ true → one_holding e p (node_cells d ts n) ≡ None → ⊥
shown_last d ts p e node.Everything c r h k none = absurd (omega (arith, r))
shown_last d ts p e (node.Township t) c r h k none = absurd (omega (arith, r))
shown_last d ts p e (node.Part s w) c r h k none =
    let low : d ≤ zero + length w = r.0 in
    let deep : length w ≤ d = r.1 in
    cell_has_one d ts e p s w c (omega (arith, low, deep)) h k none

pub shown : (levels d : ℕ) (ts : List Township) (p : Plant) (e : Estate) (n : Node) (c : Cell) → Reach levels d n
    → node_has d n c ≡ true → is_plant_cell d ts c ≡ true → Shown levels d ts p e n c
shown zero d ts p e n c r h k = elim (option_cases (one_holding e p (node_cells d ts n))) [
  | inl none ↦ absurd (shown_last d ts p e n c r h k none)
  | inr one ↦ shown_here zero d ts p e n c one.0 one.1 h k
]
shown (suc levels) d ts p e n c r h k = elim (option_cases (one_holding e p (node_cells d ts n))) [
  | inl none ↦ shown_split levels d ts p e n c r h k none (λ m q g. shown levels d ts p e m c q g k)
  | inr one ↦ shown_here (suc levels) d ts p e n c one.0 one.1 h k
]

-- ---- each row

-- the parent of a row's node was split
pub record IsSplit (d : ℕ) (ts : List Township) (p : Plant) (e : Estate) (n above : Node) : Type 0 where
  pub parent_is : parent_of n ≡ Some above
  pub none : one_holding e p (node_cells d ts above) ≡ None
  pub within : (c : Cell) → node_has d n c ≡ true → node_has d above c ≡ true

-- what a row in the sheet of n is
pub record RowOf (d : ℕ) (ts : List Township) (p : Plant) (e : Estate) (n : Node) (x : SheetRow) : Type 0 where
  pub estate_is : x.estate ≡ e
  pub held : Division
  pub one : one_holding e p (node_cells d ts x.node) ≡ Some held
  pub listed : In (x.party, x.units) (rows_of held)
  pub within : (c : Cell) → node_has d x.node c ≡ true → node_has d n c ≡ true
  pub largest : (x.node ≡ n) ⊎ ((above : Node) × IsSplit d ts p e x.node above)

row_here : (d : ℕ) (ts : List Township) (p : Plant) (e : Estate) (n : Node) (x : SheetRow) (held : Division)
    → one_holding e p (node_cells d ts n) ≡ Some held → In x (holding_rows n e held) → RowOf d ts p e n x
row_here d ts p e n x held h i =
    let found = in_mapped (λ r. record { node = n; estate = e; party = r.0; units = r.1 }) x (rows_of held) i in
    subst (λ (y : SheetRow). RowOf d ts p e n y) (sym found.2) record {
      estate_is = refl;
      held = held;
      one = h;
      listed = found.1;
      within = λ c k. k;
      largest = inl refl;
    }

node_each : (P : Node → Type 0) (nodes : List Node) (n : Node) → AllByRecursion P nodes → In n nodes → P n
node_each P [] n h i = absurd i
node_each P (z ∷ nodes) n h i = elim i [
  | inl e ↦ subst P (sym e) h.0
  | inr k ↦ node_each P nodes n h.1 k
]

row_below : (d : ℕ) (ts : List Township) (p : Plant) (e : Estate) (n m : Node) (x : SheetRow)
    → one_holding e p (node_cells d ts n) ≡ None → In m (children_of d ts n) → RowOf d ts p e m x → RowOf d ts p e n x
row_below d ts p e n m x none i r =
    let inner = node_each (λ y. (c : Cell) → node_has d y c ≡ true → node_has d n c ≡ true) (children_of d ts n) m
    (children_within d ts n) i in
    let split : IsSplit d ts p e m n = record { parent_is = child_parent d ts n m i; none = none; within = inner } in
    record {
      estate_is = r.estate_is;
      held = r.held;
      one = r.one;
      listed = r.listed;
      within = λ c k. inner c (r.within c k);
      largest = elim r.largest [
        | inl same ↦ inr (n, subst (λ (y : Node). IsSplit d ts p e y n) (sym same) split)
        | inr up ↦ inr up
      ];
    }

in_one : (levels d : ℕ) (ts : List Township) (p : Plant) (e : Estate) (n : Node) (x : SheetRow) (held : Division)
    → one_holding e p (node_cells d ts n) ≡ Some held → In x (sheet_below levels d ts p e n) → In x (holding_rows n e held)
in_one levels d ts p e n x held h i = subst (λ (rows : List SheetRow). In x rows) (sheet_one levels d ts p e n held h) i

in_none : (d : ℕ) (ts : List Township) (p : Plant) (e : Estate) (n : Node) (x : SheetRow)
    → one_holding e p (node_cells d ts n) ≡ None → In x (sheet_below zero d ts p e n) → ⊥
in_none d ts p e n x h i = subst (λ (rows : List SheetRow). In x rows) (sheet_none zero d ts p e n refl h) i

in_split : (levels d : ℕ) (ts : List Township) (p : Plant) (e : Estate) (n : Node) (x : SheetRow)
    → one_holding e p (node_cells d ts n) ≡ None → In x (sheet_below (suc levels) d ts p e n)
    → (m : Node) × In m (children_of d ts n) × In x (sheet_below levels d ts p e m)
in_split levels d ts p e n x h i =
    in_flat_mapped (sheet_below levels d ts p e) (children_of d ts n) x
    (subst (λ (rows : List SheetRow). In x rows) (sheet_split levels d ts p e n h) i)

pub row_of : (levels d : ℕ) (ts : List Township) (p : Plant) (e : Estate) (n : Node) (x : SheetRow)
    → In x (sheet_below levels d ts p e n) → RowOf d ts p e n x
row_of zero d ts p e n x i = elim (option_cases (one_holding e p (node_cells d ts n))) [
  | inl none ↦ absurd (in_none d ts p e n x none i)
  | inr one ↦ row_here d ts p e n x one.0 one.1 (in_one zero d ts p e n x one.0 one.1 i)
]
row_of (suc levels) d ts p e n x i = elim (option_cases (one_holding e p (node_cells d ts n))) [
  | inl none ↦
      let m = in_split levels d ts p e n x none i in
      row_below d ts p e n m.0 x none m.1 (row_of levels d ts p e m.0 x m.2)
  | inr one ↦ row_here d ts p e n x one.0 one.1 (in_one (suc levels) d ts p e n x one.0 one.1 i)
]

pub row_node : (n : Node) (e : Estate) (held : Division) (x : SheetRow) → In x (holding_rows n e held) → x.node ≡ n
row_node n e held x i =
    let found = in_mapped (λ r. record { node = n; estate = e; party = r.0; units = r.1 }) x (rows_of held) i in
    ap (λ (y : SheetRow). y.node) found.2

-- two rows in the sheet of a node whose nodes have a cell in common are of one
pub rows_apart : (levels d : ℕ) (ts : List Township) (p : Plant) (e : Estate) (n : Node) (x y : SheetRow) (c : Cell)
    → In x (sheet_below levels d ts p e n) → In y (sheet_below levels d ts p e n) → node_has d x.node c ≡ true
    → node_has d y.node c ≡ true → x.node ≡ y.node
rows_apart zero d ts p e n x y c i j h k = elim (option_cases (one_holding e p (node_cells d ts n))) [
  | inl none ↦ absurd (in_none d ts p e n x none i)
  | inr one ↦ row_node n e one.0 x (in_one zero d ts p e n x one.0 one.1 i)
      ∙ sym (row_node n e one.0 y (in_one zero d ts p e n y one.0 one.1 j))
]
rows_apart (suc levels) d ts p e n x y c i j h k = elim (option_cases (one_holding e p (node_cells d ts n))) [
  | inl none ↦
      let a = in_split levels d ts p e n x none i in
      let b = in_split levels d ts p e n y none j in
      let same = children_apart d ts n a.0 b.0 c a.1 b.1 ((row_of levels d ts p e a.0 x a.2).within c h)
      ((row_of levels d ts p e b.0 y b.2).within c k) in
      rows_apart levels d ts p e a.0 x y c a.2 (subst (λ (m : Node). In y (sheet_below levels d ts p e m)) (sym same) b.2) h k
  | inr one ↦ row_node n e one.0 x (in_one (suc levels) d ts p e n x one.0 one.1 i)
      ∙ sym (row_node n e one.0 y (in_one (suc levels) d ts p e n y one.0 one.1 j))
]
