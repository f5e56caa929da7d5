-- A land's cover is exactly the nodes whose cells all lie in the land and whose parent's don't, in order.
use Rattle.std.proofs.Common.{cond, ◌≡◌, ℕ, suc, ◌+◌, ◌-◌, ◌≤◌, Bool, true, false, not, ◌&&◌, ◌||◌, inl, inr, List, [], ◌∷◌, length, Some}
use Rattle.std.{proofs.{Common.{refl, sym, ap, subst, ◌∙◌, arith, lit≤}, lemmas.List.Elements.{All-nil, All-cons}}, specs.List.{All}}
use Rattle.std.specs.{Prelude.{is_some, nat_lt}, List.{list_any, find}}
use Rattle.std.proofs.lemmas.Bool.{false_from_ne_true, cases_Bool, and_parts, and_from, or_cases, both_ways, lt-ltb}
use Rattle.title_land.specs.declared.{survey.{Township.{Township}, Section.{Section}, Cell.{Cell}}, rectangle.Quarter.{Quarter}}
use Rattle.title_land.specs.{declared.{grid.Grid.{Grid}, node.Node.{Node}, tract.Land.{Land}}, Rectangles.{holds}, Grids.{grid_has, fills}}
use Rattle.title_land.specs.{Survey.{side, is_on_grid, same_township, same_section}, Lands.{has, cover_of}, NodeLaws.{AboveByParent}}
use Rattle.title_land.specs.{Nodes.{square, node_has, same_node, is_above, above, parent_of, parent_in, IsNode}, Laws.Filling.{fills_from}}
use Rattle.title_land.specs.CoverSets.{CoverNodesLieApart, CoverFindsTheNode, LiesIn, IsCoverNode, IsCover, are_in_order}
use Rattle.title_land.specs.Laws.SameLand.{same_township-is, same_township-self, same_section-is, same_section-self}
use Rattle.title_land.specs.Laws.{Squares.{Inside, holds_from, sized, pow_positive}, Members.{In, any_found, any_from}}
use Rattle.title_land.specs.Laws.{CoverOrder.{section_in_order}, NodeSharing.{related_from_cell, cell_of, cell_at, first_section}}
use Rattle.title_land.specs.Laws.{NodeSharing.{same_from_equal, in_from_above, above_from_in, above_has_the_cells}, SameNode.{same_node-to}}
use Rattle.title_land.specs.Laws.LandSharing.{cover_has_its_cells, Part, part_found, cover_has, cover_has_each, cover_in_tree}
use Rattle.title_land.specs.declared.node.Node.TheVariants as node
use Rattle.title_land.specs.declared.tract.Land.TheVariants as land

-- what lies above a node is its parent and what lies above that
above_parent : (n p : Node) → parent_of n ≡ Some p → above n ≡ p ∷ above p
above_parent node.Everything p e = absurd cc
above_parent (node.Township t) p e =
    let f : node.Everything ≡ p = cc in subst (λ (x : Node). above (node.Township t) ≡ x ∷ above x) f refl
above_parent (node.Part s []) p e =
    let f : node.Township s.township ≡ p = cc in subst (λ (x : Node). above (node.Part s []) ≡ x ∷ above x) f refl
above_parent (node.Part s (q ∷ w)) p e =
    let f : node.Part s w ≡ p = cc in subst (λ (x : Node). above (node.Part s (q ∷ w)) ≡ x ∷ above x) f refl

has_parent : (n m : Node) → In m (above n) → (p : Node) × (parent_of n ≡ Some p)
has_parent node.Everything m i = absurd i
has_parent (node.Township t) m i = (node.Everything, refl)
has_parent (node.Part s w) m i = (parent_in s w, refl)

-- a node that lies above another has the cells of that one's parent
above_parent_has : (d : ℕ) (n m p : Node) (c : Cell) → In m (above n) → parent_of n ≡ Some p → node_has d p c ≡ true → node_has d m c ≡ true
above_parent_has d n m p c i e h =
    elim (subst (λ (ns : List Node). In m ns) (above_parent n p e) i) [
      | inl f ↦ ap (λ (x : Node). node_has d x c) f ∙ h
      | inr j ↦ above_has_the_cells d m p c (above_from_in m p j) h
    ]

-- a township other than this one
abbrev other_township : Township → Township
other_township t = record {
  number = t.number;
  north = not t.north;
  range = t.range;
  east = t.east;
  numbered = t.numbered;
  ranged = t.ranged;
}

not_flag : (b : Bool) → b ≡ not b → ⊥
not_flag true e = cc
not_flag false e = cc

not_other : (t : Township) → same_township t (other_township t) ≡ true → ⊥
not_other t h = not_flag t.north (ap (λ (u : Township). u.north) (same_township-is t (other_township t) h))

abbrev second_section : Township → Section
second_section t = record { township = t; number = 2; numbered = (lit≤ tt, lit≤ tt) }

corner_on_grid : (d : ℕ) (s : Section) → is_on_grid d (cell_at s 0 0) ≡ true
corner_on_grid d s = and_from (nat_lt 0 (side d)) (nat_lt 0 (side d)) (lt-ltb 0 (side d) (pow_positive d))
    (lt-ltb 0 (side d) (pow_positive d))

-- not each cell of a township lies in one section
no_whole_township : (d : ℕ) (s : Section) (t : Township)
    → ((c : Cell) → is_on_grid d c ≡ true → same_township t c.section.township ≡ true → same_section s c.section ≡ true) → ⊥
no_whole_township d s t f =
    let a = f (cell_at (first_section t) 0 0) (corner_on_grid d (first_section t)) (same_township-self t) in
    let b = f (cell_at (second_section t) 0 0) (corner_on_grid d (second_section t)) (same_township-self t) in
    let m : s.number ≡ 1 = ap (λ (u : Section). u.number) (same_section-is s (first_section t) a) in
    let n : s.number ≡ 2 = ap (λ (u : Section). u.number) (same_section-is s (second_section t) b) in
    omega arith

pub cell_in_grid : (d : ℕ) (s : Section) (q : List Quarter) (row column : ℕ) → length q ≤ d → Inside (square d q) row column
    → is_on_grid d (cell_at s row column) ≡ true
cell_in_grid d s q row column l i =
    let levels : (d - length q) + length q ≡ d = omega arith in
    let z = sized d (d - length q) q levels in
    let h = z.height_is in
    let w = z.width_is in
    and_from (nat_lt row (side d)) (nat_lt column (side d)) (lt-ltb row (side d) (omega (arith, z.high, i.above)))
    (lt-ltb column (side d) (omega (arith, z.wide, i.left)))

-- the squares above a square of the cover aren't in the set whole
part_parent : (d : ℕ) (s : Section) (g : Grid) (n p : Node) → Part d s g n → parent_of n ≡ Some p
    → ((c : Cell) → is_on_grid d c ≡ true → node_has d p c ≡ true → (same_section s c.section && grid_has g c.row c.column) ≡ true) → ⊥
part_parent d s g n p k e f =
    let e3 = subst (λ (x : Node). parent_of x ≡ Some p) k.node_is e in
    elim k.found.parent [
      | inl z ↦
          let e4 = subst (λ (q : List Quarter). Some (parent_in s q) ≡ Some p) z e3 in
          let t : node.Township s.township ≡ p = cc in
          no_whole_township d s s.township (λ c o h.
          (and_parts (same_section s c.section) (grid_has g c.row c.column) (f c o (subst (λ (x : Node). node_has d x c ≡ true) t h))).0)
      | inr z ↦
          let rest = z.1 in
          let e4 = subst (λ (q : List Quarter). Some (parent_in s q) ≡ Some p) z.2 e3 in
          let t : node.Part s rest ≡ p = cc in
          let long = k.found.long in
          let size : length k.quarters ≡ suc (length rest) = ap length z.2 in
          let short : length rest ≤ d = omega arith in
          both_ways (fills (grid_has g) (square d rest)) z.3 (fills_from (grid_has g) (square d rest) (λ row column i.
          let c = cell_at s row column in
          let h = and_from (same_section s s) (holds (square d rest) row column) (same_section-self s)
          (holds_from (square d rest) row column i) in
          let there = subst (λ (x : Node). node_has d x c ≡ true) t h in
          (and_parts (same_section s s) (grid_has g row column) (f c (cell_in_grid d s rest row column short i) there)).1))
    ]

-- each node of the cover is a cover node
cover_node : (d : ℕ) (x : Land) (n : Node) → In n (cover_of d x) → (p : Node) → parent_of n ≡ Some p → LiesIn d x p → ⊥
unfolding has cover_of
cover_node d land.Everything n i p e f = elim i [
  | inl g ↦ let h = subst (λ (x : Node). parent_of x ≡ Some p) g e in absurd cc
  | inr z ↦ z
]
cover_node d (land.Township t) n i p e f = elim i [
  | inl g ↦
      let h = subst (λ (x : Node). parent_of x ≡ Some p) g e in
      let k : node.Everything ≡ p = cc in
      let c = cell_at (first_section (other_township t)) 0 0 in
      not_other t (f c (corner_on_grid d (first_section (other_township t))) (ap (λ (x : Node). node_has d x c) (sym k)))
  | inr z ↦ z
]
cover_node d (land.Part s g) n i p e f = part_parent d s g n p (part_found d s g n i) e f

-- each cover node is in the cover
cover_listed : (d : ℕ) (x : Land) (n : Node) → IsNode d n → IsCoverNode d x n → In n (cover_of d x)
cover_listed d x n m k =
    let c = cell_of d n m in
    let z = cover_has_each d x c.cell c.on_grid_is (k.lies_in c.cell c.on_grid_is c.has_is) in
    elim (or_cases (same_node n z.0) (is_above n z.0 || is_above z.0 n) (related_from_cell d n z.0 c.cell c.has_is z.2)) [
      | inl e ↦ subst (λ (y : Node). In y (cover_of d x)) (sym (same_node-to n z.0 e)) z.1
      | inr e ↦ elim (or_cases (is_above n z.0) (is_above z.0 n) e) [
        | inl f ↦
            let i = in_from_above n z.0 f in
            let p = has_parent z.0 n i in
            absurd (cover_node d x z.0 z.1 p.0 p.1 (λ y o h. k.lies_in y o (above_parent_has d z.0 n p.0 y i p.1 h)))
        | inr f ↦
            let i = in_from_above z.0 n f in
            let p = has_parent n z.0 i in
            absurd (k.parent_does_not p.0 p.1 (λ y o h. cover_has d x z.0 y z.1 (above_parent_has d n z.0 p.0 y i p.1 h)))
      ]
    ]

cover_in_order : (d : ℕ) (x : Land) → are_in_order (cover_of d x) ≡ true
unfolding cover_of
cover_in_order d land.Everything = refl
cover_in_order d (land.Township t) = refl
cover_in_order d (land.Part s g) = section_in_order d s (grid_has g)

listed_is : (d : ℕ) (x : Land) (n : Node) → list_any (same_node n) (cover_of d x) ≡ true → IsCoverNode d x n
listed_is d x n h =
    let k = any_found (same_node n) (cover_of d x) h in
    let i = subst (λ (y : Node). In y (cover_of d x)) (sym (same_node-to n k.0 k.2)) k.1 in
    record { lies_in = λ c o m. cover_has d x n c i m; parent_does_not = λ p e f. cover_node d x n i p e f }

is_listed : (d : ℕ) (x : Land) (n : Node) → IsNode d n → IsCoverNode d x n → list_any (same_node n) (cover_of d x) ≡ true
is_listed d x n m k = any_from (same_node n) (cover_of d x) n (cover_listed d x n m k) (same_from_equal n n refl)

-- a fact of each member holds of all
all_from : (P : Node → Type 0) (nodes : List Node) → ((n : Node) → In n nodes → P n) → All P nodes
all_from P [] f = All-nil P
all_from P (n ∷ nodes) f = All-cons P n nodes (f n (inl refl)) (all_from P nodes (λ m i. f m (inr i)))

-- the list of the computing definition is the cover
pub cover_is_cover : (d : ℕ) (x : Land) → IsCover d x (cover_of d x)
cover_is_cover d x = record {
  in_tree = all_from (IsNode d) (cover_of d x) (cover_in_tree d x);
  members = λ n m. (listed_is d x n, is_listed d x n m);
  order = cover_in_order d x;
}

-- above a node lie its parent and what lies above that
pub above_by_parent : AboveByParent
above_by_parent = (refl, above_parent)

-- no node of a cover lies above another
pub cover_nodes_apart : (d : ℕ) → CoverNodesLieApart d
cover_nodes_apart d x m n h k = false_from_ne_true (is_above m n) (λ e.
    let i = in_from_above m n e in
    let p = has_parent n m i in
    let lies = (listed_is d x m h).lies_in in
    (listed_is d x n k).parent_does_not p.0 p.1 (λ c o f. lies c o (above_parent_has d n m p.0 c i p.1 f)))

found_passes : {X : Type 0} (p : X → Bool) (xs : List X) (x : X) → find p xs ≡ Some x → p x ≡ true
found_passes p [] x e = absurd cc
found_passes p (y ∷ xs) x e = elim (cases_Bool (p y)) [
  | inl f ↦ let g = rw f at e in let h : y ≡ x = cc in sym (ap p h) ∙ f
  | inr f ↦ found_passes p xs x (rw f at e)
]

found_any : {X : Type 0} (p : X → Bool) (xs : List X) → is_some (find p xs) ≡ list_any p xs
found_any p [] = refl
found_any p (x ∷ xs) = elim (p x) as (λ b. is_some (cond b (Some x) (find p xs)) ≡ (b || list_any p xs)) [
  | true ↦ refl
  | false ↦ found_any p xs
]

-- the node that the cover gives a cell
pub cover_finds : (d : ℕ) → CoverFindsTheNode d
cover_finds d x c o = (
  found_any (λ (n : Node). node_has d n c) (cover_of d x) ∙ sym (cover_has_its_cells d x c o),
  λ n e. found_passes (λ (m : Node). node_has d m c) (cover_of d x) n e,
)
