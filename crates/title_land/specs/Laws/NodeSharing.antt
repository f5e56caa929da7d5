-- Two nodes share a cell exactly where they are related.
use Rattle.std.proofs.Common.{◌≡◌, ℕ, ◌+◌, ◌-◌, ◌<◌, ◌≤◌, ◌^◌, Bool, true, false, ◌&&◌, ◌||◌, inl, inr, List, [], ◌∷◌, ◌++◌, length, refl}
use Rattle.std.{proofs.Common.{sym, ap, subst, ◌∙◌, arith, lit≤}, specs.Prelude.{nat_lt, ◌↔◌}}
use Rattle.std.proofs.lemmas.Bool.{and_parts, and_from, or_cases, or_left, or_right, lt-ltb, cases_lt, false≢true}
use Rattle.title_land.specs.declared.{survey.{Township.{Township}, Section.{Section}, Cell.{Cell}}, rectangle.Quarter.{Quarter}}
use Rattle.title_land.specs.{declared.node.{Within.{Within}, Node.{Node}}, Survey.{side, is_on_grid, same_township, same_section}}
use Rattle.title_land.specs.{Rectangles.{holds, SharesCell}, Laws.SameNode.{same_node-is, same_node-to}}
use Rattle.title_land.specs.Nodes.{square, same_node, above_in, above, is_above, are_related, node_has, IsNode}
use Rattle.title_land.specs.NodeLaws.{NodesShareACell, AboveIsTransitive, AboveHasTheCells, SameNodesAreEqual}
use Rattle.title_land.specs.Laws.SameLand.{same_township-is, same_township-self, same_section-is, same_section-self}
use Rattle.title_land.specs.Laws.Squares.{Inside, inside, holds_from, quarter_inside, nested, has_corner, sized, pow_positive}
use Rattle.title_land.specs.Laws.Members.{In, any_found, any_from, in_left, in_right, in_append}
use Rattle.title_land.specs.declared.node.Node.TheVariants as node

pub same_from_equal : (a b : Node) → a ≡ b → same_node a b ≡ true
same_from_equal a b = (same_node-is a b).1

pub above_from_in : (a b : Node) → In a (above b) → is_above a b ≡ true
above_from_in a b i = any_from (same_node a) (above b) a i (same_from_equal a a refl)

pub in_from_above : (a b : Node) → is_above a b ≡ true → In a (above b)
in_from_above a b h =
    let k = any_found (same_node a) (above b) h in
    subst (λ (x : Node). In x (above b)) (sym (same_node-to a k.0 k.2)) k.1

-- a square that lies in another is one of those above it
above_in_within : (s : Section) (a : Quarter) (r q : List Quarter) → In (node.Part s q) (above_in s (a ∷ (r ++ q)))
above_in_within s a [] q = inl refl
above_in_within s a (b ∷ r) q = inr (above_in_within s b r q)

-- the cells of a square are those of the squares above it
above_in_has : (d : ℕ) (s : Section) (q : List Quarter) (c : Cell) (x : Node)
    → same_section s c.section ≡ true → Inside (square d q) c.row c.column → In x (above_in s q) → node_has d x c ≡ true
above_in_has d s [] c x h i m = absurd m
above_in_has d s (a ∷ q) c x h i m =
    let up = quarter_inside a (square d q) c.row c.column i in
    elim m [
      | inl e ↦
          ap (λ (y : Node). node_has d y c) e
          ∙ and_from (same_section s c.section) (holds (square d q) c.row c.column) h (holds_from (square d q) c.row c.column up)
      | inr k ↦ above_in_has d s q c x h up k
    ]

section_township : (s : Section) (c : Cell) → same_section s c.section ≡ true → same_township s.township c.section.township ≡ true
section_township s c h = (and_parts (same_township s.township c.section.township) _ h).0

above_has : (d : ℕ) (b x : Node) (c : Cell) → In x (above b) → node_has d b c ≡ true → node_has d x c ≡ true
above_has d node.Everything x c i h = absurd i
above_has d (node.Township t) x c i h = elim i [
  | inl e ↦ ap (λ (y : Node). node_has d y c) e
  | inr k ↦ absurd k
]
above_has d (node.Part s w) x c i h =
    let k = and_parts (same_section s c.section) (holds (square d w) c.row c.column) h in
    elim (in_append x (above_in s w) (node.Township s.township ∷ node.Everything ∷ []) i) [
      | inl m ↦ above_in_has d s w c x k.0 (inside (square d w) c.row c.column k.1) m
      | inr m ↦ elim m [
        | inl e ↦ ap (λ (y : Node). node_has d y c) e ∙ section_township s c k.0
        | inr n ↦ elim n [
          | inl e ↦ ap (λ (y : Node). node_has d y c) e
          | inr z ↦ absurd z
        ]
      ]
    ]

-- what lies above a node has its cells
pub above_has_the_cells : (d : ℕ) → AboveHasTheCells d
above_has_the_cells d a b c h k = above_has d b a c (in_from_above a b h) k

related_above : (a b : Node) → In a (above b) → are_related a b ≡ true
related_above a b i = or_right (same_node a b) (is_above a b || is_above b a) (or_left (is_above a b) (is_above b a) (above_from_in a b i))

related_below : (a b : Node) → In b (above a) → are_related a b ≡ true
related_below a b i = or_right (same_node a b) (is_above a b || is_above b a) (or_right (is_above a b) (is_above b a) (above_from_in b a i))

related_same : (a b : Node) → a ≡ b → are_related a b ≡ true
related_same a b e = or_left (same_node a b) (is_above a b || is_above b a) (same_from_equal a b e)

-- everything lies above each other node
everything_above : (a : Node) → are_related node.Everything a ≡ true
everything_above node.Everything = refl
everything_above (node.Township t) = related_above node.Everything (node.Township t) (inl refl)
everything_above (node.Part s w) = related_above node.Everything (node.Part s w)
    (in_right node.Everything (above_in s w) (node.Township s.township ∷ node.Everything ∷ []) (inr (inl refl)))

related_turned : (a b : Node) → are_related a b ≡ true → are_related b a ≡ true
related_turned a b h = elim (or_cases (same_node a b) (is_above a b || is_above b a) h) [
  | inl e ↦ related_same b a (sym (same_node-to a b e))
  | inr k ↦ elim (or_cases (is_above a b) (is_above b a) k) [
    | inl m ↦ related_below b a (in_from_above a b m)
    | inr m ↦ related_above b a (in_from_above b a m)
  ]
]

-- a square that lies in another of its section, or is it, is related to it
nested_related : (s u : Section) (v w : Within) → s ≡ u → (r : List Quarter) → v ≡ r ++ w
    → are_related (node.Part s v) (node.Part u w) ≡ true
nested_related s u v w e [] p =
    related_same (node.Part s v) (node.Part u w) (rw (e, p) refl)
nested_related s u v w e (a ∷ r) p =
    let i = above_in_within s a r w in
    let j = subst (λ (q : List Quarter). In (node.Part s w) (above_in s q)) (sym p) i in
    let m = subst (λ (x : Section). In (node.Part x w) (above_in s v)) e j in
    related_below (node.Part s v) (node.Part u w)
    (in_left (node.Part u w) (above_in s v) (node.Township s.township ∷ node.Everything ∷ []) m)

township_related : (t : Township) (s : Section) (w : Within) → t ≡ s.township → are_related (node.Township t) (node.Part s w) ≡ true
township_related t s w e =
    related_above (node.Township t) (node.Part s w)
    (in_right (node.Township t) (above_in s w) (node.Township s.township ∷ node.Everything ∷ [])
    (inl (ap (λ (x : Township). node.Township x) e)))

pub related_from_cell : (d : ℕ) (a b : Node) (c : Cell) → node_has d a c ≡ true → node_has d b c ≡ true → are_related a b ≡ true
related_from_cell d node.Everything b c h k = everything_above b
related_from_cell d (node.Township t) node.Everything c h k =
    related_turned node.Everything (node.Township t) (everything_above (node.Township t))
related_from_cell d (node.Township t) (node.Township u) c h k =
    related_same (node.Township t) (node.Township u)
    (ap (λ (x : Township). node.Township x) (same_township-is t c.section.township h ∙ sym (same_township-is u c.section.township k)))
related_from_cell d (node.Township t) (node.Part u w) c h k =
    let m = and_parts (same_section u c.section) (holds (square d w) c.row c.column) k in
    township_related t u w (same_township-is t c.section.township h
    ∙ sym (same_township-is u.township c.section.township (section_township u c m.0)))
related_from_cell d (node.Part s v) node.Everything c h k =
    related_turned node.Everything (node.Part s v) (everything_above (node.Part s v))
related_from_cell d (node.Part s v) (node.Township u) c h k =
    let m = and_parts (same_section s c.section) (holds (square d v) c.row c.column) h in
    related_turned (node.Township u) (node.Part s v)
    (township_related u s v (same_township-is u c.section.township k
    ∙ sym (same_township-is s.township c.section.township (section_township s c m.0))))
related_from_cell d (node.Part s v) (node.Part u w) c h k =
    let m = and_parts (same_section s c.section) (holds (square d v) c.row c.column) h in
    let n = and_parts (same_section u c.section) (holds (square d w) c.row c.column) k in
    let e = same_section-is s c.section m.0 ∙ sym (same_section-is u c.section n.0) in
    let i = inside (square d v) c.row c.column m.1 in
    let j = inside (square d w) c.row c.column n.1 in
    elim (cases_lt (length v) (length w)) [
      | inl l ↦ let z = nested d w v c.row c.column (omega arith) j i in
          related_turned (node.Part u w) (node.Part s v) (nested_related u s w v (sym e) z.within z.path_is)
      | inr l ↦ let z = nested d v w c.row c.column l i j in nested_related s u v w e z.within z.path_is
    ]

-- the first township, for want of another
abbrev pub some_township : Township
some_township = record { number = 1; north = true; range = 1; east = true; numbered = (lit≤ tt, lit≤ tt); ranged = (lit≤ tt, lit≤ tt) }

-- a township's first section
abbrev pub first_section : Township → Section
first_section t = record { township = t; number = 1; numbered = (lit≤ tt, lit≤ tt) }

abbrev pub cell_at : Section → ℕ → ℕ → Cell
cell_at s row column = record { section = s; row = row; column = column }

on_grid : (d : ℕ) (c : Cell) → c.row < 2 ^ d → c.column < 2 ^ d → is_on_grid d c ≡ true
on_grid d c h k = and_from (nat_lt c.row (side d)) (nat_lt c.column (side d)) (lt-ltb c.row (side d) h) (lt-ltb c.column (side d) k)

-- a cell of the grid that lies in the node
pub record CellOf (d : ℕ) (a : Node) : Type 0 where
  pub cell : Cell
  pub on_grid_is : is_on_grid d cell ≡ true
  pub has_is : node_has d a cell ≡ true

-- each node of the tree has a cell
pub cell_of : (d : ℕ) (a : Node) → IsNode d a → CellOf d a
cell_of d node.Everything l =
    record {
      cell = cell_at (first_section some_township) 0 0;
      on_grid_is = on_grid d (cell_at (first_section some_township) 0 0) (pow_positive d) (pow_positive d);
      has_is = refl;
    }
cell_of d (node.Township t) l =
    record {
      cell = cell_at (first_section t) 0 0;
      on_grid_is = on_grid d (cell_at (first_section t) 0 0) (pow_positive d) (pow_positive d);
      has_is = same_township-self t;
    }
cell_of d (node.Part s w) l =
    let r = square d w in
    let levels : (d - length w) + length w ≡ d = omega arith in
    let z = sized d (d - length w) w levels in
    let m = pow_positive (d - length w) in
    let corner = has_corner d (d - length w) w levels in
    record {
      cell = cell_at s r.top r.left;
      on_grid_is = on_grid d (cell_at s r.top r.left) (omega (arith, z.high, m)) (omega (arith, z.wide, m));
      has_is = and_from (same_section s s) (holds r r.top r.left) (same_section-self s) (holds_from r r.top r.left corner);
    }

cell_from_related : (d : ℕ) (a b : Node) → IsNode d a → IsNode d b → are_related a b ≡ true
    → (c : Cell) × (is_on_grid d c ≡ true) × (node_has d a c ≡ true) × (node_has d b c ≡ true)
cell_from_related d a b x y h = elim (or_cases (same_node a b) (is_above a b || is_above b a) h) [
  | inl e ↦ let k = cell_of d b y in (
    k.cell,
    k.on_grid_is,
    ap (λ (x : Node). node_has d x k.cell) (same_node-to a b e)
        ∙ k.has_is,
    k.has_is,
  )
  | inr m ↦ elim (or_cases (is_above a b) (is_above b a) m) [
    | inl n ↦ let k = cell_of d b y in (k.cell, k.on_grid_is, above_has_the_cells d a b k.cell n k.has_is, k.has_is)
    | inr n ↦ let k = cell_of d a x in (k.cell, k.on_grid_is, k.has_is, above_has_the_cells d b a k.cell n k.has_is)
  ]
]

-- two nodes share a cell exactly where they are related
pub nodes_share : (d : ℕ) → NodesShareACell d
nodes_share d a b x y = (λ k. related_from_cell d a b k.0 k.2 k.3, cell_from_related d a b x y)

pub same_nodes_are_equal : SameNodesAreEqual
same_nodes_are_equal = same_node-is

above_in_above : (s : Section) (p : List Quarter) (a b : Node) → In b (above_in s p) → In a (above b)
    → In a (above_in s p ++ (node.Township s.township ∷ node.Everything ∷ []))
above_in_above s [] a b i j = absurd i
above_in_above s (x ∷ q) a b i j =
    elim i [
      | inl e ↦ inr (subst (λ (n : Node). In a (above n)) e j)
      | inr k ↦ inr (above_in_above s q a b k j)
    ]

in_above_above : (a b c : Node) → In b (above c) → In a (above b) → In a (above c)
in_above_above a b node.Everything i j = absurd i
in_above_above a b (node.Township t) i j = elim i [
  | inl e ↦ let k = subst (λ (n : Node). In a (above n)) e j in absurd k
  | inr k ↦ absurd k
]
in_above_above a b (node.Part s w) i j =
    elim (in_append b (above_in s w) (node.Township s.township ∷ node.Everything ∷ []) i) [
      | inl m ↦ above_in_above s w a b m j
      | inr m ↦ in_right a (above_in s w) (node.Township s.township ∷ node.Everything ∷ []) (elim m [
        | inl e ↦ let k = subst (λ (n : Node). In a (above n)) e j in inr k
        | inr n ↦ elim n [
          | inl e ↦ let k = subst (λ (x : Node). In a (above x)) e j in absurd k
          | inr z ↦ absurd z
        ]
      ])
    ]

pub above_is_transitive : AboveIsTransitive
above_is_transitive a b c h k = above_from_in a c (in_above_above a b c (in_from_above b c k) (in_from_above a b h))

-- a test of two nodes of the tree that says whether they share a cell says whether they are related
pub related_where : (d : ℕ) (a b : Node) (r : Bool) → IsNode d a → IsNode d b
    → (r ≡ true → (c : Cell) × (node_has d a c ≡ true) × (node_has d b c ≡ true))
    → ((c : Cell) → node_has d a c ≡ true → node_has d b c ≡ true → r ≡ true) → r ≡ are_related a b
related_where d a b true x y from to = let k = from refl in sym (related_from_cell d a b k.0 k.1 k.2)
related_where d a b false x y from to = false_related (are_related a b) refl
  where
    false_related : (t : Bool) → are_related a b ≡ t → false ≡ are_related a b
    false_related true e = let k = cell_from_related d a b x y e in absurd (false≢true (to k.0 k.2 k.3))
    false_related false e = sym e

-- townships, and sections, that are one
pub townships_related : (d : ℕ) (t u : Township) → same_township t u ≡ are_related (node.Township t) (node.Township u)
townships_related d t u =
    related_where d (node.Township t) (node.Township u) (same_township t u) tt tt
    (λ h. (cell_at (first_section t) 0 0, same_township-self t, rw (same_township-is t u h) (same_township-self u)))
    (λ c h k. rw (same_township-is t c.section.township h, same_township-is u c.section.township k) (same_township-self c.section.township))

pub township_part_related : (d : ℕ) (t : Township) (s : Section) (w : Within) → length w ≤ d
    → same_township t s.township ≡ are_related (node.Township t) (node.Part s w)
township_part_related d t s w l =
    related_where d (node.Township t) (node.Part s w) (same_township t s.township) tt l
    (λ h. let k = cell_of d (node.Part s w) l in
    let m = and_parts (same_section s k.cell.section) (holds (square d w) k.cell.row k.cell.column) k.has_is in
    (k.cell, rw (same_township-is t s.township h) (section_township s k.cell m.0), k.has_is))
    (λ c h k. let m = and_parts (same_section s c.section) (holds (square d w) c.row c.column) k in
    rw (same_township-is t c.section.township h, same_township-is s.township c.section.township (section_township s c m.0))
    (same_township-self c.section.township))

pub part_township_related : (d : ℕ) (s : Section) (w : Within) (t : Township) → length w ≤ d
    → same_township s.township t ≡ are_related (node.Part s w) (node.Township t)
part_township_related d s w t l =
    related_where d (node.Part s w) (node.Township t) (same_township s.township t) l tt
    (λ h. let k = cell_of d (node.Part s w) l in
    let m = and_parts (same_section s k.cell.section) (holds (square d w) k.cell.row k.cell.column) k.has_is in
    (k.cell, k.has_is, rw (← same_township-is s.township t h) (section_township s k.cell m.0)))
    (λ c k h. let m = and_parts (same_section s c.section) (holds (square d w) c.row c.column) k in
    rw (same_township-is t c.section.township h, same_township-is s.township c.section.township (section_township s c m.0))
    (same_township-self c.section.township))

-- squares of one section that share a cell
pub parts_related : (d : ℕ) (s u : Section) (v w : Within) (r : Bool) → length v ≤ d → length w ≤ d
    → (r ≡ true) ↔ SharesCell (square d v) (square d w) → (same_section s u && r) ≡ are_related (node.Part s v) (node.Part u w)
parts_related d s u v w r x y shares =
    related_where d (node.Part s v) (node.Part u w) (same_section s u && r) x y
    (λ h. let m = and_parts (same_section s u) r h in
    let k = shares.0 m.1 in
    let e = same_section-is s u m.0 in (
      cell_at s k.0 k.1,
      and_from (same_section s s) (holds (square d v) k.0 k.1) (same_section-self s) k.2,
      and_from (same_section u s) (holds (square d w) k.0 k.1) (rw e (same_section-self u)) k.3,
    ))
    (λ c h k. let m = and_parts (same_section s c.section) (holds (square d v) c.row c.column) h in
    let n = and_parts (same_section u c.section) (holds (square d w) c.row c.column) k in
    and_from (same_section s u) r (rw (same_section-is s c.section m.0, same_section-is u c.section n.0) (same_section-self c.section))
    (shares.1 (c.row, c.column, m.1, n.1)))

-- squares of two sections
pub sections_apart : (d : ℕ) (s u : Section) (v w : Within) → length v ≤ d → length w ≤ d
    → same_section s u ≡ false → same_section s u ≡ are_related (node.Part s v) (node.Part u w)
sections_apart d s u v w x y apart =
    related_where d (node.Part s v) (node.Part u w) (same_section s u) x y
    (λ h. absurd (false≢true (sym apart ∙ h)))
    (λ c h k. let m = and_parts (same_section s c.section) (holds (square d v) c.row c.column) h in
    let n = and_parts (same_section u c.section) (holds (square d w) c.row c.column) k in
    rw (same_section-is s c.section m.0, same_section-is u c.section n.0) (same_section-self c.section))
