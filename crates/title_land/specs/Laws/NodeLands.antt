-- A node as a land: its cells, and a cover of that node alone.
use Rattle.std.proofs.Common.{◌≡◌, ℕ, suc, ◌-◌, ◌<◌, ◌≤◌, Bool, true, false, ◌&&◌, ◌⊎◌, inl, inr, List, [], ◌∷◌, ◌++◌, map}
use Rattle.std.{proofs.{Common.{length, refl, sym, ap, subst, ◌∙◌, arith}, lemmas.Bool.{cases_lt, both_ways}}, specs.Prelude.{reverse}}
use Rattle.std.proofs.{lemmas.List.{append-nil, Elements.{All-map}, FromFn.{length-map-range_with_len}}, Math.Bool.{or-false}}
use Rattle.title_land.specs.declared.{survey.{Section.{Section}, Cell.{Cell}}, grid.Grid.{Grid}, node.Node.{Node}}
use Rattle.title_land.specs.declared.rectangle.Quarter.{Quarter, TheVariants.{Northeast, Northwest, Southwest, Southeast}}
use Rattle.title_land.specs.declared.rectangle.Rectangle.{Rectangle}
use Rattle.title_land.specs.{Survey.{side, same_section}, Rectangles.{holds, InSection}, Grids.{grid_has, grid_of, fills, indices, IsGrid}}
use Rattle.title_land.specs.{Nodes.{square, same_quarter, node_has, are_related, IsNode}, Covers.{cover_below, section_cover, node_at}}
use Rattle.title_land.specs.{CoverSets.{quarter_before, path_before}, Lands.{has, cover_of, land_of, meets, IsLand}, Laws.Members.{In}}
use Rattle.title_land.specs.Laws.{GridLaws.{grid_has-everywhere, inside_holds, on_side, both_off}, Filling.{fills_at, fills_from}}
use Rattle.title_land.specs.Laws.Squares.{Inside, inside, holds_from, quarters_apart, nested, square_inside, sized, has_corner}
use Rattle.title_land.specs.Laws.{CoverCells.{cover_found, cover_complete}, CoversMeet.{meets_by_covers}}
use Rattle.title_land.specs.Laws.CoverOrder.{Ordered, inner_before, cover_ordered}
use Rattle.title_land.specs.declared.node.Node.TheVariants as node
use Rattle.title_land.specs.declared.tract.Land.TheVariants as land

-- a square with a cell lies in the section
pub square_in_section : (d : ℕ) (w : List Quarter) → length w ≤ d → InSection d (square d w)
square_in_section d w h =
    let z = sized d (d - length w) w (omega arith) in
    (omega (arith, z), omega (arith, z))

-- the set of the cells of a rectangle in the section has those that the rectangle holds
pub rectangle_has : (d : ℕ) (r : Rectangle) (row column : ℕ) → InSection d r
    → grid_has (grid_of d (holds r)) row column ≡ holds r row column
rectangle_has d r row column h =
    grid_has-everywhere d (holds r) row column
    ∙ both_off false (holds r row column) (on_side d row column) (λ e. refl) (inside_holds d r row column h)

-- the set of a square's cells has those that the square holds
pub square_has : (d : ℕ) (w : List Quarter) (row column : ℕ) → length w ≤ d
    → grid_has (grid_of d (holds (square d w))) row column ≡ holds (square d w) row column
square_has d w row column h = rectangle_has d (square d w) row column (square_in_section d w h)

-- the cells of a node are those of its land
pub has-land_of : (d : ℕ) (n : Node) (c : Cell) → IsNode d n → has (land_of d n) c ≡ node_has d n c
unfolding has
has-land_of d node.Everything c h = refl
has-land_of d (node.Township t) c h = refl
has-land_of d (node.Part s w) c h = ap (λ (b : Bool). same_section s c.section && b) (square_has d w c.row c.column h)

-- ---- the cover

pub quarter_after : (q : Quarter) → quarter_before q q ≡ false
quarter_after Northeast = refl
quarter_after Northwest = refl
quarter_after Southwest = refl
quarter_after Southeast = refl

pub same_self : (q : Quarter) → same_quarter q q ≡ true
same_self Northeast = refl
same_self Northwest = refl
same_self Southwest = refl
same_self Southeast = refl

-- no square comes before itself
pub path_after : (p : List Quarter) → path_before p p ≡ false
path_after [] = refl
path_after (q ∷ p) = rw (quarter_after q, same_self q) (path_after p)

-- a list in order of which w is the only member is w alone
pub alone_in : (w : List Quarter) (xs : List (List Quarter)) → In w xs → ((p : List Quarter) → In p xs → p ≡ w) → Ordered inner_before xs
    → xs ≡ w ∷ []
alone_in w [] i f o = absurd i
alone_in w (x ∷ []) i f o = ap (λ (y : List Quarter). y ∷ []) (f x (inl refl))
alone_in w (x ∷ y ∷ xs) i f o =
    let e : x ≡ w = f x (inl refl) in
    let g : y ≡ w = f y (inr (inl refl)) in
    let before : inner_before x y ≡ true = o.0 y (inl refl) in
    absurd (both_ways (inner_before w w) (path_after (reverse w)) (subst (λ (z : List Quarter). inner_before z w ≡ true) e
    (subst (λ (z : List Quarter). inner_before x z ≡ true) g before)))

-- a quarter other than this one
other : Quarter → Quarter
other Northeast = Northwest
other Northwest = Northeast
other Southwest = Northeast
other Southeast = Northeast

not_other : (a : Quarter) → a ≡ other a → ⊥
unfolding other
not_other Northeast e = cc
not_other Northwest e = cc
not_other Southwest e = cc
not_other Southeast e = cc

abbrev cells_of_square : ℕ → List Quarter → ℕ → ℕ → Bool
cells_of_square d w = grid_has (grid_of d (holds (square d w)))

-- a filled square lies in no smaller one
not_smaller : (d : ℕ) (w p r : List Quarter) (a : Quarter) → length w ≤ d → w ≡ a ∷ (r ++ p)
    → fills (cells_of_square d w) (square d p) ≡ true → ⊥
not_smaller d w p r a h e f =
    let q = r ++ p in
    let long : length w ≡ suc (length q) = ap length e in
    let c = square d (other a ∷ q) in
    let corner = has_corner d (d - suc (length q)) (other a ∷ q) (omega arith) in
    let in_p = square_inside d (other a ∷ r) p c.top c.left corner in
    let there = sym (square_has d w c.top c.left h) ∙ fills_at (cells_of_square d w) (square d p) c.top c.left f in_p in
    let in_w = subst (λ (x : List Quarter). Inside (square d x) c.top c.left) e (inside (square d w) c.top c.left there) in
    not_other a (quarters_apart a (other a) (square d q) c.top c.left in_w corner)

-- a square of the cover of a square's cells is that square
only_square : (d : ℕ) (w p : List Quarter) → length w ≤ d → In p (cover_below d (cells_of_square d w) d []) → p ≡ w
only_square d w p h i =
    let f = cover_found d (cells_of_square d w) d [] p i in
    let long = f.long in
    let short : length p ≤ d = omega arith in
    let r = square d p in
    let corner = has_corner d (d - length p) p (omega arith) in
    let there = fills_at (cells_of_square d w) r r.top r.left f.filled corner in
    let in_w = inside (square d w) r.top r.left (sym (square_has d w r.top r.left h) ∙ there) in
    elim (cases_lt (length p) (length w)) [
      | inl l ↦
          let n = nested d w p r.top r.left (omega arith) in_w corner in
          smaller n.within n.path_is f.filled l
      | inr l ↦
          let n = nested d p w r.top r.left l corner in_w in
          larger n.within n.path_is f.parent
    ]
  where
    smaller : (r : List Quarter) → w ≡ r ++ p → fills (cells_of_square d w) (square d p) ≡ true → length p < length w → p ≡ w
    smaller [] e f l = sym e
    smaller (a ∷ r) e f l = absurd (not_smaller d w p r a h e f)

    larger : (r : List Quarter) → p ≡ r ++ w → ((p ≡ []) ⊎
        ((a : Quarter) × (rest : List Quarter) × (p ≡ a ∷ rest) × (fills (cells_of_square d w) (square d rest) ≡ false))) → p ≡ w
    larger [] e f = e
    larger (a ∷ r) e f = elim f [
      | inl z ↦ let g : a ∷ (r ++ w) ≡ [] = sym e ∙ z in absurd cc
      | inr z ↦
          let g : a ∷ (r ++ w) ≡ z.0 ∷ z.1 = sym e ∙ z.2 in
          let rest : r ++ w ≡ z.1 = cc in
          absurd (both_ways (fills (cells_of_square d w) (square d z.1))
          z.3 (fills_from (cells_of_square d w) (square d z.1) (λ row column i.
          let in_w = square_inside d r w row column (subst (λ (x : List Quarter). Inside (square d x) row column) (sym rest) i) in
          square_has d w row column h ∙ holds_from (square d w) row column in_w)))
    ]

-- the square is one of that cover
square_listed : (d : ℕ) (w : List Quarter) → length w ≤ d → In w (cover_below d (cells_of_square d w) d [])
square_listed d w h =
    let r = square d w in
    let corner = has_corner d (d - length w) w (omega arith) in
    let whole = square_inside d w [] r.top r.left
    (subst (λ (x : List Quarter). Inside (square d x) r.top r.left) (sym (append-nil w)) corner) in
    let there = square_has d w r.top r.left h ∙ holds_from r r.top r.left corner in
    let k = cover_complete d (cells_of_square d w) d [] r.top r.left (omega arith) whole there in
    subst (λ (x : List Quarter). In x (cover_below d (cells_of_square d w) d [])) (only_square d w k.0 h k.1) k.1

-- a node's land has a cover of that node alone
pub cover_of-land_of : (d : ℕ) (n : Node) → IsNode d n → cover_of d (land_of d n) ≡ n ∷ []
unfolding cover_of
cover_of-land_of d node.Everything h = refl
cover_of-land_of d (node.Township t) h = refl
cover_of-land_of d (node.Part s w) h =
    ap (map (node_at s))
    (alone_in w (cover_below d (cells_of_square d w) d []) (square_listed d w h) (λ p i. only_square d w p h i)
    (cover_ordered d (cells_of_square d w) d []))

-- ---- sizes

-- a set made from a test is as large as the grid
pub is_grid-grid_of : (d : ℕ) (test : ℕ → ℕ → Bool) → IsGrid d (grid_of d test)
unfolding grid_of
is_grid-grid_of d test = (
  length-map-range_with_len (λ row. map (λ column. test row column) (indices d)) 0 (side d),
  All-map (λ (row : List Bool). length row ≡ side d) (λ row. map (λ column. test row column) (indices d)) (indices d)
      (λ k x l. length-map-range_with_len (λ column. test _ column) 0 (side d)),
)

pub is_land-land_of : (d : ℕ) (n : Node) → IsLand d (land_of d n)
is_land-land_of d node.Everything = tt
is_land-land_of d (node.Township t) = tt
is_land-land_of d (node.Part s w) = is_grid-grid_of d (holds (square d w))

-- two nodes' lands share a cell exactly where the nodes are related
pub meets-land_of : (d : ℕ) (m n : Node) → IsNode d m → IsNode d n → meets (land_of d m) (land_of d n) ≡ are_related m n
meets-land_of d m n h k =
    meets_by_covers d (land_of d m) (land_of d n) (is_land-land_of d m) (is_land-land_of d n)
    ∙ rw (cover_of-land_of d m h, cover_of-land_of d n k) (or-false _ ∙ or-false _)

-- the cover of a part is its section's
pub cover_of-part : (d : ℕ) (s : Section) (g : Grid) → section_cover d s (grid_has g) ≡ cover_of d (land.Part s g)
unfolding cover_of
cover_of-part d s g = refl
