-- The nodes of a tract's cover have cells of the tract alone, and a node's children cells of the node.
use Rattle.std.proofs.Common.{◌≡◌, ℕ, zero, suc, ◌+◌, ◌<◌, ◌≤◌, Bool, true, false, ◌&&◌, List, [], ◌∷◌, ◌++◌, length, map, refl, sym, ap}
use Rattle.std.{proofs.{Common.{◌∙◌, arith, if◌then◌else◌, inl, inr}, lemmas.Bool.{and_from, and_parts, cases_eq}}, specs.Prelude.{nat_lt}}
use Rattle.std.specs.List.{AllByRecursion}
use Rattle.title_land.specs.declared.{survey.{Township.{Township}, Section.{Section}, Cell.{Cell}}, rectangle.Quarter.{Quarter}}
use Rattle.title_land.specs.declared.rectangle.{Quarter.TheVariants.{Northeast, Northwest, Southwest, Southeast}, Rectangle.{Rectangle}}
use Rattle.title_land.specs.{declared.{node.{Node.{Node}, Within.{Within}}, tract.Land.{Land}}, Survey.{same_township, same_section}}
use Rattle.title_land.specs.{Rectangles.{holds, quarter_of}, Nodes.{square, quarters, node_has}, Covers.{cover_below, node_at}}
use Rattle.title_land.specs.{Grids.{grid_has, range_all, row_fills, fills}, Lands.{has, cover_of}, CellLists.{sections_of, children_of}}
use Rattle.title_land.specs.Laws.Squares.{inside, quarter_inside, holds_from}
use Rattle.title_land.specs.declared.node.Node.TheVariants as node
use Rattle.title_land.specs.declared.tract.Land.TheVariants as land
use Rattle.title_store.specs.Laws.{Each.{each_from, each_append, each_map}, PlantCells.{sections_each}}

range_at : (test : ℕ → Bool) (start n k : ℕ) → range_all test start n ≡ true → start ≤ k → k < start + n → test k ≡ true
range_at test start zero k h a b = absurd (omega arith)
range_at test start (suc n) k h a b =
    let parts = and_parts (test start) (range_all test (start + 1) n) h in
    elim (cases_eq start k) [
      | inl e ↦ sym (ap test e) ∙ parts.0
      | inr e ↦ range_at test (start + 1) n k parts.1 (omega (arith, e)) (omega arith)
    ]

-- a set that fills a rectangle has each of its cells
filled_at : (set : ℕ → ℕ → Bool) (r : Rectangle) (row column : ℕ) → fills set r ≡ true → holds r row column ≡ true → set row column ≡ true
filled_at set r row column h k =
    let i = inside r row column k in
    range_at (λ x. set row x) r.left r.width column (range_at (λ x. row_fills set r x) r.top r.height row h (omega (arith, i))
    (omega (arith, i))) (omega (arith, i)) (omega (arith, i))

-- a square of the set, with quarters down to a cell at most
abbrev Listed : ℕ → (ℕ → ℕ → Bool) → List Quarter → Type 0
Listed d set q = (fills set (square d q) ≡ true) × (length q ≤ d)

cover_each_below : (d : ℕ) (set : ℕ → ℕ → Bool) (levels : ℕ) (q : List Quarter) → levels + length q ≡ d
    → AllByRecursion (Listed d set) (cover_below d set levels q)
cover_each_below d set zero q l = go (fills set (square d q)) refl
  where
    go : (b : Bool) → fills set (square d q) ≡ b → AllByRecursion (Listed d set) (if b then q ∷ [] else [])
    go true e = ((e, omega arith), tt)
    go false e = tt
cover_each_below d set (suc levels) q l =
    go (fills set (square d q)) refl
    (cover_each_below d set levels (Northeast ∷ q) (omega arith))
    (cover_each_below d set levels (Northwest ∷ q) (omega arith))
    (cover_each_below d set levels (Southwest ∷ q) (omega arith))
    (cover_each_below d set levels (Southeast ∷ q) (omega arith))
  where
    go : (b : Bool) → fills set (square d q) ≡ b
        → AllByRecursion (Listed d set) (cover_below d set levels (Northeast ∷ q))
        → AllByRecursion (Listed d set) (cover_below d set levels (Northwest ∷ q))
        → AllByRecursion (Listed d set) (cover_below d set levels (Southwest ∷ q))
        → AllByRecursion (Listed d set) (cover_below d set levels (Southeast ∷ q))
        → AllByRecursion (Listed d set) (if b then q ∷ [] else
        (cover_below d set levels (Northeast ∷ q) ++ cover_below d set levels (Northwest ∷ q)
        ++ cover_below d set levels (Southwest ∷ q) ++ cover_below d set levels (Southeast ∷ q)))
    go true e ne nw sw se = ((e, omega arith), tt)
    go false e ne nw sw se = each_append (Listed d set) _ _ (each_append (Listed d set) _ _ (each_append (Listed d set) _ _ ne nw) sw) se

abbrev HasWithin : ℕ → Land → Node → Type 0
HasWithin d land n = (c : Cell) → node_has d n c ≡ true → has land c ≡ true

part_within : (d : ℕ) (s : Section) (set : ℕ → ℕ → Bool) (q : List Quarter) (c : Cell) → Listed d set q → node_has d (node_at s q) c ≡ true
    → (same_section s c.section && set c.row c.column) ≡ true
part_within d s set q c h in_node =
    let parts = and_parts (same_section s c.section) _ in_node in
    and_from _ _ parts.0 (filled_at set (square d q) c.row c.column h.0 parts.1)

-- the cells of a cover's nodes are the tract's
pub cover_within : (d : ℕ) (land : Land) → AllByRecursion (HasWithin d land) (cover_of d land)
unfolding cover_of has
cover_within d land.Everything = ((λ c h. refl), tt)
cover_within d (land.Township t) = ((λ c h. h), tt)
cover_within d (land.Part s g) =
    each_map (node_at s) (HasWithin d (land.Part s g)) (cover_below d (grid_has g) d [])
    (each_from (Listed d (grid_has g)) (λ q. HasWithin d (land.Part s g) (node_at s q)) _ (λ q h c k. part_within d s (grid_has g) q c h k)
    (cover_each_below d (grid_has g) d [] (omega arith)))

quarter_holds : (q : Quarter) (r : Rectangle) (row column : ℕ) → holds (quarter_of q r) row column ≡ true → holds r row column ≡ true
quarter_holds q r row column h = holds_from r row column (quarter_inside q r row column (inside (quarter_of q r) row column h))

abbrev LiesIn : ℕ → Node → Node → Type 0
LiesIn d above n = (c : Cell) → node_has d n c ≡ true → node_has d above c ≡ true

everywhere : (d : ℕ) (nodes : List Node) → AllByRecursion (LiesIn d node.Everything) nodes
everywhere d [] = tt
everywhere d (n ∷ nodes) = ((λ c h. refl), everywhere d nodes)

section_in : (d : ℕ) (t : Township) (s : Section) → s.township ≡ t → LiesIn d (node.Township t) (node.Part s [])
section_in d t s e c h =
    let parts = and_parts (same_section s c.section) _ h in
    sym (ap (λ (x : Township). same_township x c.section.township) e)
    ∙ (and_parts (same_township s.township c.section.township) _ parts.0).0

pub quarter_in : (d : ℕ) (s : Section) (w : Within) (q : Quarter) → LiesIn d (node.Part s w) (node.Part s (q ∷ w))
quarter_in d s w q c h =
    let parts = and_parts (same_section s c.section) _ h in
    and_from _ _ parts.0 (quarter_holds q (square d w) c.row c.column parts.1)

-- the cells of a node's children are its cells
pub children_within : (d : ℕ) (ts : List Township) (n : Node) → AllByRecursion (LiesIn d n) (children_of d ts n)
children_within d ts node.Everything = everywhere d _
children_within d ts (node.Township t) =
    each_map (λ s. node.Part s []) (LiesIn d (node.Township t)) (sections_of t)
    (each_from (λ s. s.township ≡ t) (λ s. LiesIn d (node.Township t) (node.Part s [])) (sections_of t) (section_in d t) (sections_each t))
children_within d ts (node.Part s w) = go (nat_lt (length w) d)
  where
    go : (b : Bool) → AllByRecursion (LiesIn d (node.Part s w)) (if b then map (λ q. node.Part s (q ∷ w)) quarters else [])
    go true =
        (quarter_in d s w Northeast, (quarter_in d s w Northwest, (quarter_in d s w Southwest, (quarter_in d s w Southeast, tt))))
    go false = tt
