-- A land whose cover is one node is that node's.
use Rattle.std.proofs.Common.{◌≡◌, ◌∙◌, ◌↔◌, ℕ, ◌<◌, Bool, true, false, ◌&&◌, All, List, [], ◌∷◌, length, get_or, arith}
use Rattle.std.{proofs.Common.{ap, sym, refl, subst, inl, unwrap_or, ext_get_or}, specs.Prelude.{nat_lt, slice_get, option_and_then}}
use Rattle.std.{specs.List.{list_any}, proofs.lemmas.{Bool.{and_from, lt-ltb}, Option.{slice_get-get_or, unwrap_or-slice_get}}}
use Rattle.title_land.specs.{Depth.{depth}, declared.{grid.Grid.{Grid}, node.Node.{Node}, survey.Section.{Section}, tract.Land.{Land}}}
use Rattle.title_land.specs.{Grids.{grid_has, grid_of, IsGrid}, Rectangles.{holds}, Nodes.{node_has, square}, Survey.{is_on_grid, side}}
use Rattle.title_land.specs.{Lands.{cover_of, has, land_of, IsLand}, Laws.{SameLand.{same_section-self}, Members.{In}}}
use Rattle.title_land.specs.Laws.{LandSharing.{cover_has_its_cells, cover_in_tree, part_found}, NodeSharing.{cell_at}}
use Rattle.title_land.specs.Laws.NodeLands.{cover_of-land_of, is_grid-grid_of}
use Rattle.title_land.specs.declared.node.Node.TheVariants as node
use Rattle.title_land.specs.declared.tract.Land.TheVariants as land
use Rattle.title_chain.specs.SoleNodes.{HasSoleNode}

-- ---- sets of cells

-- rows that agree at each index are one
cells_one : (m : ℕ) (x y : List Bool) → length x ≡ m → length y ≡ m
    → ((column : ℕ) → column < m → unwrap_or (slice_get x column) false ≡ unwrap_or (slice_get y column) false) → x ≡ y
cells_one m x y k l same = ext_get_or false x y (k ∙ sym l)
    (λ i low. sym (unwrap_or-slice_get x i false) ∙ same i (omega (arith, low, k)) ∙ unwrap_or-slice_get y i false)

-- a row of a set
row_at : (g : List (List Bool)) (row column : ℕ) → row < length g
    → unwrap_or (slice_get (get_or g row []) column) false ≡ grid_has g row column
row_at g row column low =
    ap (λ o. unwrap_or (option_and_then (λ cells. slice_get cells column) o) false) (sym (slice_get-get_or g row [] low))

-- sets of one size that agree in each cell are one
sets_one : (m k : ℕ) (g h : List (List Bool)) → length g ≡ m → length h ≡ m → All (λ row. length row ≡ k) g
    → All (λ row. length row ≡ k) h → ((row column : ℕ) → row < m → column < k → grid_has g row column ≡ grid_has h row column) → g ≡ h
sets_one m k g h a b c d same = ext_get_or [] g h (a ∙ sym b) (λ i low. let near : i < length h = omega (arith, low, a, b) in
    cells_one k (get_or g i []) (get_or h i []) (c i [] low) (d i [] near)
    (λ column inside. row_at g i column low ∙ same i column (omega (arith, low, a)) inside ∙ sym (row_at h i column near)))

-- ---- lands

-- a section's parts that have one cover are one
parts_one : (d : ℕ) (s : Section) (g h : Grid) → IsGrid d g → IsGrid d h → cover_of d (land.Part s g) ≡ cover_of d (land.Part s h) → g ≡ h
unfolding has
parts_one d s g h a b same = sets_one (side d) (side d) g h a.0 b.0 a.1 b.1 (λ row column r c. let cell = cell_at s row column in
    let on : is_on_grid d cell ≡ true = and_from (nat_lt row (side d)) (nat_lt column (side d)) (lt-ltb row (side d) r)
    (lt-ltb column (side d) c) in
    let self = same_section-self s in
    let both = cover_has_its_cells d (land.Part s g) cell on ∙ ap (list_any (λ n. node_has d n cell)) same
    ∙ sym (cover_has_its_cells d (land.Part s h) cell on) in
    sym (ap (λ (o : Bool). o && grid_has g row column) self) ∙ both ∙ ap (λ (o : Bool). o && grid_has h row column) self)

-- a land whose cover is one node is that node's
land_alone : (d : ℕ) (a : Land) (n : Node) → IsLand d a → cover_of d a ≡ n ∷ [] → a ≡ land_of d n
unfolding cover_of
land_alone d land.Everything n i h = let e : node.Everything ≡ n = cc in ap (land_of d) e
land_alone d (land.Township t) n i h = let e : node.Township t ≡ n = cc in ap (land_of d) e
land_alone d (land.Part s g) n i h =
    let listed : In n (cover_of d (land.Part s g)) = subst (λ (nodes : List Node). In n nodes) (sym h) (inl refl) in
    let p = part_found d s g n listed in
    let test = holds (square d p.quarters) in
    let same = h ∙ sym (cover_of-land_of d n (cover_in_tree d (land.Part s g) n listed))
    ∙ ap (λ (m : Node). cover_of d (land_of d m)) p.node_is in
    ap (land.Part s) (parts_one d s g (grid_of d test) i (is_grid-grid_of d test) same) ∙ ap (land_of d) (sym p.node_is)

-- ---- nodes alone

-- lands whose covers are one node are one exactly where the nodes are
pub same_by_node : (a b : Land) (n m : Node) (same : Bool) → IsLand depth a → IsLand depth b → HasSoleNode a n → HasSoleNode b m
    → ((same ≡ true) ↔ (n ≡ m)) → (same ≡ true) ↔ (a ≡ b)
same_by_node a b n m same i j h k both =
    let is = land_alone depth a n i h.cover in
    let other = land_alone depth b m j k.cover in (
      (λ t. is ∙ ap (land_of depth) (both.0 t) ∙ sym other),
      (λ e. let covers : n ∷ [] ≡ m ∷ [] = sym h.cover ∙ ap (cover_of depth) e ∙ k.cover in
          let nodes : n ≡ m = cc in
          both.1 nodes),
    )
