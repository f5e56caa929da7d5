-- A land whose cover is one node is the land of that node.
use Rattle.std.proofs.{Common.{◌≡◌, ◌∙◌, ℕ, ◌<◌, true, List, [], ◌∷◌, map, refl, sym, ap, subst}, lemmas.Bool.{and_from, lt-ltb}}
use Rattle.std.{proofs.{Math.Bool.{or-false}, lemmas.List.Elements.{All-head}}, specs.{Prelude.{nat_lt}, List.{All}}}
use Rattle.title_land.specs.declared.{grid.Grid.{Grid}, node.Node.{Node}, survey.{Cell.{Cell}, Section.{Section}}, tract.Land.{Land}}
use Rattle.title_land.specs.{declared.rectangle.Quarter.{Quarter}, Covers.{cover_below, node_at}, Depth.{depth}, Grids.{grid_has, IsGrid}}
use Rattle.title_land.specs.{Lands.{cover_of, has, land_of, IsLand}, Nodes.{node_has, square, IsNode}, Survey.{is_on_grid, side}}
use Rattle.title_land.specs.{Rectangles.{holds}, Laws.{CoverSet.{cover_is_cover}, LandSharing.{cover_has_its_cells}}}
use Rattle.title_land.specs.Laws.SameLand.{same_section-self}
use Rattle.title_land.specs.declared.node.Node.TheVariants as node
use Rattle.title_land.specs.declared.tract.Land.TheVariants as land
use Rattle.title_spelling.proofs.Grids.{grid_is}

-- ---- a part of a section

abbrev at : Section → ℕ → ℕ → Cell
at s row column = record { section = s; row = row; column = column }

on_grid : (s : Section) (row column : ℕ) → row < side depth → column < side depth → is_on_grid depth (at s row column) ≡ true
on_grid s row column r c =
    and_from (nat_lt row (side depth)) (nat_lt column (side depth)) (lt-ltb row (side depth) r) (lt-ltb column (side depth) c)

-- a cell lies in a part exactly where its set has it
part_has : (s : Section) (g : Grid) (row column : ℕ) → has (land.Part s g) (at s row column) ≡ grid_has g row column
unfolding has
part_has s g row column = rw (same_section-self s) refl

-- the one node of the cover has the cells of the set and no others
sole_has : (s : Section) (g : Grid) (w : List Quarter) → cover_of depth (land.Part s g) ≡ node.Part s w ∷ [] →
    (row column : ℕ) → row < side depth → column < side depth → grid_has g row column ≡ holds (square depth w) row column
sole_has s g w e row column r c =
    let one : (node_has depth (node.Part s w) (at s row column)) ≡ holds (square depth w) row column = rw (same_section-self s) refl in
    let all = cover_has_its_cells depth (land.Part s g) (at s row column) (on_grid s row column r c) in
    sym (part_has s g row column) ∙ rw e at all ∙ or-false _ ∙ one

cover_is : (s : Section) (g : Grid) → cover_of depth (land.Part s g) ≡ map (node_at s) (cover_below depth (grid_has g) depth [])
unfolding cover_of
cover_is s g = refl

sole_by : (s : Section) (g : Grid) (n : Node) (paths : List (List Quarter)) → IsGrid depth g → cover_of depth (land.Part s g) ≡ n ∷ []
    → map (node_at s) paths ≡ n ∷ [] → land.Part s g ≡ land_of depth n
sole_by s g n [] sized e m = absurd cc
sole_by s g n (w ∷ []) sized e m =
    let same : node.Part s w ≡ n = cc in
    let cells = grid_is depth g (holds (square depth w)) sized (sole_has s g w (rw same e)) in
    ap (λ (h : Grid). land.Part s h) cells ∙ ap (λ (x : Node). land_of depth x) same
sole_by s g n (w ∷ v ∷ paths) sized e m = absurd cc

-- ---- any land

pub sole_node : (l : Land) (n : Node) → IsLand depth l → cover_of depth l ≡ n ∷ [] → l ≡ land_of depth n
unfolding cover_of
sole_node land.Everything n sized e = let same : node.Everything ≡ n = cc in ap (λ (x : Node). land_of depth x) same
sole_node (land.Township t) n sized e = let same : node.Township t ≡ n = cc in ap (λ (x : Node). land_of depth x) same
sole_node (land.Part s g) n sized e = sole_by s g n (cover_below depth (grid_has g) depth []) sized e (sym (cover_is s g) ∙ e)

-- the node of a cover is one of the tree
pub sole_in_tree : (l : Land) (n : Node) → cover_of depth l ≡ n ∷ [] → IsNode depth n
sole_in_tree l n e =
    All-head (IsNode depth) n [] (subst (λ (nodes : List Node). All (IsNode depth) nodes) e (cover_is_cover depth l).in_tree)
