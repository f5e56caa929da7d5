-- The first of a tract's cells that refuses, list after list.
use Rattle.std.proofs.Common.{◌≡◌, ◌∙◌, ap, sym, refl, subst, ℕ, zero, suc, ◌+◌, ◌-◌, ◌<◌, arith, true, false, List, [], ◌∷◌, ◌++◌, length}
use Rattle.std.{proofs.Common.{drop, get_or, Option, Some, None, is_some, Bool, ◌||◌, cond}, specs.{Prelude.{filter}, Option.{option_or}}}
use Rattle.std.{specs.List.{flat_map, list_any}, proofs.lemmas.{Bool.{cond_both}, List.{at_drop_more, get_or_default}}}
use Rattle.std.proofs.lemmas.List.{Elements.{filter-append}, Folds.{list_any_at}}
use Rattle.title_land.specs.{Depth.{depth}, declared.{survey.{Township.{Township}, Section.{Section}, Cell.{Cell}}, tract.Land.{Land}}}
use Rattle.title_land.specs.{declared.{rectangle.Quarter.{Quarter, TheVariants.{Northeast}}, grid.Grid.{Grid}}, Nodes.{quarters}}
use Rattle.title_land.specs.declared.node.Node.{Node}
use Rattle.title_land.specs.{Survey.{same_township}, Laws.CellFilters.{township_elsewhere, part_elsewhere, part_in_township}}
use Rattle.title_land.specs.CellLists.{cells_below, section_cells, township_cells, plant_cells, cells_of, part_cells}
use Rattle.title_land.specs.{Lands.{has, cover_of, is_in_plant}, Laws.SameLand.{same_township-is, same_township-self}}
use Rattle.title_land.specs.Laws.CoverLists.{kept_of_everything, kept_of_township, kept_of_part}
use Rattle.title_instrument.specs.declared.{parts.{Estate.{Estate}, Rule.{Rule}}, instrument.Instrument.{Instrument}}
use Rattle.title_instrument.specs.{declared.owners.Effect.{Effect, TheVariants.{Done, Refused}}, Effect.{cell_effect}}
use Rattle.title_store.specs.Plants.{Plant, Failing, failing_or, first_failing}
use Rattle.title_tree.specs.CellWays.{cell_way}
use Rattle.title_tree_store.specs.{declared.refusals.Search.{Search}, Spots.{index_of}, Forests.{plots, owners_at}}
use Rattle.title_tree_store.specs.Refusing.{first_for, triple}
use Rattle.title_land.specs.declared.node.Node.TheVariants as node
use Rattle.title_land.specs.declared.tract.Land.TheVariants as land

failing_step : (c : Cell) (e : Effect) (x y : Option Failing) (z : Option (Rule × Estate × Cell))
    → triple x ≡ option_or (triple y) z → triple (failing_or c e x) ≡ option_or (triple (failing_or c e y)) z
failing_step c (Done w) x y z h = h
failing_step c (Refused rule estate) x y z h = refl

failing_join : (i : Instrument ℕ) (p : Plant) (xs ys : List Cell)
    → triple (first_failing i p (xs ++ ys)) ≡ option_or (triple (first_failing i p xs)) (triple (first_failing i p ys))
failing_join i p [] ys = refl
failing_join i p (c ∷ xs) ys =
    failing_step c (cell_effect i (p c)) (first_failing i p (xs ++ ys)) (first_failing i p xs) (triple (first_failing i p ys))
    (failing_join i p xs ys)

-- a search takes the first of two lists that has something
pub first_join : (x : Search) (xs ys : List Cell) → first_for x (xs ++ ys) ≡ option_or (first_for x xs) (first_for x ys)
first_join x = failing_join x.instrument.now (λ c. owners_at (plots x.forest.now) (index_of x.townships.now c.section.township)
    (c.section.number - 1) (cell_way depth c.row c.column))

-- a square's cells by its quarters
abbrev pub quarter_cells : Section → ℕ → List Quarter → Quarter → List Cell
quarter_cells s below w q = cells_below depth s (below - 1) (q ∷ w)

pub square_cells : (s : Section) (below : ℕ) (w : List Quarter) → 0 < below
    → cells_below depth s below w ≡ flat_map (quarter_cells s below w) quarters
square_cells s zero w l = absurd (omega (arith, l))
square_cells s (suc below) w l = let k : suc below - 1 ≡ below = omega arith in rw k refl

-- a section's cells by its node
pub section_is : (x : Search) (s : Section) (n : Node) → n ≡ node.Part s []
    → first_for x (part_cells depth s n) ≡ first_for x (section_cells depth s)
section_is x s n e = let all : depth - 0 ≡ depth = omega arith in
    ap (λ (m : Node). first_for x (part_cells depth s m)) e ∙ ap (λ (m : ℕ). first_for x (cells_below depth s m [])) all

module _ (x : Search) where
  -- where the first list has nothing
  pub first_later : (xs ys : List Cell) (o : Option (Rule × Estate × Cell)) → o ≡ first_for x xs → is_some o ≡ false
      → first_for x (xs ++ ys) ≡ first_for x ys
  first_later xs ys None h none = first_join x xs ys ∙ (λ k. option_or (sym h k) (first_for x ys))
  first_later xs ys (Some f) h none = absurd cc

  -- where it has something
  pub first_here : (xs ys : List Cell) (o : Option (Rule × Estate × Cell)) → o ≡ first_for x xs → is_some o ≡ true
      → o ≡ first_for x (xs ++ ys)
  first_here xs ys None h some = absurd cc
  first_here xs ys (Some f) h some = sym (first_join x xs ys ∙ (λ k. option_or (sym h k) (first_for x ys)))

  module _ {X : Type 0} (cells : X → List Cell) (xs : List X) (n : ℕ) where
    -- the next of some lists
    next_is : (y : X) → n < length xs → y ≡ get_or xs n y
        → first_for x (flat_map cells (drop n xs)) ≡ first_for x (cells y ++ flat_map cells (drop (n + 1) xs))
    next_is y l at = at_drop_more (λ (z : List X). first_for x (flat_map cells z)) xs n y l
        ∙ ap (λ (z : X). first_for x (cells z ++ flat_map cells (drop (n + 1) xs))) (sym at)

    pub next_later : {y : X} {o : Option (Rule × Estate × Cell)} → n < length xs → y ≡ get_or xs n y → o ≡ first_for x (cells y)
        → is_some o ≡ false → first_for x (flat_map cells (drop n xs)) ≡ first_for x (flat_map cells (drop (n + 1) xs))
    next_later {y} {o} l at h none = next_is y l at ∙ first_later (cells y) (flat_map cells (drop (n + 1) xs)) o h none

    pub next_here : {y : X} {o : Option (Rule × Estate × Cell)} → n < length xs → y ≡ get_or xs n y → o ≡ first_for x (cells y)
        → is_some o ≡ true → o ≡ first_for x (flat_map cells (drop n xs))
    next_here {y} {o} l at h some = first_here (cells y) (flat_map cells (drop (n + 1) xs)) o h some ∙ sym (next_is y l at)

-- the next quarter of a square
module _ (x : Search) (s : Section) (below : ℕ) (w v : List Quarter) (n : ℕ) (l : n < length quarters)
    (at : v ≡ get_or quarters n Northeast ∷ w) (o : Option (Rule × Estate × Cell))
    (h : o ≡ first_for x (cells_below depth s (below - 1) v)) where
  first_is : o ≡ first_for x (quarter_cells s below w (get_or quarters n Northeast))
  first_is = h ∙ ap (λ (z : List Quarter). first_for x (cells_below depth s (below - 1) z)) at

  pub quarter_later : is_some o ≡ false → first_for x (flat_map (quarter_cells s below w) (drop n quarters))
      ≡ first_for x (flat_map (quarter_cells s below w) (drop (n + 1) quarters))
  quarter_later =
      next_later x (quarter_cells s below w) quarters n l (get_or_default quarters n Northeast (get_or quarters n Northeast) l) first_is

  pub quarter_here : is_some o ≡ true → o ≡ first_for x (flat_map (quarter_cells s below w) (drop n quarters))
  quarter_here =
      next_here x (quarter_cells s below w) quarters n l (get_or_default quarters n Northeast (get_or quarters n Northeast) l) first_is

-- ---- a township that is one of some

-- one in its place is
pub at_place : (ts : List Township) (n : ℕ) (t : Township) → n < length ts → t ≡ get_or ts n t → list_any (same_township t) ts ≡ true
at_place ts n t l e = list_any_at (same_township t) ts n t l (ap (same_township t) (sym e) ∙ same_township-self t)

-- of those of the cells that the tract has
abbrev first_of : Search → List Cell → Option (Rule × Estate × Cell)
first_of x cells = first_for x (filter (has x.tract.now) cells)

first_of_join : (x : Search) (xs ys : List Cell) → first_of x (xs ++ ys) ≡ option_or (first_of x xs) (first_of x ys)
first_of_join x xs ys = ap (first_for x) (filter-append (has x.tract.now) xs ys)
    ∙ first_join x (filter (has x.tract.now) xs) (filter (has x.tract.now) ys)

-- the tract's cells by the townships
tract_cells : (x : Search) → first_of x (flat_map (township_cells depth) x.townships.now)
    ≡ first_for x (cells_of depth x.townships.now x.tract.now)
unfolding cells_of plant_cells
tract_cells x = refl

-- a tract that is the plant
pub plant_found : (x : Search) → x.tract.now ≡ land.Everything
    → first_for x (flat_map (township_cells depth) x.townships.now) ≡ first_for x (cells_of depth x.townships.now x.tract.now)
plant_found x e = ap (first_for x) (sym (kept_of_everything (flat_map (township_cells depth) x.townships.now)))
    ∙ ap (λ (y : Land). first_for x (filter (has y) (flat_map (township_cells depth) x.townships.now))) (sym e) ∙ tract_cells x

or_test : {A : Type 0} (a b : Bool) (o : Option A) → option_or (cond a o None) (cond b o None) ≡ cond (a || b) o None
or_test false b o = refl
or_test true b (Some x) = refl
or_test true true None = refl
or_test true false None = refl

found_among : (x : Search) (test : Township → Bool) (o : Option (Rule × Estate × Cell)) (ts : List Township)
    → ((t : Township) → first_of x (township_cells depth t) ≡ cond (test t) o None)
    → first_of x (flat_map (township_cells depth) ts) ≡ cond (list_any test ts) o None
found_among x test o [] f = refl
found_among x test o (t ∷ ts) f = first_of_join x (township_cells depth t) (flat_map (township_cells depth) ts)
    ∙ (λ k. option_or (f t k) (found_among x test o ts f k)) ∙ or_test (test t) (list_any test ts) o

-- cells that are all the tract has in one township of the plant
found_in : (x : Search) (t : Township) (cells : List Cell) → list_any (same_township t) x.townships.now ≡ true
    → ((u : Township) → same_township t u ≡ true → first_of x (township_cells depth u) ≡ first_of x cells)
    → ((u : Township) → same_township t u ≡ false → filter (has x.tract.now) (township_cells depth u) ≡ [])
    → first_of x cells ≡ first_for x (cells_of depth x.townships.now x.tract.now)
found_in x t cells of here elsewhere = sym (found_among x (same_township t) (first_of x cells) x.townships.now (λ u.
    cond_both (same_township t u) (first_of x cells) None (λ z. first_of x (township_cells depth u) ≡ z) (here u)
    (λ h. ap (first_for x) (elsewhere u h)))
    ∙ ap (λ (b : Bool). cond b (first_of x cells) None) of) ∙ tract_cells x

-- a tract that is a township of the plant
pub township_found : (x : Search) (t : Township) → x.tract.now ≡ land.Township t → is_in_plant x.townships.now x.tract.now ≡ true
    → first_for x (township_cells depth t) ≡ first_for x (cells_of depth x.townships.now x.tract.now)
township_found x t e of = ap (first_for x) (sym (kept_of_township t))
    ∙ ap (λ (y : Land). first_for x (filter (has y) (township_cells depth t))) (sym e)
    ∙ found_in x t (township_cells depth t) (subst (λ (y : Land). is_in_plant x.townships.now y ≡ true) e of)
    (λ u h. ap (λ (v : Township). first_of x (township_cells depth v)) (sym (same_township-is t u h)))
    (λ u h. ap (λ (y : Land). filter (has y) (township_cells depth u)) e ∙ township_elsewhere depth t u h)

-- a tract of a section of the plant
pub part_found : (x : Search) (s : Section) (g : Grid) → x.tract.now ≡ land.Part s g → is_in_plant x.townships.now x.tract.now ≡ true
    → first_for x (flat_map (part_cells depth s) (cover_of depth x.tract.now)) ≡ first_for x (cells_of depth x.townships.now x.tract.now)
part_found x s g e of =
    ap (λ (y : Land). first_for x (flat_map (part_cells depth s) (cover_of depth y))) e ∙ ap (first_for x) (sym (kept_of_part s g))
    ∙ ap (λ (y : Land). first_for x (filter (has y) (section_cells depth s))) (sym e)
    ∙ found_in x s.township (section_cells depth s) (subst (λ (y : Land). is_in_plant x.townships.now y ≡ true) e of)
    (λ u h. ap (first_for x) (ap (λ (y : Land). filter (has y) (township_cells depth u)) e ∙ part_in_township depth s g u h
    ∙ sym (ap (λ (y : Land). filter (has y) (section_cells depth s)) e)))
    (λ u h. ap (λ (y : Land). filter (has y) (township_cells depth u)) e ∙ part_elsewhere depth s g u h)
