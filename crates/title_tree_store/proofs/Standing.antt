-- What stands in a square of each estate's tree, and what refuses there.
use Rattle.std.proofs.Common.{◌≡◌, ◌∙◌, ap, sym, refl, subst, ℕ, zero, suc, ◌+◌, ◌-◌, ◌<◌, ◌≤◌, arith, Bool, true, false, ◌&&◌, inl, inr}
use Rattle.std.{proofs.Common.{List, [], ◌∷◌, ◌++◌, length, Option, Some, None, Result, Ok, Err}, specs.Prelude.{◌==◌, ◌||◌}}
use Rattle.std.proofs.lemmas.{Bool.{and_parts, or_cases, eqb-true, not-true}, List.{append-nil, reverse-append, length-reverse}}
use Rattle.title_share.specs.Division.{Division}
use Rattle.title_land.specs.{Depth.{depth}, declared.{survey.{Section.{Section}, Cell.{Cell}}, rectangle.Quarter.{Quarter}}, Nodes.{square}}
use Rattle.title_land.specs.{declared.rectangle.Quarter.TheVariants.{Northeast, Northwest, Southwest, Southeast}, CellLists.{cells_below}}
use Rattle.title_land.specs.Laws.{CellMembers.{cells_below-in}, CoverSet.{cell_in_grid}, Members.{In}, Squares.{holds_from}}
use Rattle.title_instrument.specs.declared.{parts.{Estate.{Estate, TheVariants.{S, O, M}}, Rule.{Rule}}, instrument.Instrument.{Instrument}}
use Rattle.title_instrument.specs.{declared.owners.Effect.{Effect, TheVariants.{Done, Refused}}, Estates.{names}, Parties.{estates_of}}
use Rattle.title_instrument.specs.{Effect.{holding_effect, cell_effect, joined}, Laws.EffectLaws.{holding_unnamed}}
use Rattle.title_store.specs.Plants.{Plant, Failing, failing_or, first_failing}
use Rattle.title_tree.specs.{Changes.{why_of}, CellWays.{cell_way}, Paths.{way, begins, rest}, Plots.{Plot, Same, Four, value_at, plot_at}}
use Rattle.title_tree.specs.Laws.{CellSquares.{squares_by_paths, cell_ways_are_whole}, Beginnings.{begins_whole, rest_append}}
use Rattle.title_tree.specs.Laws.Grafts.{value_plot_at, plot_at_same}
use Rattle.title_tree_store.specs.{declared.refusals.{Search.{Search}, Trees.{Trees}}, Forests.{Each, plots, owners_at}, Spots.{index_of}}
use Rattle.title_tree_store.specs.Refusing.{first_cell_of, triple, why_cell, why_three, why_first, is_settled, are_settled, refused_at}
use Rattle.title_tree_store.{specs.Refusing.{stand, StandsAt, first_for}, proofs.{CellPaths.{grid_parts}, Contents.{each, for_each}}}

-- ---- going down

plot_at_join : (p q : List Quarter) (t : Plot) → plot_at (p ++ q) t ≡ plot_at q (plot_at p t)
plot_at_join [] q t = refl
plot_at_join (x ∷ p) q (Same held) = sym (plot_at_same q held)
plot_at_join (Northeast ∷ p) q (Four a b c d) = plot_at_join p q a
plot_at_join (Northwest ∷ p) q (Four a b c d) = plot_at_join p q b
plot_at_join (Southwest ∷ p) q (Four a b c d) = plot_at_join p q c
plot_at_join (Southeast ∷ p) q (Four a b c d) = plot_at_join p q d

pub square_down : (w : List Quarter) (q : Quarter) (t x y : Plot) → x ≡ plot_at (way w) t → y ≡ plot_at (q ∷ []) x
    → y ≡ plot_at (way (q ∷ w)) t
square_down w q t x y h k = k ∙ ap (plot_at (q ∷ [])) h ∙ sym (plot_at_join (way w) (q ∷ []) t)
    ∙ ap (λ (p : List Quarter). plot_at p t) (sym (reverse-append (q ∷ []) w))

-- what stands in a section
abbrev there : Search → Estate → Section → Plot
there x e s = plots x.forest.now e (index_of x.townships.now s.township) (s.number - 1)

-- a quarter of a square
pub stands_down : (x : Search) (s : Section) (w v : List Quarter) (q : Quarter) (t u : Trees) → StandsAt x s w t → v ≡ q ∷ w
    → Each (λ e. stand u e ≡ plot_at (q ∷ []) (stand t e)) → StandsAt x s v u
stands_down x s w v q t u h same k = subst (λ (z : List Quarter). StandsAt x s z u) (sym same)
    (for_each (λ e. square_down w q (there x e s) (stand t e) (stand u e) (each h e) (each k e)))

-- ---- a square's cells

-- a square's cells lie below its path
lies_below : (s : Section) (below : ℕ) (w : List Quarter) (c : Cell) → below + length w ≡ depth → In c (cells_below depth s below w)
    → (c.section ≡ s) × (begins (way w) (cell_way depth c.row c.column) ≡ true)
lies_below s below w c l i =
    let k = cells_below-in depth s below w c l i in
    let short : length w ≤ depth = omega (arith, l) in
    let g = grid_parts record { section = s; row = c.row; column = c.column } (cell_in_grid depth s w c.row c.column short k.1) in
    (k.0, sym (squares_by_paths depth w c.row c.column short g.0 g.1) ∙ holds_from (square depth w) c.row c.column k.1)

-- all cells of a plot are treated as the first
settled_alike : (i : Instrument ℕ) (e : Estate) (t : Plot) (c : List Quarter) → is_settled i e t ≡ true
    → why_of (holding_effect i e (value_at t c)) ≡ why_of (holding_effect i e (value_at t []))
settled_alike i e (Same held) c h = refl
settled_alike i e (Four a b c d) p h =
    let unnamed = not-true (names (estates_of i) e) h in
    ap why_of (holding_unnamed i e (value_at (Four a b c d) p) unnamed)
    ∙ sym (ap why_of (holding_unnamed i e (value_at (Four a b c d) []) unnamed))

settled_each : (i : Instrument ℕ) (t : Trees) → are_settled i t ≡ true → Each (λ e. is_settled i e (stand t e) ≡ true)
settled_each i t h =
    let k = and_parts (is_settled i S (stand t S) && is_settled i O (stand t O)) (is_settled i M (stand t M)) h in
    let j = and_parts (is_settled i S (stand t S)) (is_settled i O (stand t O)) k.0 in
    record { s = j.0; o = j.1; m = k.1 }

-- why a cell refuses, by why each estate does
why_joined : (s o m : Result Division Rule) → why_cell (joined s o m) ≡ why_three (why_of s) (why_of o) (why_of m)
why_joined (Err r) o m = refl
why_joined (Ok s) (Err r) m = refl
why_joined (Ok s) (Ok o) (Err r) = refl
why_joined (Ok s) (Ok o) (Ok m) = refl

-- each cell of a square is treated as the first
alike : (x : Search) (s : Section) (below : ℕ) (w : List Quarter) (t : Trees) (c : Cell) → below + length w ≡ depth → StandsAt x s w t
    → (below == 0 || are_settled x.instrument.now t) ≡ true → In c (cells_below depth s below w)
    → why_cell (cell_effect x.instrument.now (owners_at (plots x.forest.now) (index_of x.townships.now c.section.township)
    (c.section.number - 1) (cell_way depth c.row c.column))) ≡ why_first x.instrument.now t
unfolding cell_effect
alike x s below w t c l h same j =
    why_joined (holding_effect i S (value_at (there x S c.section) p)) (holding_effect i O (value_at (there x O c.section) p))
    (holding_effect i M (value_at (there x M c.section) p)) ∙ (λ k. why_three (as_first S k) (as_first O k) (as_first M k))
  where
    i : Instrument ℕ
    i = x.instrument.now

    p : List Quarter
    p = cell_way depth c.row c.column

    begun : (c.section ≡ s) × (begins (way w) p ≡ true)
    begun = lies_below s below w c l j

    -- a cell's path goes no deeper
    whole : below ≡ 0 → rest (way w) p ≡ []
    whole none =
        let long : length w ≡ depth = omega (arith, l, none) in
        let same = begins_whole (way w) p (length-reverse w ∙ long ∙ sym (cell_ways_are_whole depth c.row c.column)) begun.1 in
        ap (rest (way w)) (sym same ∙ sym (append-nil (way w))) ∙ rest_append (way w) []

    as_first : (e : Estate) → why_of (holding_effect i e (value_at (there x e c.section) p))
        ≡ why_of (holding_effect i e (value_at (stand t e) []))
    as_first e = ap (λ (v : Division). why_of (holding_effect i e v)) (ap (λ (u : Section). value_at (there x e u) p) begun.0
        ∙ sym (value_plot_at (way w) (there x e s) p begun.1) ∙ ap (λ (y : Plot). value_at y (rest (way w) p)) (sym (each h e)))
        ∙ elim (or_cases (below == 0) (are_settled i t) same) [
          | inl none ↦ ap (λ (r : List Quarter). why_of (holding_effect i e (value_at (stand t e) r))) (whole (eqb-true below 0 none))
          | inr settled ↦ settled_alike i e (stand t e) (rest (way w) p) (each (settled_each i t settled) e)
        ]

-- ---- cells that are treated alike

one : (c : Cell) (e : Effect) (o : Option (Rule × Estate)) (y : Option Cell) (later : Option Failing) → why_cell e ≡ o
    → refused_at o y ≡ triple later → refused_at o (Some c) ≡ triple (failing_or c e later)
one c (Done owners) o y later h k =
    ap (λ (q : Option (Rule × Estate)). refused_at q (Some c)) (sym h) ∙ ap (λ (q : Option (Rule × Estate)). refused_at q y) h ∙ k
one c (Refused rule estate) o y later h k = ap (λ (q : Option (Rule × Estate)). refused_at q (Some c)) (sym h)

first_alike : (i : Instrument ℕ) (plant : Plant) (cells : List Cell) (o : Option (Rule × Estate))
    → ((c : Cell) → In c cells → why_cell (cell_effect i (plant c)) ≡ o)
    → refused_at o (first_cell_of cells) ≡ triple (first_failing i plant cells)
first_alike i plant [] None f = refl
first_alike i plant [] (Some why) f = refl
first_alike i plant (c ∷ cells) o f = one c (cell_effect i (plant c)) o (first_cell_of cells) (first_failing i plant cells) (f c (inl refl))
    (first_alike i plant cells o (λ z j. f z (inr j)))

-- what refuses in a square whose cells are treated alike
pub alike_square : (x : Search) (s : Section) (below : ℕ) (w : List Quarter) (t : Trees) {o : Option (Rule × Estate)}
    → below + length w ≡ depth → StandsAt x s w t → (below == 0 || are_settled x.instrument.now t) ≡ true → o ≡ why_first x.instrument.now t
    → refused_at o (first_cell_of (cells_below depth s below w)) ≡ first_for x (cells_below depth s below w)
alike_square x s below w t {o} l h same why =
    first_alike x.instrument.now (λ c. owners_at (plots x.forest.now) (index_of x.townships.now c.section.township)
    (c.section.number - 1) (cell_way depth c.row c.column)) (cells_below depth s below w) o
    (λ c j. alike x s below w t c l h same j ∙ sym why)

-- where cells aren't treated alike there are levels below
pub has_levels : (below : ℕ) (b : Bool) → (below == 0 || b) ≡ false → 0 < below
has_levels zero b h = absurd cc
has_levels (suc below) b h = omega arith
