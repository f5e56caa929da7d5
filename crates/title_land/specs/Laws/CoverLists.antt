-- The cells of a tract of a section are those of the squares of its cover, one after another.
use Rattle.std.proofs.Common.{◌≡◌, ◌∙◌, ap, sym, refl, subst, ℕ, zero, suc, ◌+◌, ◌-◌, arith, true, false, inl, inr, List, [], ◌∷◌, ◌++◌}
use Rattle.std.proofs.Common.{Bool, length, append_assoc}
use Rattle.std.{specs.{Prelude.{filter}, List.{flat_map}}, proofs.lemmas.List.{append-nil, Elements.{filter-append}, Folds.{flat_map-map}}}
use Rattle.std.proofs.lemmas.Bool.{and_from, and_parts, cases_Bool, false_from_ne_true}
use Rattle.title_land.specs.{Depth.{depth}, declared.{survey.{Township.{Township}, Section.{Section}, Cell.{Cell}}, grid.Grid.{Grid}}}
use Rattle.title_land.specs.declared.rectangle.Quarter.{Quarter, TheVariants.{Northeast, Northwest, Southwest, Southeast}}
use Rattle.title_land.specs.{Nodes.{square, quarters}, Lands.{has, cover_of}}
use Rattle.title_land.specs.{Grids.{grid_has, fills}, Covers.{cover_below, node_at}, Survey.{same_township, same_section}}
use Rattle.title_land.specs.CellLists.{cells_below, section_cells, township_cells, part_cells}
use Rattle.title_land.specs.Laws.{CellMembers.{cells_below-in, township_cells-in}, CoverCells.{fills_one}, Filling.{fills_at}}
use Rattle.title_land.specs.Laws.{CoverLaws.{cover_filled, cover_cell, cover_split}, ListsDoubled.{flat_twice}, Squares.{sized}}
use Rattle.title_land.specs.Laws.{Members.{In, filter_none}, SameLand.{same_section-self, same_township-self}}
use Rattle.title_land.specs.declared.tract.Land.TheVariants as land

-- what passes for each is the whole list
kept_all : (p : Cell → Bool) (cells : List Cell) → ((c : Cell) → In c cells → p c ≡ true) → filter p cells ≡ cells
kept_all p [] f = refl
kept_all p (c ∷ cells) f =
    rw (f c (inl refl)) (ap (λ (cs : List Cell). c ∷ cs) (kept_all p cells (λ e i. f e (inr i))))

kept_flat : {X : Type 0} (p : Cell → Bool) (f : X → List Cell) (xs : List X)
    → filter p (flat_map f xs) ≡ flat_map (λ x. filter p (f x)) xs
kept_flat p f [] = refl
kept_flat p f (x ∷ xs) = filter-append p (f x) (flat_map f xs) ∙ ap (λ (cs : List Cell). filter p (f x) ++ cs) (kept_flat p f xs)

-- lists that are alike, joined
pub flat_same : {X R : Type 0} (f g : X → List R) (xs : List X) → ((x : X) → In x xs → f x ≡ g x) → flat_map f xs ≡ flat_map g xs
flat_same f g [] h = refl
flat_same f g (x ∷ xs) h = (λ i. h x (inl refl) i ++ flat_same f g xs (λ y j. h y (inr j)) i)

-- every cell lies in everything, and a township's in it
pub kept_of_everything : (cells : List Cell) → filter (has land.Everything) cells ≡ cells
unfolding has
kept_of_everything cells = kept_all (has land.Everything) cells (λ c i. refl)

pub kept_of_township : (t : Township) → filter (has (land.Township t)) (township_cells depth t) ≡ township_cells depth t
unfolding has
kept_of_township t = kept_all (has (land.Township t)) (township_cells depth t) (λ c i.
    ap (same_township t) (township_cells-in depth t c i).0 ∙ same_township-self t)

module _ (s : Section) (g : Grid) where
  abbrev below : List Quarter → List Cell
  below p = cells_below depth s (depth - length p) p

  abbrev covers : ℕ → List Quarter → List (List Quarter)
  covers levels q = cover_below depth (grid_has g) levels q

  -- a square that the set fills
  kept_filled : (levels : ℕ) (q : List Quarter) → levels + length q ≡ depth → fills (grid_has g) (square depth q) ≡ true
      → filter (has (land.Part s g)) (cells_below depth s levels q) ≡ flat_map below (covers levels q)
  unfolding has
  kept_filled levels q l e =
      let less : levels ≡ depth - length q = omega (arith, l) in
      kept_all (has (land.Part s g)) (cells_below depth s levels q) (λ c i.
      let k = cells_below-in depth s levels q c l i in
      and_from (same_section s c.section) (grid_has g c.row c.column)
      (subst (λ (u : Section). same_section s u ≡ true) (sym k.0) (same_section-self s))
      (fills_at (grid_has g) (square depth q) c.row c.column e k.1))
      ∙ sym (append-nil (cells_below depth s levels q))
      ∙ ap (λ (n : ℕ). cells_below depth s n q ++ []) less
      ∙ ap (flat_map below) (sym (cover_filled depth (grid_has g) levels q e))

  -- a cell that isn't in the set
  kept_cell : (q : List Quarter) → zero + length q ≡ depth → fills (grid_has g) (square depth q) ≡ false
      → filter (has (land.Part s g)) (cells_below depth s zero q) ≡ []
  unfolding has
  kept_cell q l e =
      filter_none (has (land.Part s g)) (cells_below depth s zero q) (λ c i.
      let k = cells_below-in depth s zero q c l i in
      false_from_ne_true (has (land.Part s g) c) (λ h.
      let j = and_parts (same_section s c.section) (grid_has g c.row c.column) h in
      let full = fills_one depth (grid_has g) (square depth q) c.row c.column (sized depth zero q l) k.1 j.1 in
      let clash : true ≡ false = sym full ∙ e in
      absurd cc))

  -- the cover of a square that isn't filled, by its quarters
  by_quarters : (levels : ℕ) (q : List Quarter) → fills (grid_has g) (square depth q) ≡ false
      → flat_map (λ (x : Quarter). covers levels (x ∷ q)) quarters ≡ covers (suc levels) q
  by_quarters levels q e =
      let one : suc levels - 1 ≡ levels = omega arith in
      let k = rw one at (cover_split depth (grid_has g) (suc levels) q e (omega arith)) in
      let part = λ (x : Quarter). covers levels (x ∷ q) in
      ap (λ (ps : List (List Quarter)). part Northeast ++ (part Northwest ++ (part Southwest ++ ps))) (append-nil (part Southeast))
      ∙ sym (append_assoc (part Northeast) (part Northwest) (part Southwest ++ part Southeast))
      ∙ sym (append_assoc (part Northeast ++ part Northwest) (part Southwest) (part Southeast))
      ∙ sym k

  kept_below : (levels : ℕ) (q : List Quarter) → levels + length q ≡ depth
      → filter (has (land.Part s g)) (cells_below depth s levels q) ≡ flat_map below (covers levels q)
  kept_below zero q l = elim (cases_Bool (fills (grid_has g) (square depth q))) [
    | inl e ↦ kept_filled zero q l e
    | inr e ↦ kept_cell q l e ∙ ap (flat_map below) (sym (cover_cell depth (grid_has g) zero q e (omega arith)))
  ]
  kept_below (suc levels) q l = elim (cases_Bool (fills (grid_has g) (square depth q))) [
    | inl e ↦ kept_filled (suc levels) q l e
    | inr e ↦
        kept_flat (has (land.Part s g)) (λ x. cells_below depth s levels (x ∷ q)) quarters
        ∙ flat_same (λ x. filter (has (land.Part s g)) (cells_below depth s levels (x ∷ q))) (λ x. flat_map below (covers levels (x ∷ q)))
        quarters (λ x i. kept_below levels (x ∷ q) (omega (arith, l)))
        ∙ flat_twice (λ x. covers levels (x ∷ q)) below quarters
        ∙ ap (flat_map below) (by_quarters levels q e)
  ]

  pub kept_of_part : filter (has (land.Part s g)) (section_cells depth s) ≡ flat_map (part_cells depth s) (cover_of depth (land.Part s g))
  unfolding cover_of
  kept_of_part = kept_below depth [] (omega arith) ∙ sym (flat_map-map (part_cells depth s) (node_at s) (covers depth []))
