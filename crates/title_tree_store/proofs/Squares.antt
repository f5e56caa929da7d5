-- Sheets by what stands in a square are those that are read off the trees of a plant.
use Rattle.std.proofs.Common.{◌≡◌, ◌∙◌, ap, sym, refl, subst, ℕ, zero, suc, ◌+◌, ◌-◌, ◌<◌, ◌≤◌, arith, inl, inr, List, [], ◌∷◌, ◌++◌}
use Rattle.std.{proofs.Common.{length, map, append_assoc, cond, get_or, None}, specs.Prelude.{nat_lt}}
use Rattle.std.{specs.List.{flat_map}, proofs.lemmas.List.{append-nil, Folds.{flat_map-map}}}
use Rattle.std.proofs.lemmas.Bool.{cases_Bool, cond-false, le-ltb}
use Rattle.title_land.specs.{Depth.{depth}, declared.{survey.{Township.{Township}, Section.{Section}}, rectangle.Quarter.{Quarter}}}
use Rattle.title_land.specs.declared.{rectangle.Quarter.TheVariants.{Northeast, Northwest, Southwest, Southeast}, node.Node.{Node}}
use Rattle.title_land.specs.{declared.tract.Land.{Land}, Lands.{home_of, cover_of}, CellLists.{sections_of, children_of}}
use Rattle.title_land.specs.{Laws.{CellMembers.{sections_of-in}, CoverLists.{flat_same}, LandSharing.{part_found}}}
use Rattle.title_instrument.specs.declared.parts.Estate.{Estate}
use Rattle.title_store.specs.{declared.sheet_row.SheetRow.{SheetRow}, Sheets.{rows_or}, Plants.{IsEachOnce}}
use Rattle.title_tree.specs.{Paths.{way}, Plots.{Plot, Same, Four, plot_at, uniform}}
use Rattle.title_tree_store.specs.{declared.ground.Ground.{Ground}, Spots.{index_of}, TreeSheets.{tree_sheet}}
use Rattle.title_tree_store.specs.Grounds.{nothing, stands, ground_uniform, grounds_uniform, plot_in}
use Rattle.title_tree_store.specs.SquareSheets.{IsAt, square_sheet, part_sheet, section_sheet, township_sheet, townships_sheet, plant_sheet}
use Rattle.title_tree_store.proofs.{CellPaths.{index_at}, GroundLaws.{read_at}, Standing.{square_down}}
use Rattle.title_land.specs.declared.node.Node.TheVariants as node
use Rattle.title_land.specs.declared.tract.Land.TheVariants as land

four_lists : (a b c d : List SheetRow) → a ++ b ++ c ++ d ≡ a ++ (b ++ (c ++ (d ++ [])))
four_lists a b c d = simp (append_assoc, append-nil)

-- ---- townships by their indices

pub ground_at : (gs : List Ground) (i : ℕ) (g : Ground) → i < length gs → g ≡ get_or gs i g → IsAt gs i g
ground_at gs i g l h = record {
  sections = λ j. sym (read_at (λ (x : Ground). stands x j) gs i g nothing l h);
  one = sym (read_at ground_uniform gs i g None l h);
}

-- ---- of the trees of a plant

module _ (ts : List Township) (gs : List Ground) (e : Estate) where
  -- a node's sheet that is read off them
  abbrev sheet : ℕ → Node → List SheetRow
  sheet below n = tree_sheet below ts gs e n

  -- what stands in a section
  abbrev standing : Section → Plot
  standing s = plot_in gs (index_of ts s.township) (s.number - 1)

  -- the sheets of a square's quarters, of which a cell has none
  quarter_sheets : (below : ℕ) (s : Section) (w : List Quarter) (k l m n : List SheetRow)
      → k ≡ sheet below (node.Part s (Northeast ∷ w)) → l ≡ sheet below (node.Part s (Northwest ∷ w))
      → m ≡ sheet below (node.Part s (Southwest ∷ w)) → n ≡ sheet below (node.Part s (Southeast ∷ w))
      → cond (nat_lt (length w) depth) (k ++ l ++ m ++ n) [] ≡ flat_map (sheet below) (children_of depth ts (node.Part s w))
  quarter_sheets below s w k l m n ne nw sw se = elim (cases_Bool (nat_lt (length w) depth)) [
    | inl o ↦ rw o (four_lists k l m n ∙ (λ i. ne i ++ (nw i ++ (sw i ++ (se i ++ [])))))
    | inr o ↦ rw o refl
  ]

  square_is : (m : ℕ) (x : Plot) (s : Section) (w : List Quarter) → depth ≤ m + length w → x ≡ plot_at (way w) (standing s)
      → square_sheet x e s w ≡ sheet m (node.Part s w)
  square_is zero (Same held) s w l h = λ i. rows_or (node.Part s w) e (uniform (h i)) []
  square_is (suc m) (Same held) s w l h = λ i.
      rows_or (node.Part s w) e (uniform (h i)) (flat_map (sheet m) (children_of depth ts (node.Part s w)))
  square_is zero (Four a b c d) s w l h =
      let short : depth ≤ length w = omega (arith, l) in
      ap (rows_or (node.Part s w) e (uniform (Four a b c d))) (cond-false (nat_lt (length w) depth) _ [] (le-ltb (length w) depth short))
      ∙ (λ i. rows_or (node.Part s w) e (uniform (h i)) [])
  square_is (suc m) (Four a b c d) s w l h = ap (rows_or (node.Part s w) e (uniform (Four a b c d))) (quarter_sheets m s w _ _ _ _
      (square_is m a s (Northeast ∷ w) (omega (arith, l)) (square_down w Northeast (standing s) (Four a b c d) a h refl))
      (square_is m b s (Northwest ∷ w) (omega (arith, l)) (square_down w Northwest (standing s) (Four a b c d) b h refl))
      (square_is m c s (Southwest ∷ w) (omega (arith, l)) (square_down w Southwest (standing s) (Four a b c d) c h refl))
      (square_is m d s (Southeast ∷ w) (omega (arith, l)) (square_down w Southeast (standing s) (Four a b c d) d h refl)))
      ∙ (λ i. rows_or (node.Part s w) e (uniform (h i)) (flat_map (sheet m) (children_of depth ts (node.Part s w))))

  township_is : (m : ℕ) (g : Ground) (t : Township) → depth ≤ m → IsAt gs (index_of ts t) g
      → township_sheet g e t ≡ sheet (suc m) (node.Township t)
  township_is m g t d at = λ i. rows_or (node.Township t) e (at.one i)
      ((flat_same (section_sheet g e) (λ s. sheet m (node.Part s [])) (sections_of t) (λ s j.
      square_is m (stands g (s.number - 1)) s [] (omega (arith, d)) (at.sections (s.number - 1)
      ∙ ap (λ (u : Township). plot_in gs (index_of ts u) (s.number - 1)) (sym (sections_of-in t s j))))
      ∙ sym (flat_map-map (sheet m) (λ s. node.Part s []) (sections_of t))) i)

  -- the sheets of townships of which each has its node's
  townships_are : (m : ℕ) (hs : List Ground) (us : List Township) → length hs ≡ length us
      → ((i : ℕ) (h : Ground) (u : Township) → i < length us → h ≡ get_or hs i h → u ≡ get_or us i u
      → township_sheet h e u ≡ sheet m (node.Township u))
      → townships_sheet hs e us ≡ flat_map (sheet m) (map (λ t. node.Township t) us)
  townships_are m [] [] l f = refl
  townships_are m [] (u ∷ us) l f = absurd (omega (arith, l))
  townships_are m (h ∷ hs) [] l f = absurd (omega (arith, l))
  townships_are m (h ∷ hs) (u ∷ us) l f = λ i. f 0 h u (omega arith) refl refl i
      ++ townships_are m hs us (omega (arith, l)) (λ j g t k. f (suc j) g t (omega (arith, k))) i

  -- ---- the sheets of a cover's nodes, which are the plant, a township, or squares of one section

  alone : (n : Node) → sheet (suc (suc depth)) n ≡ sheet (depth + 2) n ++ []
  alone n = let more : suc (suc depth) ≡ depth + 2 = omega arith in ap (λ (m : ℕ). sheet m n) more ∙ sym (append-nil (sheet (depth + 2) n))

  pub plant_cover : (x : Land) → home_of x ≡ node.Everything → IsEachOnce ts → length gs ≡ length ts
      → plant_sheet gs e ts ≡ flat_map (sheet (depth + 2)) (cover_of depth x)
  unfolding cover_of
  plant_cover land.Everything h once l = ap (rows_or node.Everything e (grounds_uniform gs)) (townships_are (suc depth) gs ts l
      (λ i g t k a b. township_is depth g t (omega arith) (subst (λ (n : ℕ). IsAt gs n g) (sym (index_at ts i t once k b))
      (ground_at gs i g (omega (arith, k, l)) a))))
      ∙ alone node.Everything
  plant_cover (land.Township t) h once l = absurd cc
  plant_cover (land.Part s g) h once l = absurd cc

  pub township_cover : (x : Land) (t : Township) (g : Ground) → home_of x ≡ node.Township t → IsAt gs (index_of ts t) g
      → township_sheet g e t ≡ flat_map (sheet (depth + 2)) (cover_of depth x)
  unfolding cover_of
  township_cover land.Everything t g h at = absurd cc
  township_cover (land.Township u) t g h at =
      township_is (suc depth) g t (omega arith) at ∙ alone (node.Township t) ∙ ap (λ (n : Node). sheet (depth + 2) n ++ []) (sym h)
  township_cover (land.Part s d) t g h at = absurd cc

  pub parts_cover : (x : Land) (s : Section) (w : List Quarter) (y : Plot) → home_of x ≡ node.Part s w → y ≡ standing s
      → flat_map (part_sheet y e) (cover_of depth x) ≡ flat_map (sheet (depth + 2)) (cover_of depth x)
  unfolding cover_of
  parts_cover land.Everything s w y h k = absurd cc
  parts_cover (land.Township u) s w y h k = absurd cc
  parts_cover (land.Part r d) s w y h k =
      let same : s ≡ r = cc in
      flat_same (part_sheet y e) (sheet (depth + 2)) (cover_of depth (land.Part r d)) (λ n i. let p = part_found depth r d n i in
      subst (λ (m : Node). part_sheet y e m ≡ sheet (depth + 2) m) (sym p.node_is) (square_is (depth + 2) (plot_at (way p.quarters) y)
      r p.quarters (omega arith) (ap (plot_at (way p.quarters)) (k ∙ ap (λ (u : Section). standing u) same))))
