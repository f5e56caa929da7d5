-- Which cells the lists of a section's, a township's, the plant's and a land's cells have.
use Rattle.std.proofs.Common.{◌≡◌, ℕ, zero, suc, ◌+◌, ◌<◌, ◌≤◌, Bool, true, false, ◌&&◌, ◌==◌, inl, inr, List, [], ◌∷◌, length, refl, sym}
use Rattle.std.{proofs.Common.{ap, subst, ◌∙◌, arith}, specs.{Prelude.{nat_le}, List.{list_any, filter}}}
use Rattle.std.proofs.lemmas.Bool.{and_parts, and_from, both_ways, eqb-true, eq-eqb, le-leb, leb-true, cases_eq}
use Rattle.title_land.specs.declared.{survey.{Township.{Township}, Section.{Section}, Cell.{Cell}}, rectangle.Quarter.{Quarter}}
use Rattle.title_land.specs.declared.rectangle.Quarter.TheVariants.{Northeast, Northwest, Southwest, Southeast}
use Rattle.title_land.specs.{Survey.{is_on_grid, same_township, same_section, IsSection, IsSectionNumber}, Lands.{has, is_plant_cell}}
use Rattle.title_land.specs.{Nodes.{square, quarters, node_has}, CellLists.{plant_cells, cells_of, node_cells}, Laws.Members.{in_filtered}}
use Rattle.title_land.specs.CellLists.{same_cell, section_if, sections_from, sections_of, cells_below, section_cells, township_cells}
use Rattle.title_land.specs.CellLaws.{SameCellsAreEqual, PlantHasItsCells, ListHasTheCells, NodeListHasTheCells}
use Rattle.title_land.specs.Laws.SameLand.{same_township-is, same_township-self, same_section-is, same_section-self}
use Rattle.title_land.specs.Laws.{Squares.{Inside, sized, quarter_inside, has_corner}, CoverCells.{in_a_quarter}, NodeSharing.{cell_at}}
use Rattle.title_land.specs.Laws.Members.{In, any_found, any_from, in_left, in_right, in_append, in_flat_map, in_flat_mapped, in_filter}
use Rattle.title_land.specs.Laws.{LandSharing.{equal_tests, whole_section}, CoverSet.{cell_in_grid}}

-- a section by its township and number
section_parts : (s u : Section) → s.township ≡ u.township → s.number ≡ u.number → s ≡ u
section_parts s u e f = same_section-is s u (and_from (same_township s.township u.township) (s.number == u.number)
    (subst (λ (t : Township). same_township s.township t ≡ true) e (same_township-self s.township)) (eq-eqb s.number u.number f))

-- the section of a number is there, once
pub section_if-is : (t : Township) (n : ℕ) (b : Bool) (e : (nat_le 1 n && nat_le n 36) ≡ b) (s : Section) → IsSection t n s
    → section_if t n b e ≡ s ∷ []
unfolding section_if
section_if-is t n true e s k = ap (λ (u : Section). u ∷ []) (section_parts _ s (sym k.township_is) (sym k.number_is))
section_if-is t n false e s k =
    let low : 1 ≤ n = omega (arith, s.numbered.0, k.number_is) in
    let high : n ≤ 36 = omega (arith, s.numbered.1, k.number_is) in
    absurd (both_ways (nat_le 1 n && nat_le n 36) e (and_from (nat_le 1 n) (nat_le n 36) (le-leb 1 n low) (le-leb n 36 high)))

-- a number that no section has gives none
pub section_if-none : (t : Township) (n : ℕ) (b : Bool) (e : (nat_le 1 n && nat_le n 36) ≡ b) → ¬ (IsSectionNumber n)
    → section_if t n b e ≡ []
unfolding section_if
section_if-none t n true e f = let k = and_parts (nat_le 1 n) (nat_le n 36) e in absurd (f (leb-true 1 n k.0, leb-true n 36 k.1))
section_if-none t n false e f = refl

pub section_if-in : (t : Township) (n : ℕ) (b : Bool) (e : (nat_le 1 n && nat_le n 36) ≡ b) (s : Section) → In s (section_if t n b e)
    → (s.township ≡ t) × (s.number ≡ n)
unfolding section_if
section_if-in t n true e s i = elim i [
  | inl f ↦ (ap (λ (u : Section). u.township) f, ap (λ (u : Section). u.number) f)
  | inr z ↦ absurd z
]
section_if-in t n false e s i = absurd i

-- what sections the list from a number on has
pub sections_from-in : (t : Township) (n count : ℕ) (s : Section) → In s (sections_from t n count) → (s.township ≡ t) × (n ≤ s.number)
sections_from-in t n zero s i = absurd i
sections_from-in t n (suc count) s i = elim (in_append s (section_if t n (nat_le 1 n && nat_le n 36) refl) (sections_from t (n + 1) count)
    i) [
      | inl j ↦ let k = section_if-in t n (nat_le 1 n && nat_le n 36) refl s j in (k.0, omega (arith, k.1))
      | inr j ↦ let k = sections_from-in t (n + 1) count s j in (k.0, omega (arith, k.1))
    ]

in_sections_from : (t : Township) (n count : ℕ) (s : Section) → s.township ≡ t → n ≤ s.number → s.number < n + count
    → In s (sections_from t n count)
in_sections_from t n zero s e l m = absurd (omega arith)
in_sections_from t n (suc count) s e l m = elim (cases_eq s.number n) [
  | inl f ↦
      let k = section_if-is t n (nat_le 1 n && nat_le n 36) refl s record { township_is = e; number_is = f } in
      in_left s (section_if t n (nat_le 1 n && nat_le n 36) refl) (sections_from t (n + 1) count)
      (subst (λ (xs : List Section). In s xs) (sym k) (inl refl))
  | inr f ↦
      let above : n + 1 ≤ s.number = omega (arith, f) in
      in_right s (section_if t n (nat_le 1 n && nat_le n 36) refl) (sections_from t (n + 1) count)
      (in_sections_from t (n + 1) count s e above (omega arith))
]

pub sections_of-in : (t : Township) (s : Section) → In s (sections_of t) → s.township ≡ t
unfolding sections_of
sections_of-in t s i = (sections_from-in t 1 36 s i).0

pub in_sections_of : (s : Section) → In s (sections_of s.township)
unfolding sections_of
in_sections_of s = let l = s.numbered.0 in let m = s.numbered.1 in in_sections_from s.township 1 36 s refl l (omega arith)

pub in_quarters : (x : Quarter) → In x quarters
in_quarters Northeast = inl refl
in_quarters Northwest = inr (inl refl)
in_quarters Southwest = inr (inr (inl refl))
in_quarters Southeast = inr (inr (inr (inl refl)))

-- the cells of a square are in the list of the square's
pub cells_below-has : (d : ℕ) (s : Section) (levels : ℕ) (q : List Quarter) (row column : ℕ) → levels + length q ≡ d
    → Inside (square d q) row column → In (cell_at s row column) (cells_below d s levels q)
cells_below-has d s zero q row column l i =
    let z = sized d zero q l in
    let h : (square d q).height ≡ 1 = z.height_is in
    let w : (square d q).width ≡ 1 = z.width_is in
    let e : row ≡ (square d q).top = omega (arith, i.below, i.above) in
    let f : column ≡ (square d q).left = omega (arith, i.right, i.left) in
    inl (ap (λ (x : ℕ). cell_at s x column) e ∙ ap (λ (x : ℕ). cell_at s (square d q).top x) f)
cells_below-has d s (suc levels) q row column l i =
    let x = in_a_quarter d levels (square d q) row column (sized d (suc levels) q l) i in
    let m : levels + suc (length q) ≡ d = omega arith in
    in_flat_map (λ (y : Quarter). cells_below d s levels (y ∷ q)) quarters x.0 (cell_at s row column) (in_quarters x.0)
    (cells_below-has d s levels (x.0 ∷ q) row column m x.1)

-- the list of a square's cells has its section's cells within it alone
pub cells_below-in : (d : ℕ) (s : Section) (levels : ℕ) (q : List Quarter) (c : Cell) → levels + length q ≡ d
    → In c (cells_below d s levels q) → (c.section ≡ s) × Inside (square d q) c.row c.column
cells_below-in d s zero q c l i = elim i [
  | inl e ↦
      let corner = has_corner d zero q l in
      (ap (λ (x : Cell). x.section) e, subst (λ (x : Cell). Inside (square d q) x.row x.column) (sym e) corner)
  | inr z ↦ absurd z
]
cells_below-in d s (suc levels) q c l i =
    let x = in_flat_mapped (λ (y : Quarter). cells_below d s levels (y ∷ q)) quarters c i in
    let m : levels + suc (length q) ≡ d = omega arith in
    let k = cells_below-in d s levels (x.0 ∷ q) c m x.2 in
    (k.0, quarter_inside x.0 (square d q) c.row c.column k.1)

whole_depth : (d : ℕ) → d + length {A = Quarter} [] ≡ d
whole_depth d = omega arith

pub section_cells-has : (d : ℕ) (c : Cell) → is_on_grid d c ≡ true → In c (section_cells d c.section)
section_cells-has d c o = cells_below-has d c.section d [] c.row c.column (whole_depth d) (whole_section d c o)

pub section_cells-in : (d : ℕ) (s : Section) (c : Cell) → In c (section_cells d s) → (c.section ≡ s) × (is_on_grid d c ≡ true)
section_cells-in d s c i =
    let k = cells_below-in d s d [] c (whole_depth d) i in
    let none : length {A = Quarter} [] ≤ d = omega arith in
    (k.0, cell_in_grid d c.section [] c.row c.column none k.1)

pub township_cells-in : (d : ℕ) (t : Township) (c : Cell) → In c (township_cells d t) → (c.section.township ≡ t) × (is_on_grid d c ≡ true)
township_cells-in d t c i =
    let k = in_flat_mapped (section_cells d) (sections_of t) c i in
    let m = section_cells-in d k.0 c k.2 in
    (ap (λ (s : Section). s.township) m.0 ∙ sections_of-in t k.0 k.1, m.1)

pub township_cells-has : (d : ℕ) (c : Cell) → is_on_grid d c ≡ true → In c (township_cells d c.section.township)
township_cells-has d c o = in_flat_map (section_cells d) (sections_of c.section.township) c.section c (in_sections_of c.section)
    (section_cells-has d c o)

pub plant_cells-in : (d : ℕ) (ts : List Township) (c : Cell) → In c (plant_cells d ts) → is_plant_cell d ts c ≡ true
unfolding plant_cells
plant_cells-in d ts c i =
    let k = in_flat_mapped (township_cells d) ts c i in
    let m = township_cells-in d k.0 c k.2 in
    and_from (is_on_grid d c) (list_any (same_township c.section.township) ts) m.1
    (any_from (same_township c.section.township) ts k.0 k.1
    (subst (λ (t : Township). same_township c.section.township t ≡ true) m.0 (same_township-self c.section.township)))

plant_cells-has : (d : ℕ) (ts : List Township) (c : Cell) → is_plant_cell d ts c ≡ true → In c (plant_cells d ts)
unfolding plant_cells
plant_cells-has d ts c h =
    let k = and_parts (is_on_grid d c) (list_any (same_township c.section.township) ts) h in
    let t = any_found (same_township c.section.township) ts k.1 in
    let i = subst (λ (x : Township). In c (township_cells d x)) (same_township-is c.section.township t.0 t.2)
    (township_cells-has d c k.0) in
    in_flat_map (township_cells d) ts t.0 c t.1 i

same_cell-to : (a b : Cell) → same_cell a b ≡ true → a ≡ b
same_cell-to a b h =
    let column = and_parts (same_section a.section b.section && a.row == b.row) (a.column == b.column) h in
    let row = and_parts (same_section a.section b.section) (a.row == b.row) column.0 in
    rw (same_section-is a.section b.section row.0, eqb-true a.row b.row row.1, eqb-true a.column b.column column.1) refl

same_cell-self : (a : Cell) → same_cell a a ≡ true
same_cell-self a = and_from _ _ (and_from _ _ (same_section-self a.section) (eq-eqb a.row a.row refl)) (eq-eqb a.column a.column refl)

-- two cells are the same exactly where they are one value
pub same_cells_are_equal : SameCellsAreEqual
same_cells_are_equal a b = (same_cell-to a b, λ e. subst (λ (x : Cell). same_cell a x ≡ true) e (same_cell-self a))

pub listed : (cs : List Cell) (c : Cell) → list_any (same_cell c) cs ≡ true → In c cs
listed cs c h = let k = any_found (same_cell c) cs h in subst (λ (x : Cell). In x cs) (sym (same_cell-to c k.0 k.2)) k.1

pub listed_from : (cs : List Cell) (c : Cell) → In c cs → list_any (same_cell c) cs ≡ true
listed_from cs c i = any_from (same_cell c) cs c i (same_cell-self c)

pub plant_has_its_cells : (d : ℕ) → PlantHasItsCells d
plant_has_its_cells d ts c =
    equal_tests (list_any (same_cell c) (plant_cells d ts)) (is_plant_cell d ts c)
    (λ h. plant_cells-in d ts c (listed (plant_cells d ts) c h))
    (λ h. listed_from (plant_cells d ts) c (plant_cells-has d ts c h))

filtered_has : (d : ℕ) (ts : List Township) (p : Cell → Bool) (c : Cell)
    → list_any (same_cell c) (filter p (plant_cells d ts)) ≡ (p c && is_plant_cell d ts c)
filtered_has d ts p c =
    equal_tests (list_any (same_cell c) (filter p (plant_cells d ts))) (p c && is_plant_cell d ts c)
    (λ h. let k = in_filtered p (plant_cells d ts) c (listed (filter p (plant_cells d ts)) c h) in
    and_from (p c) (is_plant_cell d ts c) k.1 (plant_cells-in d ts c k.0))
    (λ h. let k = and_parts (p c) (is_plant_cell d ts c) h in
    listed_from (filter p (plant_cells d ts)) c (in_filter p (plant_cells d ts) c (plant_cells-has d ts c k.1) k.0))

pub list_has_the_cells : (d : ℕ) → ListHasTheCells d
unfolding cells_of
list_has_the_cells d ts x c = filtered_has d ts (has x) c

pub node_list_has_the_cells : (d : ℕ) → NodeListHasTheCells d
unfolding node_cells
node_list_has_the_cells d ts n c = filtered_has d ts (node_has d n) c
