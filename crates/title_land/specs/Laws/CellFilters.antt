-- What a land keeps of a township's cells.
use Rattle.std.proofs.Common.{◌≡◌, ℕ, zero, suc, ◌+◌, ◌<◌, ◌≤◌, Bool, true, false, ◌&&◌, inl, inr, List, [], ◌∷◌, ◌++◌, length}
use Rattle.std.{proofs.Common.{get_or, take, refl, sym, ap, subst, ◌∙◌, arith}, specs.{Prelude.{nat_le}, List.{flat_map, filter}}}
use Rattle.std.proofs.lemmas.{Bool.{and_parts, false_from_ne_true, both_ways, cases_eq}, List.Elements.{filter-append}}
use Rattle.std.proofs.lemmas.{List.{append-nil, take_more, take_all, flat_map_more}, Grind.{flat_map-append}}
use Rattle.title_land.specs.{Depth.{depth}, declared.{survey.{Township.{Township}, Section.{Section}, Cell.{Cell}}, grid.Grid.{Grid}}}
use Rattle.title_land.specs.{declared.tract.Land.{Land}, Survey.{same_township, same_section, IsSection, IsSectionNumber}, Grids.{grid_has}}
use Rattle.title_land.specs.{Lands.{has}, Laws.SameLand.{same_township-is, same_township-self, same_section-is}}
use Rattle.title_land.specs.CellLists.{section_if, sections_from, sections_of, section_cells, township_cells, plant_cells, cells_of}
use Rattle.title_land.specs.Laws.{Members.{in_flat_mapped, filter_none}, CellMembers.{township_cells-in}}
use Rattle.title_land.specs.Laws.CellMembers.{section_if-is, section_if-none, section_if-in, sections_from-in, section_cells-in}
use Rattle.title_land.specs.declared.tract.Land.TheVariants as land

-- the cells of the sections from a number on: those of that number, then the rest
pub cells_from : (d : ℕ) (p : Cell → Bool) (t : Township) (n count : ℕ)
    → filter p (flat_map (section_cells d) (sections_from t n (suc count)))
    ≡ filter p (flat_map (section_cells d) (section_if t n (nat_le 1 n && nat_le n 36) refl))
    ++ filter p (flat_map (section_cells d) (sections_from t (n + 1) count))
cells_from d p t n count =
    ap (filter p) (flat_map-append (section_cells d) (section_if t n (nat_le 1 n && nat_le n 36) refl) (sections_from t (n + 1) count))
    ∙ filter-append p (flat_map (section_cells d) (section_if t n (nat_le 1 n && nat_le n 36) refl))
    (flat_map (section_cells d) (sections_from t (n + 1) count))

-- the cells of the section of a number
pub cells_of_number : (d : ℕ) (p : Cell → Bool) (t : Township) (n : ℕ) (s : Section) → IsSection t n s
    → filter p (flat_map (section_cells d) (section_if t n (nat_le 1 n && nat_le n 36) refl)) ≡ filter p (section_cells d s)
cells_of_number d p t n s k =
    ap (λ (ss : List Section). filter p (flat_map (section_cells d) ss)) (section_if-is t n (nat_le 1 n && nat_le n 36) refl s k)
    ∙ ap (filter p) (append-nil (section_cells d s))

pub cells_of_no_number : (d : ℕ) (p : Cell → Bool) (t : Township) (n : ℕ) → ¬ (IsSectionNumber n)
    → filter p (flat_map (section_cells d) (section_if t n (nat_le 1 n && nat_le n 36) refl)) ≡ []
cells_of_no_number d p t n f =
    ap (λ (ss : List Section). filter p (flat_map (section_cells d) ss)) (section_if-none t n (nat_le 1 n && nat_le n 36) refl f)

-- no cell of a section passes a test that another section's cells alone pass
cells_elsewhere : (d : ℕ) (p : Cell → Bool) (s u : Section) → ((c : Cell) → p c ≡ true → c.section ≡ s) → (u ≡ s → ⊥)
    → filter p (section_cells d u) ≡ []
cells_elsewhere d p s u f g =
    filter_none p (section_cells d u) (λ c i. false_from_ne_true (p c) (λ h. g (sym (section_cells-in d u c i).0 ∙ f c h)))

cells_later : (d : ℕ) (p : Cell → Bool) (s : Section) (t : Township) (n count : ℕ) → ((c : Cell) → p c ≡ true → c.section ≡ s)
    → s.number < n → filter p (flat_map (section_cells d) (sections_from t n count)) ≡ []
cells_later d p s t n count f l =
    filter_none p (flat_map (section_cells d) (sections_from t n count)) (λ c i.
    let k = in_flat_mapped (section_cells d) (sections_from t n count) c i in
    let m = sections_from-in t n count k.0 k.1 in
    let e = (section_cells-in d k.0 c k.2).0 in
    false_from_ne_true (p c) (λ h.
    let g : k.0.number ≡ s.number = ap (λ (u : Section). u.number) (sym e ∙ f c h) in
    omega (arith, m.1)))

cells_earlier : (d : ℕ) (p : Cell → Bool) (s : Section) (t : Township) (n : ℕ) → ((c : Cell) → p c ≡ true → c.section ≡ s)
    → (s.number ≡ n → ⊥) → filter p (flat_map (section_cells d) (section_if t n (nat_le 1 n && nat_le n 36) refl)) ≡ []
cells_earlier d p s t n f g =
    filter_none p (flat_map (section_cells d) (section_if t n (nat_le 1 n && nat_le n 36) refl)) (λ c i.
    let k = in_flat_mapped (section_cells d) (section_if t n (nat_le 1 n && nat_le n 36) refl) c i in
    let m = section_if-in t n (nat_le 1 n && nat_le n 36) refl k.0 k.1 in
    let e = (section_cells-in d k.0 c k.2).0 in
    false_from_ne_true (p c) (λ h. g (ap (λ (u : Section). u.number) (sym (f c h) ∙ e) ∙ m.1)))

-- where a test passes one section's cells alone, the sections from a number on have those
cells_of_one : (d : ℕ) (p : Cell → Bool) (s : Section) (t : Township) (n count : ℕ) → ((c : Cell) → p c ≡ true → c.section ≡ s)
    → s.township ≡ t → n ≤ s.number → s.number < n + count
    → filter p (flat_map (section_cells d) (sections_from t n count)) ≡ filter p (section_cells d s)
cells_of_one d p s t n zero f e l m = absurd (omega arith)
cells_of_one d p s t n (suc count) f e l m = elim (cases_eq s.number n) [
  | inl g ↦
      let later : s.number < n + 1 = omega (arith, g) in
      let rest = cells_later d p s t (n + 1) count f later in
      cells_from d p t n count
      ∙ ap (λ (cs : List Cell). cs ++ filter p (flat_map (section_cells d) (sections_from t (n + 1) count)))
      (cells_of_number d p t n s record { township_is = e; number_is = g })
      ∙ ap (λ (cs : List Cell). filter p (section_cells d s) ++ cs) rest
      ∙ append-nil (filter p (section_cells d s))
  | inr g ↦
      let above : n + 1 ≤ s.number = omega (arith, g) in
      cells_from d p t n count
      ∙ ap (λ (cs : List Cell). cs ++ filter p (flat_map (section_cells d) (sections_from t (n + 1) count))) (cells_earlier d p s t n f g)
      ∙ cells_of_one d p s t (n + 1) count f e above (omega arith)
]

of_section : (s : Section) (g : Grid) (c : Cell) → has (land.Part s g) c ≡ true → c.section ≡ s
unfolding has
of_section s g c h = sym (same_section-is s c.section (and_parts (same_section s c.section) (grid_has g c.row c.column) h).0)

of_township : (t : Township) (c : Cell) → has (land.Township t) c ≡ true → c.section.township ≡ t
unfolding has
of_township t c h = sym (same_township-is t c.section.township h)

-- of a township's cells a part keeps those of its section, if that lies in the township
pub part_in_township : (d : ℕ) (s : Section) (g : Grid) (t : Township) → same_township s.township t ≡ true
    → filter (has (land.Part s g)) (township_cells d t) ≡ filter (has (land.Part s g)) (section_cells d s)
unfolding sections_of
part_in_township d s g t e =
    let l = s.numbered.0 in
    let m = s.numbered.1 in
    cells_of_one d (has (land.Part s g)) s t 1 36 (of_section s g) (same_township-is s.township t e) l (omega arith)

apart : (t u : Township) → same_township t u ≡ false → t ≡ u → ⊥
apart t u e f = both_ways (same_township t u) e (subst (λ (x : Township). same_township t x ≡ true) f (same_township-self t))

-- and none where the section lies elsewhere
pub part_elsewhere : (d : ℕ) (s : Section) (g : Grid) (t : Township) → same_township s.township t ≡ false
    → filter (has (land.Part s g)) (township_cells d t) ≡ []
part_elsewhere d s g t e =
    filter_none (has (land.Part s g)) (township_cells d t) (λ c i. false_from_ne_true (has (land.Part s g) c) (λ h.
    apart s.township t e (ap (λ (u : Section). u.township) (sym (of_section s g c h)) ∙ (township_cells-in d t c i).0)))

-- of another township's cells a township keeps none
pub township_elsewhere : (d : ℕ) (t u : Township) → same_township t u ≡ false → filter (has (land.Township t)) (township_cells d u) ≡ []
township_elsewhere d t u e =
    filter_none (has (land.Township t)) (township_cells d u) (λ c i. false_from_ne_true (has (land.Township t) c) (λ h.
    apart t u e (sym (of_township t c h) ∙ (township_cells-in d u c i).0)))

-- what a land keeps of a township's cells where it is another township
pub kept_of_township : (x : Land) (t u : Township) (items : List Cell) → x ≡ land.Township t → same_township t u ≡ false
    → items ≡ items ++ filter (has x) (township_cells depth u)
kept_of_township x t u items e h =
    sym (append-nil items) ∙ ap (λ (cs : List Cell). items ++ cs) (sym (township_elsewhere depth t u h)
    ∙ ap (λ (y : Land). filter (has y) (township_cells depth u)) (sym e))

-- where it is a part of another township
pub kept_elsewhere : (x : Land) (s : Section) (g : Grid) (u : Township) (items : List Cell) → x ≡ land.Part s g
    → same_township s.township u ≡ false → items ≡ items ++ filter (has x) (township_cells depth u)
kept_elsewhere x s g u items e h =
    sym (append-nil items) ∙ ap (λ (cs : List Cell). items ++ cs) (sym (part_elsewhere depth s g u h)
    ∙ ap (λ (y : Land). filter (has y) (township_cells depth u)) (sym e))

-- where it is a part of the township
pub kept_of_part : (x : Land) (s : Section) (g : Grid) (u : Township) (items new : List Cell) → x ≡ land.Part s g
    → same_township s.township u ≡ true → new ≡ items ++ filter (has x) (section_cells depth s)
    → new ≡ items ++ filter (has x) (township_cells depth u)
kept_of_part x s g u items new e h k =
    k ∙ ap (λ (cs : List Cell). items ++ cs) (ap (λ (y : Land). filter (has y) (section_cells depth s)) e
    ∙ sym (part_in_township depth s g u h) ∙ ap (λ (y : Land). filter (has y) (township_cells depth u)) (sym e))

-- a township's cells after those of the townships before it
pub plant_step : (p : Cell → Bool) (ts : List Township) (i : ℕ) (t : Township) (items new : List Cell) → i < length ts → t ≡ get_or ts i t
    → items ≡ filter p (flat_map (township_cells depth) (take i ts)) → new ≡ items ++ filter p (township_cells depth t)
    → new ≡ filter p (flat_map (township_cells depth) (take (i + 1) ts))
plant_step p ts i t items new l e h k =
    k
    ∙ ap (λ (cs : List Cell). cs ++ filter p (township_cells depth t)) h
    ∙ sym (filter-append p (flat_map (township_cells depth) (take i ts)) (township_cells depth t))
    ∙ ap (filter p) (flat_map_more (township_cells depth) [] (take i ts) t)
    ∙ ap (λ (xs : List Township). filter p (flat_map (township_cells depth) xs))
    (sym (take_more ts i t l ∙ ap (λ (x : Township). take i ts ++ x ∷ []) (sym e)))

pub plant_all : (ts : List Township) (x : Land) (i : ℕ) (items : List Cell) → length ts ≤ i
    → items ≡ filter (has x) (flat_map (township_cells depth) (take i ts)) → items ≡ cells_of depth ts x
unfolding cells_of plant_cells
plant_all ts x i items l h = h ∙ ap (λ (xs : List Township). filter (has x) (flat_map (township_cells depth) xs)) (take_all i ts l)
