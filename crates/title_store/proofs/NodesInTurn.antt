-- The nodes right below a node come in the order of their cells.
use Rattle.std.proofs.Common.{◌≡◌, ℕ, zero, suc, ◌+◌, ◌<◌, Bool, true, false, not, ◌&&◌, ◌||◌, inl, inr, List, [], ◌∷◌, ◌++◌}
use Rattle.std.{proofs.Common.{length, refl, sym, ap, subst, ◌∙◌, arith}, specs.Prelude.{reverse, nat_le, nat_lt}}
use Rattle.std.{specs.List.{list_any}, proofs.lemmas.List.{reverse-append, length-reverse}}
use Rattle.std.proofs.lemmas.Bool.{and_from, and_parts, or_left, or_right, cases_Bool, both_ways, ltb-true}
use Rattle.title_land.specs.declared.{survey.{Township.{Township}, Section.{Section}, Cell.{Cell}}, rectangle.Quarter.{Quarter}}
use Rattle.title_land.specs.declared.{rectangle.Quarter.TheVariants.{Northeast, Northwest, Southwest}, node.Node.{Node}}
use Rattle.title_land.specs.{declared.node.Within.{Within}, Survey.{is_on_grid, same_township, same_section}, Lands.{is_plant_cell}}
use Rattle.title_land.specs.{Rectangles.{holds}, Nodes.{square, quarters, node_has}, CoverSets.{quarter_before, path_before}}
use Rattle.title_land.specs.CellLists.{section_if, sections_from, sections_of, section_cells, township_cells, plant_cells, children_of}
use Rattle.title_land.specs.{CellOrder.{is_met_before}, Laws.{Squares.{inside, quarters_apart}, Members.{In, any_from, any_found}}}
use Rattle.title_land.specs.Laws.SameLand.{same_township-is, same_township-self, same_section-is, same_section-self}
use Rattle.title_land.specs.Laws.{CoverOrder.{branch_before}, CellMembers.{township_cells-has, township_cells-in}}
use Rattle.title_land.specs.Laws.CellMembers.{section_if-in, sections_from-in, sections_of-in, section_cells-has, section_cells-in}
use Rattle.title_land.specs.Laws.{MetBefore.{Met, not_from, flat_before, flat_at}, CellsInOrder.{met_section, met_plant}}
use Rattle.title_land.specs.declared.node.Node.TheVariants as node
use Rattle.title_land.specs.Laws.NodeLands.{quarter_after}
use Rattle.title_store.{specs.Plants.{IsEachOnce}, proofs.Turns.{Pairs, pairs_append, pairs_map, pairs_more}}

-- the plant's cells in the first node are listed before those in the second
abbrev pub Before : ℕ → List Township → Node → Node → Type 0
Before d ts a b = (c e : Cell) → node_has d a c ≡ true → node_has d b e ≡ true → is_plant_cell d ts c ≡ true
    → is_plant_cell d ts e ≡ true → Met (plant_cells d ts) c e

on_grid : (d : ℕ) (ts : List Township) (c : Cell) → is_plant_cell d ts c ≡ true → is_on_grid d c ≡ true
on_grid d ts c h = (and_parts (is_on_grid d c) (list_any (same_township c.section.township) ts) h).0

-- ---- townships

townships_met : (ts : List Township) → IsEachOnce ts → Pairs (λ t u. is_met_before same_township ts t u ≡ true) ts
townships_met [] once = tt
townships_met (z ∷ ts) once =
    let apart = λ (u : Township) (i : In u ts). not_from (same_township u z) (λ same.
    both_ways (list_any (same_township z) ts) once.0 (any_from (same_township z) ts u i
    (subst (λ (v : Township). same_township z v ≡ true) (sym (same_township-is u z same)) (same_township-self z)))) in (
      λ u i. and_from (not (same_township u z)) (same_township z z || is_met_before same_township ts z u) (apart u i)
          (or_left (same_township z z) (is_met_before same_township ts z u) (same_township-self z)),
      pairs_more (λ t u. is_met_before same_township ts t u ≡ true) (λ t u. is_met_before same_township (z ∷ ts) t u ≡ true) ts
          (townships_met ts once.1)
          (λ t u i j m. and_from (not (same_township u z)) (same_township t z || is_met_before same_township ts t u) (apart u j)
          (or_right (same_township t z) (is_met_before same_township ts t u) m)),
    )

township_before : (d : ℕ) (ts : List Township) (t u : Township) → is_met_before same_township ts t u ≡ true
    → Before d ts (node.Township t) (node.Township u)
unfolding plant_cells
township_before d ts t u m c e h k on under =
    let first = same_township-is t c.section.township h in
    let second = same_township-is u e.section.township k in
    flat_before same_township (township_cells d) ts t u c e m
    (λ z f. subst (λ (v : Township). In c (township_cells d v)) (sym first ∙ same_township-is t z f)
    (township_cells-has d c (on_grid d ts c on)))
    (λ z f i. both_ways (same_township u z) f (subst (λ (v : Township). same_township u v ≡ true)
    (second ∙ (township_cells-in d z e i).0) (same_township-self u)))

-- ---- sections

one_section : (t : Township) (n : ℕ) (b : Bool) (e : (nat_le 1 n && nat_le n 36) ≡ b)
    → Pairs (λ s u. s.number < u.number) (section_if t n b e)
unfolding section_if
one_section t n true e = (λ y i. absurd i, tt)
one_section t n false e = tt

sections_ascend : (t : Township) (n count : ℕ) → Pairs (λ s u. s.number < u.number) (sections_from t n count)
sections_ascend t n zero = tt
sections_ascend t n (suc count) =
    pairs_append (λ s u. s.number < u.number) (section_if t n (nat_le 1 n && nat_le n 36) refl) (sections_from t (n + 1) count)
    (one_section t n (nat_le 1 n && nat_le n 36) refl) (sections_ascend t (n + 1) count)
    (λ x y i j. let a = (section_if-in t n (nat_le 1 n && nat_le n 36) refl x i).1 in
    let b = (sections_from-in t (n + 1) count y j).1 in omega (arith, a, b))

section_met : (xs : List Section) (a b : Section) → Pairs (λ s u. s.number < u.number) xs → In a xs → In b xs → a.number < b.number
    → is_met_before same_section xs a b ≡ true
section_met [] a b p i j l = absurd i
section_met (z ∷ xs) a b p i j l =
    let apart = not_from (same_section b z) (λ same.
    let n : b.number ≡ z.number = ap (λ (s : Section). s.number) (same_section-is b z same) in
    elim i [
      | inl e ↦ let m : a.number ≡ z.number = ap (λ (s : Section). s.number) e in absurd (omega (arith, l, m, n))
      | inr k ↦ let m : z.number < a.number = p.0 a k in absurd (omega (arith, l, m, n))
    ]) in
    and_from (not (same_section b z)) (same_section a z || is_met_before same_section xs a b) apart
    (elim i [
      | inl e ↦ or_left (same_section a z) (is_met_before same_section xs a b)
          (subst (λ (s : Section). same_section a s ≡ true) e (same_section-self a))
      | inr k ↦ or_right (same_section a z) (is_met_before same_section xs a b) (elim j [
        | inl f ↦
            let n : b.number ≡ z.number = ap (λ (s : Section). s.number) f in
            let m : z.number < a.number = p.0 a k in absurd (omega (arith, l, m, n))
        | inr o ↦ section_met xs a b p.1 k o l
      ])
    ])

section_before : (d : ℕ) (ts : List Township) (t : Township) (s u : Section) → In s (sections_of t) → In u (sections_of t)
    → s.number < u.number → Before d ts (node.Part s []) (node.Part u [])
unfolding sections_of plant_cells
section_before d ts t s u i j l c e h k on under =
    let first = same_section-is s c.section (and_parts (same_section s c.section) (holds (square d []) c.row c.column) h).0 in
    let second = same_section-is u e.section (and_parts (same_section u e.section) (holds (square d []) e.row e.column) k).0 in
    let at : t ≡ c.section.township = sym (sections_of-in t s i) ∙ ap (λ (x : Section). x.township) first in
    let met = flat_before same_section (section_cells d) (sections_of t) s u c e
    (section_met (sections_of t) s u (sections_ascend t 1 36) i j l)
    (λ z f. subst (λ (v : Section). In c (section_cells d v)) (sym first ∙ same_section-is s z f)
    (section_cells-has d c (on_grid d ts c on)))
    (λ z f g. both_ways (same_section u z) f (subst (λ (v : Section). same_section u v ≡ true)
    (second ∙ (section_cells-in d z e g).0) (same_section-self u))) in
    let found = any_found (same_township c.section.township) ts
    (and_parts (is_on_grid d c) (list_any (same_township c.section.township) ts) on).1 in
    let listed : In t ts = subst (λ (x : Township). In x ts) (sym (at ∙ same_township-is c.section.township found.0 found.2)) found.1 in
    flat_at (township_cells d) ts t c e listed
    (λ z g. sym (township_cells-in d z e g).0 ∙ ap (λ (x : Section). x.township) (sym second) ∙ sections_of-in t u j) met

-- ---- quarters

quarters_in_turn : Pairs (λ a b. quarter_before a b ≡ true) quarters
quarters_in_turn = (
  λ y i. elim i [
    | inl e ↦ ap (quarter_before Northeast) e
    | inr j ↦ elim j [
      | inl e ↦ ap (quarter_before Northeast) e
      | inr k ↦ elim k [ inl e ↦ ap (quarter_before Northeast) e | inr z ↦ absurd z ]
    ]
  ],
  (
    λ y i. elim i [
      | inl e ↦ ap (quarter_before Northwest) e
      | inr k ↦ elim k [ inl e ↦ ap (quarter_before Northwest) e | inr z ↦ absurd z ]
    ],
    (λ y i. elim i [ inl e ↦ ap (quarter_before Southwest) e | inr z ↦ absurd z ], (λ y i. absurd i, tt)),
  ),
)

quarter_comes : (d : ℕ) (ts : List Township) (s : Section) (w : Within) (a b : Quarter) → length w < d → quarter_before a b ≡ true
    → Before d ts (node.Part s (a ∷ w)) (node.Part s (b ∷ w))
quarter_comes d ts s w a b l q c e h k on under =
    let first = and_parts (same_section s c.section) (holds (square d (a ∷ w)) c.row c.column) h in
    let second = and_parts (same_section s e.section) (holds (square d (b ∷ w)) e.row e.column) k in
    let i = inside (square d (a ∷ w)) c.row c.column first.1 in
    let j = inside (square d (b ∷ w)) e.row e.column second.1 in
    let same : e.section ≡ c.section = sym (same_section-is s e.section second.0) ∙ same_section-is s c.section first.0 in
    let long : length (reverse (a ∷ w)) ≡ length (a ∷ w) = length-reverse (a ∷ w) in
    let order = ap (λ (z : List Quarter). path_before z (reverse (b ∷ w))) (reverse-append (a ∷ []) w)
    ∙ ap (λ (z : List Quarter). path_before (reverse w ++ a ∷ []) z) (reverse-append (b ∷ []) w)
    ∙ branch_before (reverse w) [] [] a b q in
    met_plant d ts c e same on (met_section d (a ∷ w) (b ∷ w) c e (omega (arith, l, long)) order i j
    (λ z. let one = quarters_apart a b (square d w) e.row e.column z j in
    both_ways (quarter_before a a) (quarter_after a) (subst (λ (x : Quarter). quarter_before a x ≡ true) (sym one) q)))

-- the nodes right below a node come in the order of their cells
pub children_in_turn : (d : ℕ) (ts : List Township) (n : Node) → IsEachOnce ts → Pairs (Before d ts) (children_of d ts n)
unfolding sections_of
children_in_turn d ts node.Everything once =
    pairs_map (λ t u. is_met_before same_township ts t u ≡ true) (Before d ts) (λ t. node.Township t) ts (townships_met ts once)
    (λ t u i j m. township_before d ts t u m)
children_in_turn d ts (node.Township t) once =
    pairs_map (λ s u. s.number < u.number) (Before d ts) (λ s. node.Part s []) (sections_of t) (sections_ascend t 1 36)
    (λ s u i j m. section_before d ts t s u i j m)
children_in_turn d ts (node.Part s w) once = elim (cases_Bool (nat_lt (length w) d)) [
  | inl y ↦ rw y (pairs_map (λ a b. quarter_before a b ≡ true) (Before d ts) (λ q. node.Part s (q ∷ w)) quarters quarters_in_turn
      (λ a b i j m. quarter_comes d ts s w a b (ltb-true (length w) d y) m))
  | inr y ↦ rw y tt
]
