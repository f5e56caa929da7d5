-- What is spelled is read back.
use Rattle.std.proofs.Common.{◌≡◌, ◌∙◌, ℕ, ◌&&◌, Bool, true, false, List, [], ◌∷◌, length, refl, sym, ap, subst, inl, inr, Option, Some}
use Rattle.std.{proofs.{Common.{None}, lemmas.Slice.Eq.{bytes_eq-Decides}}, specs.{Prelude.{nat_le, Result, Ok, Err}, Str.{bytes_eq}}}
use Rattle.std.proofs.lemmas.Bool.{and_parts, and_from, cases_Bool, cond-true, cond-false}
use Rattle.title_land.specs.{declared.{grid.Grid.{Grid}, node.Node.{Node}, survey.Section.{Section}, tract.Land.{Land}}, Depth.{depth}}
use Rattle.title_land.specs.{Grids.{has_some, IsGrid}, Lands.{cover_of, land_of, IsLand}, Survey.{same_flag, same_section}}
use Rattle.title_land.specs.{Texts.{node_text}, Laws.{LandSharing.{equal_tests}, NodeLands.{is_grid-grid_of}, SameLand.{same_section-is}}}
use Rattle.title_land.specs.declared.node.Node.TheVariants as node
use Rattle.title_land.specs.declared.tract.Land.TheVariants as land
use Rattle.title_aliquot.specs.{declared.fault.DescFault.{DescFault}, TextLaws.{ReadsBack}}
use Rattle.title_plan.specs.Lands.{land_in, LandsAreRead}
use Rattle.title_spelling.specs.{Cells.{cells_in, if_spelled, marked_in, spelled_cells}, Lands.{union_or_cells, union_text}}
use Rattle.title_spelling.specs.Lands.{is_part, kept_land_in, kept_or, longest_union, part_spelling, same_cells, same_row}
use Rattle.title_spelling.specs.Laws.{CellsAreNoDescription, CellsAreRead, CellsArePartsAlone, DescriptionsStay, SpellingsReadBack}
use Rattle.title_spelling.proofs.{CellsRead.{cells_read, cells_unsaid, node_read}, SoleNodes.{sole_in_tree, sole_node}}

-- ---- equal sets

same_flag-is : (a b : Bool) → same_flag a b ≡ true → a ≡ b
same_flag-is true true h = refl
same_flag-is true false h = absurd cc
same_flag-is false true h = absurd cc
same_flag-is false false h = refl

same_flag-self : (a : Bool) → same_flag a a ≡ true
same_flag-self true = refl
same_flag-self false = refl

same_row-is : (row other : List Bool) → same_row row other ≡ true → row ≡ other
same_row-is [] [] h = refl
same_row-is [] (d ∷ other) h = absurd cc
same_row-is (c ∷ row) [] h = absurd cc
same_row-is (c ∷ row) (d ∷ other) h =
    let k = and_parts (same_flag c d) (same_row row other) h in
    rw (same_flag-is c d k.0, same_row-is row other k.1) refl

same_row-self : (row : List Bool) → same_row row row ≡ true
same_row-self [] = refl
same_row-self (c ∷ row) = and_from (same_flag c c) (same_row row row) (same_flag-self c) (same_row-self row)

same_cells-is : (g h : Grid) → same_cells g h ≡ true → g ≡ h
same_cells-is [] [] e = refl
same_cells-is [] (d ∷ h) e = absurd cc
same_cells-is (c ∷ g) [] e = absurd cc
same_cells-is (c ∷ g) (d ∷ h) e =
    let k = and_parts (same_row c d) (same_cells g h) e in
    rw (same_row-is c d k.0, same_cells-is g h k.1) refl

same_cells-self : (g : Grid) → same_cells g g ≡ true
same_cells-self [] = refl
same_cells-self (c ∷ g) = and_from (same_row c c) (same_cells g g) (same_row-self c) (same_cells-self g)

-- a test that holds exactly for equal sets
pub tells_same : (b : Bool) (g h : Grid) → (b ≡ true → g ≡ h) → (g ≡ h → b ≡ true) → b ≡ same_cells g h
tells_same b g h to from =
    equal_tests b (same_cells g h) (λ e. subst (λ (k : Grid). same_cells g k ≡ true) (to e) (same_cells-self g))
    (λ e. from (same_cells-is g h e))

-- what passes for a part is the part
part_is : (s : Section) (g : Grid) (said : Result Land DescFault) → is_part s g said ≡ true → said ≡ Ok (land.Part s g)
part_is s g (Ok land.Everything) h = absurd cc
part_is s g (Ok (land.Township t)) h = absurd cc
part_is s g (Ok (land.Part u k)) h =
    let p = and_parts (same_section s u) (same_cells g k) h in
    rw (same_section-is s u p.0, same_cells-is g k p.1) refl
part_is s g (Err f) h = absurd cc

-- ---- texts in the cells form

-- what a text is read as in the cells form
pub record Form (text : List ℕ) (l : Land) : Type 0 where
  pub section : Section
  pub cells : Grid
  pub land_is : l ≡ land.Part section cells
  pub sized : IsGrid depth cells
  pub some : has_some cells ≡ true
  pub text_is : text ≡ spelled_cells section cells

same_land : (l m : Land) → Some m ≡ Some l → l ≡ m
same_land l m e = cc

form_by : (text : List ℕ) (s : Option Section) (g : Grid) (l : Land) → IsGrid depth g → if_spelled text s g ≡ Some l → Form text l
form_by text None g l sized e = absurd cc
form_by text (Some s) g l sized e = elim (cases_Bool (has_some g && bytes_eq text (spelled_cells s g))) [
  | inl h ↦
      let parts = and_parts (has_some g) (bytes_eq text (spelled_cells s g)) h in
      record {
        section = s;
        cells = g;
        land_is = same_land l (land.Part s g)
            (sym (cond-true (has_some g && bytes_eq text (spelled_cells s g)) (Some (land.Part s g)) None h) ∙ e);
        sized = sized;
        some = parts.0;
        text_is = (bytes_eq-Decides text (spelled_cells s g)).0 parts.1;
      }
  | inr h ↦ let none = sym (cond-false (has_some g && bytes_eq text (spelled_cells s g)) (Some (land.Part s g)) None h) ∙ e in absurd cc
]

pub form_of : (text : List ℕ) (l : Land) → cells_in text ≡ Some l → Form text l
unfolding cells_in
form_of text l e = form_by text _ (marked_in text) l (is_grid-grid_of depth _) e

-- a text is the cells form of a part
pub record IsCellsForm (text : List ℕ) : Type 0 where
  pub section : Section
  pub cells : Grid
  pub text_is : text ≡ spelled_cells section cells

cells_form : (text : List ℕ) (l : Land) → cells_in text ≡ Some l → IsCellsForm text
cells_form text l e = let form = form_of text l e in record { section = form.section; cells = form.cells; text_is = form.text_is }

-- it is read as a part of a section alone
pub parts_alone : CellsArePartsAlone
parts_alone text l e = let form = form_of text l e in (form.section, form.cells, form.land_is)

part_parts : (s u : Section) (g h : Grid) → land.Part s g ≡ land.Part u h → (s ≡ u) × (g ≡ h)
part_parts s u g h e = (cc, cc)

abbrev Facts : List ℕ → Section → Grid → Type 0
Facts text s g = IsGrid depth g × (has_some g ≡ true) × (text ≡ spelled_cells s g)

of_same : (text : List ℕ) (s u : Section) (g h : Grid) → s ≡ u → g ≡ h → Facts text u h → Facts text s g
of_same text s u g h a b f = rw (a, b) f

read_form : (text : List ℕ) (s : Section) (g : Grid) → cells_in text ≡ Some (land.Part s g) → Facts text s g
read_form text s g e =
    let form = form_of text (land.Part s g) e in
    let same = part_parts s form.section g form.cells form.land_is in
    of_same text s form.section g form.cells same.0 same.1 (form.sized, form.some, form.text_is)

none_by : (found : Option Land) → ((l : Land) → found ≡ Some l → ⊥) → None ≡ found
none_by None f = refl
none_by (Some l) f = absurd (f l refl)

-- a text that is not in the cells form
pub no_form : (text : List ℕ) → (IsCellsForm text → ⊥) → None ≡ cells_in text
no_form text f = none_by (cells_in text) (λ l e. f (cells_form text l e))

module _ (back : ReadsBack depth) (read : LandsAreRead) where
  -- a text is read in the cells form exactly where it is that of a part
  pub cells_exact : CellsAreRead
  cells_exact text s g = (read_form text s g, λ h. rw h.2 (cells_read back read s g h.0 h.1))

  -- a text that describes a land says the same
  pub descriptions_stay : DescriptionsStay
  descriptions_stay text l e =
      let none = no_form text (λ form. cells_unsaid back read form.section form.cells l (rw form.text_is at e)) in
      ap (λ (found : Option Land). kept_or found (land_in text)) (sym none) ∙ e

  fault_by : (said : Result Land DescFault) → ((l : Land) → said ≡ Ok l → ⊥) → (f : DescFault) × (said ≡ Err f)
  fault_by (Ok l) h = absurd (h l refl)
  fault_by (Err f) h = (f, refl)

  -- the cells form describes no land
  pub cells_no_description : CellsAreNoDescription
  cells_no_description s g = fault_by (land_in (spelled_cells s g)) (cells_unsaid back read s g)

  node_back : (l : Land) (n : Node) → IsLand depth l → cover_of depth l ≡ n ∷ [] → kept_land_in (node_text n) ≡ Ok l
  node_back l n sized e =
      descriptions_stay (node_text n) (land_of depth n) (node_read back read n (sole_in_tree l n e))
      ∙ ap (λ (m : Land). Ok m) (sym (sole_node l n sized e))

  cells_back : (s : Section) (g : Grid) → IsGrid depth g → has_some g ≡ true → kept_land_in (spelled_cells s g) ≡ Ok (land.Part s g)
  cells_back s g sized some =
      ap (λ (found : Option Land). kept_or found (land_in (spelled_cells s g))) (cells_read back read s g sized some)

  union_back : (s : Section) (g : Grid) (union : List ℕ) → IsGrid depth g → has_some g ≡ true
      → kept_land_in (union_or_cells s g union) ≡ Ok (land.Part s g)
  union_back s g union sized some =
      elim (cases_Bool (nat_le (length union) longest_union && is_part s g (kept_land_in union))) [
        | inl h ↦
            ap kept_land_in (cond-true _ union (spelled_cells s g) h)
            ∙ part_is s g (kept_land_in union) (and_parts (nat_le (length union) longest_union) (is_part s g (kept_land_in union)) h).1
        | inr h ↦ ap kept_land_in (cond-false _ union (spelled_cells s g) h) ∙ cells_back s g sized some
      ]

  part_back : (s : Section) (g : Grid) (nodes : List Node) → IsGrid depth g → has_some g ≡ true → cover_of depth (land.Part s g) ≡ nodes
      → kept_land_in (part_spelling s g nodes) ≡ Ok (land.Part s g)
  part_back s g [] sized some e = union_back s g (union_text s []) sized some
  part_back s g (n ∷ []) sized some e = node_back (land.Part s g) n sized e
  part_back s g (n ∷ m ∷ nodes) sized some e = union_back s g (union_text s (n ∷ m ∷ nodes)) sized some

  -- what is spelled is read back
  pub spellings_back : SpellingsReadBack
  unfolding cover_of
  spellings_back land.Everything sized some = node_back land.Everything node.Everything sized refl
  spellings_back (land.Township t) sized some = node_back (land.Township t) (node.Township t) sized refl
  spellings_back (land.Part s g) sized some = part_back s g (cover_of depth (land.Part s g)) sized some refl
