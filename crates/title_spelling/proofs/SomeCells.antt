-- A land that a text says has a cell.
use Rattle.std.{proofs.Common.{◌≡◌, ◌∙◌, ℕ, ◌+◌, ◌%◌, ◌<◌, ◌≤◌, Bool, true, List, [], ◌∷◌, length, refl, sym, ap}, specs.Option.{is_some}}
use Rattle.std.{proofs.Common.{subst, arith, inl, inr, Option, Some, None}, specs.Prelude.{option_and_then, Result, Ok}}
use Rattle.std.proofs.lemmas.Bool.{and_parts, cases_Bool, eqb-true, or_left}
use Rattle.title_land.specs.declared.{survey.Township.{Township}, rectangle.Half.{Half, TheVariants.{North, South, East, West}}}
use Rattle.title_land.specs.declared.rectangle.{Quarter.TheVariants.{Northeast, Northwest, Southwest, Southeast}, Rectangle.{Rectangle}}
use Rattle.title_land.specs.{declared.{rectangle.Step.{Step}, tract.Land.{Land}}, Depth.{depth}, Grids.{grid_of, has_some}, Lands.{IsLand}}
use Rattle.title_land.specs.{Survey.{side}, Rectangles.{exists, half_of, holds, is_even, part_of, section_square, step_of, taken_of}}
use Rattle.title_land.specs.Laws.{GridLaws.{grid_has-grid_of}, GridSharing.{some_from}, Squares.{holds_from, pow_positive}}
use Rattle.title_land.specs.declared.rectangle.Step.TheVariants as step
use Rattle.title_aliquot.specs.{declared.fault.DescFault.{DescFault}, Describes.{Describes}, Grammar.{SectionText, Syntax}}
use Rattle.title_aliquot.specs.Grammar.{Description, Everything, InTownship, Parts, LandText, SectionParts, SectionSyntax}
use Rattle.title_aliquot.specs.Meaning.{parts_exist, parts_of, rectangles, section_parts, union, IsLandIn, IsLandOf}
use Rattle.title_plan.specs.Lands.{land_in, LandsAreRead}
use Rattle.title_spelling.{specs.{Cells.{cells_in}, Lands.{has_a_cell, kept_or}, Laws.{LandsHaveCells}}, proofs.CellsRead.{described_sized}}
use Rattle.title_spelling.proofs.Spelled.{form_of}

-- ---- rectangles that a part's steps leave

-- it has a cell, and lies in the section
record Real (r : Rectangle) : Type 0 where
  high : 0 < r.height
  wide : 0 < r.width
  below : r.top + r.height ≤ side depth
  left : r.left + r.width ≤ side depth

halved_high : (h : Half) (r : Rectangle) → Real r → is_even r.height ≡ true
    → (h ≡ North → Real (half_of North r)) × (h ≡ South → Real (half_of South r))
halved_high h r k e =
    let even : r.height % 2 ≡ 0 = eqb-true (r.height % 2) 0 e in
    let high = k.high in
    let wide = k.wide in
    let below = k.below in
    let left = k.left in (
      (λ _. record { high = omega arith; wide = wide; below = omega arith; left = left }),
      (λ _. record { high = omega arith; wide = wide; below = omega arith; left = left }),
    )

halved_wide : (h : Half) (r : Rectangle) → Real r → is_even r.width ≡ true
    → (h ≡ West → Real (half_of West r)) × (h ≡ East → Real (half_of East r))
halved_wide h r k e =
    let even : r.width % 2 ≡ 0 = eqb-true (r.width % 2) 0 e in
    let high = k.high in
    let wide = k.wide in
    let below = k.below in
    let left = k.left in (
      (λ _. record { high = high; wide = omega arith; below = below; left = omega arith }),
      (λ _. record { high = high; wide = omega arith; below = below; left = omega arith }),
    )

taken_real : (s : Step) (r : Rectangle) → Real r → exists s r ≡ true → Real (taken_of s r)
taken_real (step.Half North) r k e = (halved_high North r k e).0 refl
taken_real (step.Half South) r k e = (halved_high South r k e).1 refl
taken_real (step.Half West) r k e = (halved_wide West r k e).0 refl
taken_real (step.Half East) r k e = (halved_wide East r k e).1 refl
taken_real (step.Quarter Northeast) r k e =
    let both = and_parts (is_even r.height) (is_even r.width) e in
    (halved_high North (half_of East r) ((halved_wide East r k both.1).1 refl) both.0).0 refl
taken_real (step.Quarter Northwest) r k e =
    let both = and_parts (is_even r.height) (is_even r.width) e in
    (halved_high North (half_of West r) ((halved_wide West r k both.1).0 refl) both.0).0 refl
taken_real (step.Quarter Southwest) r k e =
    let both = and_parts (is_even r.height) (is_even r.width) e in
    (halved_high South (half_of West r) ((halved_wide West r k both.1).0 refl) both.0).1 refl
taken_real (step.Quarter Southeast) r k e =
    let both = and_parts (is_even r.height) (is_even r.width) e in
    (halved_high South (half_of East r) ((halved_wide East r k both.1).1 refl) both.0).1 refl

same_some : (q r : Rectangle) → Some q ≡ Some r → q ≡ r
same_some q r e = cc

step_real : (s : Step) (r q : Rectangle) → Real r → step_of s r ≡ Some q → Real q
step_real s r q k e = elim (cases_Bool (exists s r)) [
  | inl there ↦ subst Real (same_some (taken_of s r) q (rw there at e)) (taken_real s r k there)
  | inr not_there ↦ let none = rw not_there at e in absurd cc
]

part_by : (s : Step) (m : Option Rectangle) (r : Rectangle) → ((q : Rectangle) → m ≡ Some q → Real q)
    → option_and_then (step_of s) m ≡ Some r
    → Real r
part_by s None r h e = absurd cc
part_by s (Some q) r h e = step_real s q r (h q refl) e

part_real : (steps : List Step) (r : Rectangle) → part_of depth steps ≡ Some r → Real r
part_real [] r e =
    let some = pow_positive depth in
    subst Real (same_some (section_square depth) r e) (record { high = some; wide = some; below = omega arith; left = omega arith })
part_real (s ∷ steps) r e = part_by s (part_of depth steps) r (part_real steps) e

-- ---- a section with a part that exists has a cell

there_is : (m : Option Rectangle) → is_some m ≡ true → (r : Rectangle) × (m ≡ Some r)
there_is None h = absurd cc
there_is (Some r) h = (r, refl)

first_there : (p : List Step) (parts : List (List Step)) (r : Rectangle) → part_of depth p ≡ Some r
    → rectangles depth (p ∷ parts) ≡ r ∷ rectangles depth parts
first_there p parts r e = rw e refl

union_some : (parts : List (List Step)) → 0 < length parts → parts_exist depth parts ≡ true
    → has_some (grid_of depth (union (rectangles depth parts))) ≡ true
union_some [] some exist = absurd (omega arith)
union_some (p ∷ parts) some exist =
    let first = there_is (part_of depth p) (and_parts (is_some (part_of depth p)) (parts_exist depth parts) exist).0 in
    let r = first.0 in
    let real = part_real p r first.1 in
    let high = real.high in
    let wide = real.wide in
    let below = real.below in
    let left = real.left in
    let here : holds r r.top r.left ≡ true =
    holds_from r r.top r.left (record { below = omega arith; above = omega arith; right = omega arith; left = omega arith }) in
    let all = first_there p parts r first.1 in
    let has = grid_has-grid_of depth (union (r ∷ rectangles depth parts)) r.top r.left (omega arith) (omega arith) in
    ap (λ (shapes : List Rectangle). has_some (grid_of depth (union shapes))) all
    ∙ some_from (grid_of depth (union (r ∷ rectangles depth parts))) r.top r.left (has ∙ or_left (holds r r.top r.left) _ here)

-- ---- a description of a section names a part

parts_named : (ps : List (List Step)) (s : List ℕ) → Parts ps s → 0 < length ps
parts_named ps s (inl e) = subst (λ (x : List (List Step)). 0 < length x) (sym e.0) (omega arith)
parts_named ps s (inr h) = subst (λ (x : List (List Step)). 0 < length x) (sym h.4) (omega arith)

section_parts_named : (ps : List (List Step)) (s : List ℕ) → SectionParts ps s → 0 < length ps
section_parts_named ps s (inl h) = subst (λ (x : List (List Step)). 0 < length x) (sym h.4) (parts_named h.1 h.3 h.7)
section_parts_named ps s (inr e) = subst (λ (x : List (List Step)). 0 < length x) (sym e.0) (omega arith)

NamesAPart : Option SectionSyntax → Type 0
NamesAPart None = Unit {0}
NamesAPart (Some x) = 0 < length x.parts

section_named : (o : Option SectionSyntax) (s : List ℕ) → SectionText o s → NamesAPart o
unfolding NamesAPart
section_named o s (inl h) =
    let t = h.7 in
    let parts = section_parts_named t.1 t.3 t.7 in
    subst NamesAPart (sym (h.4 ∙ t.4)) parts
section_named o s (inr e) = subst NamesAPart (sym e.0) tt

HasParts : Syntax → Type 0
HasParts Everything = Unit {0}
HasParts (InTownship p) = NamesAPart p.section

land_named : (v : Syntax) (s : List ℕ) → LandText v s → HasParts v
unfolding HasParts
land_named v s h =
    let r = h.7 in
    let t = r.7 in
    let named = section_named t.1 t.3 t.7 in
    let same : h.1.1 ≡ t.1 = ap (λ (x : (ℕ × Bool) × Option SectionSyntax). x.1) (r.4 ∙ t.4) in
    subst HasParts (sym h.4) (subst NamesAPart (sym same) named)

description_named : (v : Syntax) (s : List ℕ) → Description v s → HasParts v
unfolding Description HasParts
description_named v s (inl e) = subst HasParts (sym e.0) tt
description_named v s (inr h) = land_named v s h

-- ---- lands

in_township : (t : Township) (o : Option SectionSyntax) (l : Land) → NamesAPart o → parts_exist depth (section_parts o) ≡ true
    → IsLandIn depth t o l → has_a_cell l ≡ true
unfolding NamesAPart
in_township t None l named exist e = ap has_a_cell e
in_township t (Some x) l named exist e = ap has_a_cell e.2 ∙ union_some x.parts named exist

of_syntax : (s : Syntax) (l : Land) → HasParts s → parts_exist depth (parts_of s) ≡ true → IsLandOf depth s l
    → has_a_cell l ≡ true
unfolding HasParts
of_syntax Everything l named exist e = ap has_a_cell e
of_syntax (InTownship p) l named exist e = in_township e.0 p.section l named exist e.2

described_some : (text : List ℕ) (l : Land) → Describes depth text l → has_a_cell l ≡ true
described_some text l h =
    let stands = h.2 in
    let says = h.1 in
    of_syntax h.0 l (description_named h.0 _ says.spells) stands.exist stands.land_is

kept_by : (found : Option Land) (said : Result Land DescFault) (l : Land) → kept_or found said ≡ Ok l
    → (found ≡ Some l → IsLand depth l × (has_a_cell l ≡ true))
    → (said ≡ Ok l → IsLand depth l × (has_a_cell l ≡ true)) → IsLand depth l × (has_a_cell l ≡ true)
kept_by None said l e f g = g e
kept_by (Some m) said l e f g = let same : m ≡ l = cc in f (ap (λ (x : Land). Some x) same)

-- a land that a text of a plant's file says is as large as the grid, and has a cell
pub lands_some : LandsAreRead → LandsHaveCells
lands_some read text l e = kept_by (cells_in text) (land_in text) l e
    (λ found.
    let form = form_of text l found in
    rw form.land_is (form.sized, form.some))
    (λ said.
    let described = (read text l).0 said in
    (described_sized text l described, described_some text l described))
