-- The land that words stand for, and that there is one at most.
use Rattle.std.proofs.{Common.{◌≡◌, ◌∙◌, ℕ, Bool, true, List, Option, Some, None, refl, sym, ap, subst}, Math.Bridge.{le_prop}}
use Rattle.title_land.specs.{Depth.{depth}, declared.{rectangle.Step.{Step}, grid.Grid.{Grid}, survey.Township.{Township}}, Grids.{grid_of}}
use Rattle.title_land.specs.declared.{survey.Section.{Section}, tract.Land.{Land}}
use Rattle.title_land.specs.Survey.{IsTownshipNumber, IsSectionNumber, IsTownship, IsSection}
use Rattle.title_land.specs.declared.tract.Land.TheVariants as land
use Rattle.title_aliquot.specs.{Grammar.{Syntax, Everything, InTownship, LandSyntax, SectionSyntax}, Meaning.{StandsFor}}
use Rattle.title_aliquot.specs.Meaning.{SectionIsNumbered, section_parts, parts_exist, rectangles, Overlap, union, IsLandIn, IsLandOf}

-- ---- lands in townships

number_as : (n m : ℕ) → n ≡ m → IsTownshipNumber n → IsTownshipNumber m
number_as n m e h = let P : ℕ → Type 0 = λ k. IsTownshipNumber k in subst P e h

section_as : (n m : ℕ) → n ≡ m → IsSectionNumber n → IsSectionNumber m
section_as n m e h = let P : ℕ → Type 0 = λ k. IsSectionNumber k in subst P e h

pub township_stands : (p : LandSyntax) (t : Township) → IsTownship p.township p.north p.range p.east t → p.section ≡ None
    → StandsFor depth (InTownship p) (land.Township t)
township_stands p t h e = record {
  numbered = (
    number_as t.number p.township h.number_is t.numbered,
    number_as t.range p.range h.range_is t.ranged,
    subst SectionIsNumbered (sym e) tt,
  );
  exist = ap (λ (s : Option SectionSyntax). parts_exist depth (section_parts s)) e;
  apart = λ o. subst (λ (s : Option SectionSyntax). Overlap (rectangles depth (section_parts s))) e o;
  land_is = (t, h, subst (λ (s : Option SectionSyntax). IsLandIn depth t s (land.Township t)) (sym e) refl);
}

-- what is known of a section's parts
pub record PartsStand (parts : List (List Step)) (g : Grid) : Type 0 where
  pub exist : parts_exist depth parts ≡ true
  pub apart : Overlap (rectangles depth parts) → ⊥
  pub union_is : g ≡ grid_of depth (union (rectangles depth parts))

pub section_stands : (p : LandSyntax) (t : Township) (s : SectionSyntax) (z : Section) (g : Grid)
    → IsTownship p.township p.north p.range p.east t → p.section ≡ Some s →
    IsSection t s.number z → PartsStand s.parts g → StandsFor depth (InTownship p) (land.Part z g)
section_stands p t s z g h e k w = record {
  numbered = (
    number_as t.number p.township h.number_is t.numbered,
    number_as t.range p.range h.range_is t.ranged,
    subst SectionIsNumbered (sym e) (section_as z.number s.number k.number_is z.numbered),
  );
  exist = ap (λ (x : Option SectionSyntax). parts_exist depth (section_parts x)) e ∙ w.exist;
  apart = λ o. w.apart (subst (λ (x : Option SectionSyntax). Overlap (rectangles depth (section_parts x))) e o);
  land_is = (
    t,
    h,
    subst (λ (x : Option SectionSyntax). IsLandIn depth t x (land.Part z g)) (sym e)
        (z, k, ap (λ (x : Grid). land.Part z x) w.union_is),
  );
}

pub parts_stand_as : (ps qs : List (List Step)) (g : Grid) → ps ≡ qs → PartsStand ps g → PartsStand qs g
parts_stand_as ps qs g e h = subst (λ (x : List (List Step)). PartsStand x g) e h

-- ---- one township has these numbers, and one section

number_prop : (n : ℕ) → IsProp (IsTownshipNumber n)
number_prop n = hlevel le_prop

section_prop : (n : ℕ) → IsProp (IsSectionNumber n)
section_prop n = hlevel le_prop

abbrev made : (n : ℕ) (north : Bool) (r : ℕ) (east : Bool) → IsTownshipNumber n → IsTownshipNumber r → Township
made n north r east a b = record { number = n; north = north; range = r; east = east; numbered = a; ranged = b }

numbered_same : (n m : ℕ) → n ≡ m → (north : Bool) (r : ℕ) (east : Bool) (a : IsTownshipNumber n) (x : IsTownshipNumber m)
    (b : IsTownshipNumber r) →
    made n north r east a b ≡ made m north r east x b
numbered_same n m e north r east a x b =
    let P : ℕ → Type 0 = λ k. (y : IsTownshipNumber k) → made n north r east a b ≡ made k north r east y b in
    subst P e (λ y. ap (λ (z : IsTownshipNumber n). made n north r east z b) (number_prop n a y)) x

ranged_same : (r q : ℕ) → r ≡ q → (n : ℕ) (north : Bool) (east : Bool) (a : IsTownshipNumber n) (b : IsTownshipNumber r)
    (x : IsTownshipNumber q) →
    made n north r east a b ≡ made n north q east a x
ranged_same r q e n north east a b x =
    let P : ℕ → Type 0 = λ k. (y : IsTownshipNumber k) → made n north r east a b ≡ made n north k east a y in
    subst P e (λ y. ap (λ (z : IsTownshipNumber r). made n north r east a z) (number_prop r b y)) x

pub one_township : (n : ℕ) (north : Bool) (r : ℕ) (east : Bool) (t u : Township) → IsTownship n north r east t → IsTownship n north r east u
    → t ≡ u
one_township n north r east t u h k =
    numbered_same t.number u.number (h.number_is ∙ sym k.number_is) t.north t.range t.east t.numbered u.numbered t.ranged
    ∙ ranged_same t.range u.range (h.range_is ∙ sym k.range_is) u.number t.north t.east u.numbered t.ranged u.ranged
    ∙ ap (λ (x : Bool). made u.number x u.range t.east u.numbered u.ranged) (h.north_is ∙ sym k.north_is)
    ∙ ap (λ (x : Bool). made u.number u.north u.range x u.numbered u.ranged) (h.east_is ∙ sym k.east_is)

abbrev nth_section : (t : Township) (n : ℕ) → IsSectionNumber n → Section
nth_section t n a = record { township = t; number = n; numbered = a }

same_nth : (t : Township) (n m : ℕ) → n ≡ m → (a : IsSectionNumber n) (x : IsSectionNumber m) → nth_section t n a ≡ nth_section t m x
same_nth t n m e a x =
    let P : ℕ → Type 0 = λ k. (y : IsSectionNumber k) → nth_section t n a ≡ nth_section t k y in
    subst P e (λ y. ap (λ (z : IsSectionNumber n). nth_section t n z) (section_prop n a y)) x

pub one_section : (t : Township) (n : ℕ) (z y : Section) → IsSection t n z → IsSection t n y → z ≡ y
one_section t n z y h k =
    ap (λ (u : Township). nth_section u z.number z.numbered) (h.township_is ∙ sym k.township_is)
    ∙ same_nth y.township z.number y.number (h.number_is ∙ sym k.number_is) z.numbered y.numbered

-- ---- one land

one_land_in : (depth : ℕ) (t : Township) (s : Option SectionSyntax) (l m : Land) → IsLandIn depth t s l → IsLandIn depth t s m → l ≡ m
one_land_in d t None l m h k = h ∙ sym k
one_land_in d t (Some s) l m h k =
    h.2 ∙ ap (λ (z : Section). land.Part z (grid_of d (union (rectangles d s.parts)))) (one_section t s.number h.0 k.0 h.1 k.1) ∙ sym k.2

pub one_land_of : (depth : ℕ) (s : Syntax) (l m : Land) → IsLandOf depth s l → IsLandOf depth s m → l ≡ m
one_land_of d Everything l m h k = h ∙ sym k
one_land_of d (InTownship p) l m h k =
    let e = one_township p.township p.north p.range p.east h.0 k.0 h.1 k.1 in
    one_land_in d k.0 p.section l m (subst (λ (t : Township). IsLandIn d t p.section l) e h.2) k.2
