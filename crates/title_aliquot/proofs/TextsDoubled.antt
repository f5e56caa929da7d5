-- A text where each section is quartered once more: the same parts, in rectangles of twice the side.
use Rattle.std.{proofs.Common.{◌≡◌, ℕ, suc, ◌*◌, ◌/◌, ◌<◌, true, ◌&&◌, ◌||◌, inl, inr, List, [], ◌∷◌, Option, Some}, specs.Option.{is_some}}
use Rattle.std.{proofs.{Common.{None, map, refl, sym, ap, subst, ◌∙◌, arith}, lemmas.Bool.{and_parts}}, specs.List.{cons_option}}
use Rattle.title_land.specs.declared.{rectangle.{Step.{Step}, Rectangle.{Rectangle}}, survey.Township.{Township}, tract.Land.{Land}}
use Rattle.title_land.specs.{Survey.{side}, Rectangles.{part_of, holds, SharesCell}, Grids.{grid_has, grid_of}, Doubled.{double, doubled}}
use Rattle.title_land.specs.Laws.{GridLaws.{grid_has-grid_of}, PartsDoubled.{part_double, two_pow}, SquaresDoubled.{holds_double}}
use Rattle.title_land.specs.Laws.CoversDoubled.{grid_same}
use Rattle.title_land.specs.declared.tract.Land.TheVariants as land
use Rattle.title_aliquot.specs.declared.fault.DescFault.TheVariants as fault
use Rattle.title_aliquot.specs.{Grammar.{Syntax, Everything, InTownship, SectionSyntax}, Meaning.{IsLandOf, StandsFor, IsOverlapping}}
use Rattle.title_aliquot.specs.Meaning.{section_parts, parts_of, parts_exist, rectangles, SharesCellWithOne, Overlap, union, IsLandIn}
use Rattle.title_aliquot.specs.DepthLaws.{LandDoubles, FaultStays}

-- ---- parts

some_is : (o : Option Rectangle) → is_some o ≡ true → (r : Rectangle) × (o ≡ Some r)
some_is None h = absurd cc
some_is (Some r) h = (r, refl)

-- parts that exist do, and are the doubled ones
record PartsDouble (d : ℕ) (parts : List (List Step)) : Type 0 where
  exist : parts_exist (suc d) parts ≡ true
  rectangles_are : rectangles (suc d) parts ≡ map double (rectangles d parts)

part_next : (d : ℕ) (steps : List Step) (parts : List (List Step)) (r : Rectangle) → part_of d steps ≡ Some r
    → PartsDouble d parts → PartsDouble d (steps ∷ parts)
part_next d steps parts r e rest =
    let finer = part_double d steps r e in
    record {
      exist = λ i. is_some (finer i) && rest.exist i;
      rectangles_are =
          (λ i. cons_option (finer i) (rest.rectangles_are i))
          ∙ (λ i. map double (cons_option (sym e i) (rectangles d parts)));
    }

parts_double : (d : ℕ) (parts : List (List Step)) → parts_exist d parts ≡ true → PartsDouble d parts
parts_double d [] h = record { exist = refl; rectangles_are = refl }
parts_double d (steps ∷ parts) h =
    let k = and_parts (is_some (part_of d steps)) (parts_exist d parts) h in
    let r = some_is (part_of d steps) k.0 in
    part_next d steps parts r.0 r.1 (parts_double d parts k.1)

-- ---- cells that two parts share

shares_halved : (r s : Rectangle) → SharesCell (double r) (double s) → SharesCell r s
shares_halved r s h = (h.0 / 2, h.1 / 2, sym (holds_double r h.0 h.1) ∙ h.2, sym (holds_double s h.0 h.1) ∙ h.3)

twice : (n : ℕ) → (2 * n) / 2 ≡ n
twice n = omega arith

holds_twice : (r : Rectangle) (row column : ℕ) → holds r row column ≡ true → holds (double r) (2 * row) (2 * column) ≡ true
holds_twice r row column h = holds_double r (2 * row) (2 * column) ∙ (λ i. holds r (twice row i) (twice column i)) ∙ h

shares_double : (r s : Rectangle) → SharesCell r s → SharesCell (double r) (double s)
shares_double r s h = (2 * h.0, 2 * h.1, holds_twice r h.0 h.1 h.2, holds_twice s h.0 h.1 h.3)

one_halved : (r : Rectangle) (others : List Rectangle) → SharesCellWithOne (double r) (map double others) → SharesCellWithOne r others
one_halved r [] h = h
one_halved r (s ∷ others) (inl h) = inl (shares_halved r s h)
one_halved r (s ∷ others) (inr h) = inr (one_halved r others h)

one_double : (r : Rectangle) (others : List Rectangle) → SharesCellWithOne r others → SharesCellWithOne (double r) (map double others)
one_double r [] h = h
one_double r (s ∷ others) (inl h) = inl (shares_double r s h)
one_double r (s ∷ others) (inr h) = inr (one_double r others h)

overlap_halved : (rs : List Rectangle) → Overlap (map double rs) → Overlap rs
overlap_halved [] h = h
overlap_halved (r ∷ rs) (inl h) = inl (one_halved r rs h)
overlap_halved (r ∷ rs) (inr h) = inr (overlap_halved rs h)

overlap_double : (rs : List Rectangle) → Overlap rs → Overlap (map double rs)
overlap_double [] h = h
overlap_double (r ∷ rs) (inl h) = inl (one_double r rs h)
overlap_double (r ∷ rs) (inr h) = inr (overlap_double rs h)

-- ---- the land

union_double : (rs : List Rectangle) (row column : ℕ) → union (map double rs) row column ≡ union rs (row / 2) (column / 2)
union_double [] row column = refl
union_double (r ∷ rs) row column = λ i. holds_double r row column i || union_double rs row column i

-- the set of the doubled parts
set_double : (d : ℕ) (parts : List (List Step)) → PartsDouble d parts
    → grid_of (suc d) (λ row column. grid_has (grid_of d (union (rectangles d parts))) (row / 2) (column / 2))
    ≡ grid_of (suc d) (union (rectangles (suc d) parts))
set_double d parts h =
    let e = two_pow d in
    let set = grid_of d (union (rectangles d parts)) in
    grid_same (suc d) (λ row column. grid_has set (row / 2) (column / 2)) (union (rectangles (suc d) parts))
    (λ row column r c.
    let half_row : row / 2 < side d = omega arith in
    let half_column : column / 2 < side d = omega arith in
    grid_has-grid_of d (union (rectangles d parts)) (row / 2) (column / 2) half_row half_column
    ∙ sym (union_double (rectangles d parts) row column)
    ∙ ap (λ (rs : List Rectangle). union rs row column) (sym h.rectangles_are))

land_in : (d : ℕ) (t : Township) (s : Option SectionSyntax) (l : Land) → ((x : SectionSyntax) → s ≡ Some x → PartsDouble d x.parts)
    → IsLandIn d t s l → IsLandIn (suc d) t s (doubled d l)
unfolding doubled
land_in d t None l h k = ap (doubled d) k
land_in d t (Some s) l h k = (k.0, k.1, ap (doubled d) k.2 ∙ ap (land.Part k.0) (set_double d s.parts (h s refl)))

land_of : (d : ℕ) (s : Syntax) (l : Land) → PartsDouble d (parts_of s) → IsLandOf d s l → IsLandOf (suc d) s (doubled d l)
unfolding doubled
land_of d Everything l h k = ap (doubled d) k
land_of d (InTownship p) l h k =
    (k.0, k.1, land_in d k.0 p.section l (λ x e. subst (λ (o : Option SectionSyntax). PartsDouble d (section_parts o)) e h) k.2)

stands : (d : ℕ) (s : Syntax) (l : Land) → StandsFor d s l → StandsFor (suc d) s (doubled d l)
stands d s l h =
    let p = parts_double d (parts_of s) h.exist in
    record {
      numbered = h.numbered;
      exist = p.exist;
      apart = λ o. h.apart (overlap_halved (rectangles d (parts_of s)) (subst Overlap p.rectangles_are o));
      land_is = land_of d s l p h.land_is;
    }

overlaps : (d : ℕ) (s : Syntax) → IsOverlapping d s → IsOverlapping (suc d) s
overlaps d s h =
    let p = parts_double d (parts_of s) h.exist in
    let overlap = subst Overlap (sym p.rectangles_are) (overlap_double (rectangles d (parts_of s)) h.overlap) in
    record { numbered = h.numbered; exist = p.exist; overlap = overlap }

-- ---- texts

pub land_doubles : LandDoubles
land_doubles d text l h = (h.0, h.1, stands d h.0 l h.2)

pub fault_stays : FaultStays
fault_stays d text (fault.BadText byte) h other = h
fault_stays d text fault.Range h other = h
fault_stays d text fault.TooSmall h other = absurd (other refl)
fault_stays d text fault.Lots h other = h
fault_stays d text fault.Overlap h other = (h.0, h.1, overlaps d h.0 h.2)
fault_stays d text fault.Memory h other = h
