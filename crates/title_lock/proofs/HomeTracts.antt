-- Tracts of different sections share no cell, so an entry of another section is passed over.
use Rattle.std.proofs.{Common.{◌≡◌, ap, ℕ, Bool, true, false, ◌&&◌, List, ◌∷◌, Option, arith}, lemmas.Bool.Decides.{nat_tests}}
use Rattle.title_land.specs.{declared.{survey.Section.{Section}, grid.Grid.{Grid}, tract.Land.{Land}}, Survey.{same_section}, Lands.{meets}}
use Rattle.title_land.specs.{Grids.{grids_meet}, Laws.SameLand.{same_section-is}}
use Rattle.title_lock.specs.{declared.guards.Entry.{Entry}, Homes.{home_number, is_elsewhere}, Overlaps.{against, Stands}}
use Rattle.title_lock.proofs.LeastLaws.{least_same}
use Rattle.title_land.specs.declared.tract.Land.TheVariants as land

parts_apart : (s u : Section) (g k : Grid) → same_section s u ≡ false → meets (land.Part s g) (land.Part u k) ≡ false
unfolding meets
parts_apart s u g k e = ap (λ (b : Bool). b && grids_meet g k) e

elsewhere_meets : (x y : Land) → is_elsewhere (home_number y) (home_number x) ≡ true → meets x y ≡ false
elsewhere_meets land.Everything y h = absurd (grind (arith, nat_tests))
elsewhere_meets (land.Township t) y h = absurd (grind (arith, nat_tests))
elsewhere_meets (land.Part s g) land.Everything h = absurd (grind (arith, nat_tests))
elsewhere_meets (land.Part s g) (land.Township u) h = absurd (grind (arith, nat_tests))
elsewhere_meets (land.Part s g) (land.Part u k) h = grind (arith, nat_tests, parts_apart s u g k, same_section-is s u)

pub passed_over : (x : Entry) (before : List Entry) (e : ℕ) (asked : Land) (post : Bool) (way : Option ℕ)
    → is_elsewhere (home_number x.tract) (home_number asked) ≡ true → Stands before e asked post way → Stands (x ∷ before) e asked post way
passed_over x before e asked post way h =
    least_same (λ f. against asked post f before) (λ f. against asked post f (x ∷ before)) e way
    (λ f o. grind (arith, elsewhere_meets asked x.tract h))
