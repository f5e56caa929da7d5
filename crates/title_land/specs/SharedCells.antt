-- Laws of tracts that share a cell.
use Rattle.std.specs.Prelude.{◌≡◌, ◌↔◌, ℕ, true}
use Rattle.title_land.specs.{declared.{survey.Cell.{Cell}, tract.Land.{Land}}, Lands.{has, meets, Meets, IsLand}}

-- the test of tracts is true exactly where some cell of the grid lies in both
abbrev pub MeetsAtACell : ℕ → Type 0
MeetsAtACell depth = (a b : Land) → IsLand depth a → IsLand depth b → (meets a b ≡ true) ↔ Meets depth a b

-- two tracts that have one cell meet
abbrev pub CommonCellMeets : Type 0
CommonCellMeets = (a b : Land) (c : Cell) → has a c ≡ true → has b c ≡ true → meets a b ≡ true

-- two tracts meet one another
abbrev pub MeetsEitherWay : Type 0
MeetsEitherWay = (a b : Land) → meets a b ≡ meets b a
