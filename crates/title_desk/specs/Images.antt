-- Before-images of open transactions, by their numbers. Lists of steps and of images here have the newest first.
use Rattle.std.specs.Prelude.{◌≡◌, ℕ, ◌<◌, Bool, true, false, cond, ◌&&◌, ◌||◌, List, [], ◌∷◌, ◌⊎◌}
use Rattle.title_land.specs.{Depth.{depth}, declared.survey.{Township.{Township}, Cell.{Cell}}}
use Rattle.title_store.specs.{Plants.{Plant, SameContent, is_cell_of}, Loans.{Loan, IsLentAs, IsOut, without}}
use Rattle.title_chain.specs.{declared.ask.Step.{Step}, Asks.{tract_of}, Alone.{after_steps}}
pub use Rattle.title_chain.specs.Replays.{was_posted as is_posted}

-- one of these steps was posted at the cell
abbrev pub posted_at : List Township → Cell → List Step → Bool
posted_at townships c [] = false
posted_at townships c (s ∷ earlier) =
    (is_posted s.ask s.answer && is_cell_of depth townships (tract_of s.ask) c) || posted_at townships c earlier

-- the number stands in the list
abbrev pub IsOf : ℕ → List ℕ → Type 0
IsOf n [] = ⊥
IsOf n (m ∷ numbers) = (n ≡ m) ⊎ IsOf n numbers

-- the image of this number is out for a posted step's tract, and holds what the tract held before the step; those before it have
-- lower numbers
pub record Backs (out : List Loan) (townships : List Township) (before : Plant) (s : Step) (n : ℕ) (older : List ℕ) : Type 0 where
  pub is_out : IsOut n out
  pub land_is : (b : Loan) → IsLentAs b n out → b.land ≡ tract_of s.ask
  pub holds : (b : Loan) → IsLentAs b n out → (c : Cell) → is_cell_of depth townships (tract_of s.ask) c ≡ true → b.held c ≡ before c
  pub above : (m : ℕ) → IsOf m older → m < n

-- the images of these steps, made one after another from a plant: a posted step has the first of them, another has none and leaves the
-- plant
pub data Backed (out : List Loan) (townships : List Township) (plant : Plant) : List Step → List ℕ → Type 0 where
  backs_none : Backed out townships plant [] []
  backs_post : (s : Step) (earlier : List Step) (n : ℕ) (older : List ℕ) → is_posted s.ask s.answer ≡ true
      → Backs out townships (after_steps depth townships plant earlier) s n older → Backed out townships plant earlier older
      → Backed out townships plant (s ∷ earlier) (n ∷ older)
  backs_other : (s : Step) (earlier : List Step) (images : List ℕ) → is_posted s.ask s.answer ≡ false
      → SameContent (after_steps depth townships plant earlier) (after_steps depth townships plant (s ∷ earlier))
      → Backed out townships plant earlier images → Backed out townships plant (s ∷ earlier) images

-- the plant after what an image holds has been put back
abbrev pub put_back : List Township → Loan → Plant → Plant
put_back townships b plant = λ c. cond (is_cell_of depth townships b.land c) (b.held c) (plant c)

-- the new plant is the old one after the images of these numbers have been put back, the first of them first
abbrev pub IsRestored : List Township → List ℕ → List Loan → Plant → Plant → Type 0
IsRestored townships [] out old new = SameContent old new
IsRestored townships (n ∷ numbers) out old new =
    (mid : Plant) × ((b : Loan) → IsLentAs b n out → SameContent (put_back townships b old) mid)
    × IsRestored townships numbers (without n out) mid new

-- the list without the images of these numbers
abbrev pub without_all : List ℕ → List Loan → List Loan
without_all [] out = out
without_all (n ∷ numbers) out = without_all numbers (without n out)

-- each of the images can go in its turn, which is next in this sense
abbrev pub InTurn : (ℕ → List Loan → Type 0) → List ℕ → List Loan → Type 0
InTurn IsNext [] out = Unit {0}
InTurn IsNext (n ∷ numbers) out = IsOut n out × IsNext n out × InTurn IsNext numbers (without n out)
