-- Before-images that are out of a store.
use Rattle.std.specs.Prelude.{◌≡◌, ℕ, ◌<◌, true, false, cond, eqb, List, [], ◌∷◌, ◌++◌, ◌⊎◌, Option, Some, None}
use Rattle.title_land.specs.{Depth.{depth}, declared.{survey.{Cell.{Cell}, Township.{Township}}, tract.Land.{Land}}, Lands.{meets}}
use Rattle.title_store.specs.{declared.store.Put.{Put}, Plants.{Plant, Refusal, is_cell_of}}
use Rattle.title_store.specs.declared.store.Put.TheVariants as put

-- an image that is out: its number, its tract, and what each cell of the tract held before the put
pub record Loan : Type 0 where
  pub number : ℕ
  pub land : Land
  pub held : Plant

-- the loan stands in the list
abbrev pub IsAmong : Loan → List Loan → Type 0
IsAmong b [] = ⊥
IsAmong b (x ∷ out) = (b ≡ x) ⊎ IsAmong b out

-- the image with this number is out as that loan
abbrev pub IsLentAs : Loan → ℕ → List Loan → Type 0
IsLentAs b number out = IsAmong b out × (b.number ≡ number)

-- the image with this number is out
abbrev pub IsOut : ℕ → List Loan → Type 0
IsOut number out = (b : Loan) × IsLentAs b number out

-- no later image that is out shares a cell with the one of this number
abbrev pub IsLast : ℕ → List Loan → Type 0
IsLast number out = (b x : Loan) → IsLentAs b number out → IsAmong x out → number < x.number → meets b.land x.land ≡ false

-- no earlier image that is out shares a cell with the one of this number
abbrev pub IsFirst : ℕ → List Loan → Type 0
IsFirst number out = (b x : Loan) → IsLentAs b number out → IsAmong x out → x.number < number → meets b.land x.land ≡ false

-- every image that is out has a number below this one
abbrev pub AllBelow : ℕ → List Loan → Type 0
AllBelow number out = (x : Loan) → IsAmong x out → x.number < number

-- an image is out, last, with a number above all others, holding what the tract's cells held
pub record IsTaken (number : ℕ) (townships : List Township) (land : Land) (before : Plant) (old new : List Loan) : Type 0 where
  pub held : Plant
  pub holds : (c : Cell) → is_cell_of depth townships land c ≡ true → held c ≡ before c
  pub above : AllBelow number old
  pub last : new ≡ old ++ record { number = number; land = land; held = held } ∷ []

-- the list without the image of this number
abbrev pub without : ℕ → List Loan → List Loan
without number [] = []
without number (x ∷ out) = cond (eqb number x.number) (without number out) (x ∷ without number out)

-- a put is done exactly where nothing refuses it, else refused with that refusal
abbrev pub PutBy : {I : Type 0} → Put I → Option Refusal → (I → Type 0) → Type 0 → Type 0
PutBy (put.Done image) refused Taken Kept = (refused ≡ None) × Taken image
PutBy (put.Refused rule estate node) refused Taken Kept =
    (refused ≡ Some (record { rule = rule; estate = estate; node = node })) × Kept
