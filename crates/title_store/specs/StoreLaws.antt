-- Laws of plants, posts and sheets.
use Rattle.std.specs.Prelude.{◌≡◌, ℕ, ◌↔◌, true, false, List, Some}
use Rattle.title_share.specs.Division.{Division}
use Rattle.title_land.specs.declared.{survey.{Cell.{Cell}, Township.{Township}}, tract.Land.{Land}}
use Rattle.title_instrument.specs.declared.instrument.Instrument.{Instrument}
use Rattle.title_store.specs.{Plants.{Plant, Refusal, is_cell_of, refused_in, plant_effect}, Sheets.{sheet_of, same_division}}

-- the plants have the same owners in each of a tract's cells
abbrev pub SameOn : ℕ → List Township → Land → Plant → Plant → Type 0
SameOn depth townships land p q = (c : Cell) → is_cell_of depth townships land c ≡ true → p c ≡ q c

-- a sheet depends on the tract's cells alone
abbrev pub SheetSame : Type 0
SheetSame = (depth : ℕ) (townships : List Township) (land : Land) (p q : Plant) →
    SameOn depth townships land p q → sheet_of depth townships p land ≡ sheet_of depth townships q land

-- what refuses a post depends on the tract's cells alone
abbrev pub RefusedSame : Type 0
RefusedSame = (depth : ℕ) (townships : List Township) (i : Instrument ℕ) (land : Land) (p q : Plant) →
    SameOn depth townships land p q → refused_in depth townships i p land ≡ refused_in depth townships i q land

-- what a cell holds after a post depends on the tract's cells and on that cell
abbrev pub EffectSame : Type 0
EffectSame = (depth : ℕ) (townships : List Township) (i : Instrument ℕ) (land : Land) (p q : Plant) (c : Cell) →
    SameOn depth townships land p q → p c ≡ q c → plant_effect depth townships i p land c ≡ plant_effect depth townships i q land c

-- a post changes no cell outside its tract
abbrev pub EffectOutside : Type 0
EffectOutside = (depth : ℕ) (townships : List Township) (i : Instrument ℕ) (land : Land) (p : Plant) (c : Cell) →
    is_cell_of depth townships land c ≡ false → plant_effect depth townships i p land c ≡ p c

-- a refused post changes no cell
abbrev pub EffectRefused : Type 0
EffectRefused = (depth : ℕ) (townships : List Township) (i : Instrument ℕ) (land : Land) (p : Plant) (c : Cell) (r : Refusal) →
    refused_in depth townships i p land ≡ Some r → plant_effect depth townships i p land c ≡ p c

-- the test of divisions is their equality
abbrev pub SameDivisionsAreEqual : Type 0
SameDivisionsAreEqual = (d e : Division) → (same_division d e ≡ true) ↔ (d ≡ e)
