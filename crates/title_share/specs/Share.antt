-- Shares of a whole of 2^32 units, and their texts.
use Rattle.std.specs.Prelude.{ℕ, ◌≡◌, ◌≢◌, ◌≤◌, ◌<◌, ◌*◌, ◌^◌, ◌++◌, ◌∷◌, ◌/◌, ◌%◌, ◌==◌, cond, List, slice_index, zero, suc}
use Rattle.std.specs.{Str.Parse.{IsNumeral, digits_value}, Fmt.{decimal}}
use Rattle.title_share.specs.Rows.{whole_units}

-- a power of two up to the whole
abbrev pub IsPart : ℕ → Type 0
IsPart b = (k : ℕ) × (k ≤ 32) × (b ≡ 2 ^ k)

-- a/b of the whole is so many units: b is a power of two up to the whole, and 1 <= a <= b
pub record IsFraction (a b units : ℕ) : Type 0 where
  pub part : IsPart b
  pub some : 0 < a
  pub most : a ≤ b
  pub product : units * b ≡ a * whole_units

-- a/b is in lowest terms, b being a power of two: a is odd, or b is 1
abbrev pub IsLowest : ℕ → ℕ → Type 0
IsLowest a b = a % 2 ≡ 0 → b ≡ 1

-- a number in decimal, without leading zeros
pub record IsNumber (text : List ℕ) (n : ℕ) : Type 0 where
  pub digits : IsNumeral 10 text
  pub leading : slice_index text 0 ≢ 48
  pub value : digits_value 10 text ≡ n

-- the text `a/b` of a share with these units; it need not be in lowest terms
pub record IsShareText (text : List ℕ) (units : ℕ) : Type 0 where
  pub top : List ℕ
  pub bottom : List ℕ
  pub a : ℕ
  pub b : ℕ
  pub joined : text ≡ top ++ 47 ∷ bottom
  pub top_is : IsNumber top a
  pub bottom_is : IsNumber bottom b
  pub fraction : IsFraction a b units

-- units of 2^k in lowest terms: halved while they are even
unfoldable pub lowest : ℕ → ℕ → ℕ × ℕ
lowest zero units = (units, 1)
lowest (suc k) units = cond (units % 2 == 0) (lowest k (units / 2)) (units, 2 ^ suc k)

-- the text that a share is printed as: its fraction in lowest terms
abbrev pub share_text : ℕ → List ℕ
share_text units = decimal (lowest 32 units).0 ++ 47 ∷ decimal (lowest 32 units).1
