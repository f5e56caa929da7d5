-- Laws of numbers and shares in texts, and what they say of some texts.
use Rattle.std.specs.Prelude.{◌≡◌, ◌↔◌, ℕ, List, [], codes, Some, None}
use Rattle.title_share.specs.{Share.{IsNumber, IsShareText}, Texts.{number_in, share_in}}

-- a text is read as a number exactly where it writes that number
abbrev pub NumbersAreRead : Type 0
NumbersAreRead = (text : List ℕ) (n : ℕ) → (number_in text ≡ Some n) ↔ IsNumber text n

-- a text is read as a share exactly where it names that share
abbrev pub SharesAreRead : Type 0
SharesAreRead = (text : List ℕ) (units : ℕ) → (share_in text ≡ Some units) ↔ IsShareText text units

-- the texts `1`, `10`, `0`, `01`, `+1` and the empty text as numbers
pub record NumbersOfTexts : Type 0 where
  pub one : number_in (codes "1") ≡ Some 1
  pub ten : number_in (codes "10") ≡ Some 10
  pub nothing : number_in (codes "0") ≡ None
  pub leading_zero : number_in (codes "01") ≡ None
  pub sign : number_in (codes "+1") ≡ None
  pub empty : number_in [] ≡ None

-- some texts of shares, and some that name none
pub record SharesOfTexts : Type 0 where
  pub half : share_in (codes "1/2") ≡ Some 2147483648
  pub two_quarters : share_in (codes "2/4") ≡ Some 2147483648
  pub whole : share_in (codes "1/1") ≡ Some 4294967296
  pub least : share_in (codes "1/4294967296") ≡ Some 1
  pub below_least : share_in (codes "1/8589934592") ≡ None
  pub nothing : share_in (codes "0/2") ≡ None
  pub above_whole : share_in (codes "3/2") ≡ None
  pub leading_zero : share_in (codes "01/2") ≡ None
  pub third : share_in (codes "1/3") ≡ None
  pub no_number_above : share_in (codes "/2") ≡ None
  pub two_lines : share_in (codes "1/2/") ≡ None
