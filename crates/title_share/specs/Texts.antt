-- Numbers and shares as functions of their texts.
use Rattle.std.specs.Prelude.{ℕ, suc, zero, ◌*◌, ◌/◌, ◌^◌, Bool, false, cond, ◌&&◌, ◌||◌, eqb, leb, List, [], ◌∷◌, Option, Some, None}
use Rattle.std.specs.{Str.{all_ascii_digits, Parse.{digits_value}}, List.{before_first, after_first}}
use Rattle.title_share.specs.Rows.{whole_units}

-- the first byte is a digit from 1 to 9, and the others are digits
abbrev pub is_number : List ℕ → Bool
is_number [] = false
is_number (c ∷ cs) = leb 49 c && all_ascii_digits (c ∷ cs)

-- the number that a text writes in decimal, without leading zeros
abbrev pub number_in : List ℕ → Option ℕ
number_in text = cond (is_number text) (Some (digits_value 10 text)) None

-- a number is one of 1, 2, 4 and so on, up to 2^k
abbrev pub is_power_to : ℕ → ℕ → Bool
is_power_to zero b = eqb b 1
is_power_to (suc k) b = eqb b (2 ^ suc k) || is_power_to k b

-- a/b is a share: b is a power of two up to 2^32, and 1 <= a <= b
abbrev pub is_fraction : ℕ → ℕ → Bool
is_fraction a b = is_power_to 32 b && (leb 1 a && leb a b)

-- the units of the share a/b
abbrev pub units_of_fraction : Option ℕ → Option ℕ → Option ℕ
units_of_fraction (Some a) (Some b) = cond (is_fraction a b) (Some (a * whole_units / b)) None
units_of_fraction (Some a) None = None
units_of_fraction None b = None

-- the byte `/`
abbrev pub is_slash : ℕ → Bool
is_slash c = eqb c 47

-- the units of the share that a text `a/b` names: a stands before its first `/`, and b after it
abbrev pub share_in : List ℕ → Option ℕ
share_in text = units_of_fraction (number_in (before_first is_slash text)) (number_in (after_first is_slash text))
