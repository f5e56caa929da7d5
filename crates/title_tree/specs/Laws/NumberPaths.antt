-- Paths of squares by their numbers: as long as there are levels, and each number's own.
use Rattle.std.proofs.Common.{◌≡◌, ◌∙◌, ap, sym, refl, ℕ, zero, suc, ◌+◌, ◌*◌, ◌/◌, ◌%◌, ◌^◌, ◌<◌, arith, List, [], ◌∷◌, ◌++◌}
use Rattle.std.proofs.{Common.{length, length-append, reverse, take, drop}, lemmas.List.{reverse-append, take_at, drop_at}}
use Rattle.title_land.specs.{declared.rectangle.Quarter.{Quarter}, Paths.{quarter_at, quarter_number}}
use Rattle.title_land.specs.Laws.PathNumbers.{quarter_below, quarter_at-number, quarter_number-at}
use Rattle.title_tree.specs.Paths.{number_path}

pub append_parts : (a b p c : List Quarter) → length a ≡ length b → a ++ p ≡ b ++ c → (a ≡ b) × (p ≡ c)
append_parts a b p c l h = (
  sym (take_at a p (length b) l) ∙ ap (take (length b)) h ∙ take_at b c (length b) refl,
  sym (drop_at a p (length b) l) ∙ ap (drop (length b)) h ∙ drop_at b c (length b) refl,
)

pub length-number_path : (levels n : ℕ) → length (number_path levels n) ≡ levels
length-number_path zero n = refl
length-number_path (suc levels) n =
    let e = length-number_path levels (n / 4) in
    let f = length-append (number_path levels (n / 4)) (quarter_at (n % 4) ∷ []) in omega (arith, e, f)

-- of numbers that are small enough each has its own path
pub number_is : (levels n m : ℕ) → n < 4 ^ levels → m < 4 ^ levels → number_path levels n ≡ number_path levels m → n ≡ m
number_is zero n m l k h = omega (arith, l, k)
number_is (suc levels) n m l k h =
    let parts = append_parts (number_path levels (n / 4)) (number_path levels (m / 4)) (quarter_at (n % 4) ∷ []) (quarter_at (m % 4) ∷ [])
    (length-number_path levels (n / 4) ∙ sym (length-number_path levels (m / 4))) h in
    let power : 4 ^ suc levels ≡ 4 * 4 ^ levels = grind arith in
    let less : n / 4 < 4 ^ levels = omega (arith, l, power) in
    let more : m / 4 < 4 ^ levels = omega (arith, k, power) in
    let same = number_is levels (n / 4) (m / 4) less more parts.0 in
    let low : n % 4 < 4 = omega arith in
    let high : m % 4 < 4 = omega arith in
    let one : quarter_at (n % 4) ≡ quarter_at (m % 4) = cc parts.1 in
    let last : n % 4 ≡ m % 4 = sym (quarter_number-at (n % 4) low) ∙ ap quarter_number one ∙ quarter_number-at (m % 4) high in
    omega (arith, same, last)

-- the number of the square with these quarters, the innermost first
abbrev pub number_of : List Quarter → ℕ
number_of [] = 0
number_of (q ∷ w) = number_of w * 4 + quarter_number q

pub path_of_number : (w : List Quarter) → number_path (length w) (number_of w) ≡ reverse w
path_of_number [] = refl
path_of_number (q ∷ w) =
    let low = quarter_below q in
    let over : (number_of w * 4 + quarter_number q) / 4 ≡ number_of w = omega (arith, low) in
    let rest : (number_of w * 4 + quarter_number q) % 4 ≡ quarter_number q = omega (arith, low) in
    (λ i. number_path (length w) (over i) ++ quarter_at (rest i) ∷ []) ∙ (λ i. path_of_number w i ++ quarter_at-number q i ∷ [])
    ∙ sym (reverse-append (q ∷ []) w)
