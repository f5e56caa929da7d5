-- Paths by their numbers.
use Rattle.std.proofs.Common.{◌≡◌, ◌∙◌, ap, sym, append_assoc, ℕ, suc, ◌/◌, ◌%◌, ◌≤◌, arith, List, [], ◌∷◌, ◌++◌, length}
use Rattle.std.proofs.lemmas.List.{reverse-append}
use Rattle.title_land.specs.{declared.rectangle.Quarter.{Quarter}, Paths.{quarter_at, path_number}}
use Rattle.title_land.specs.Laws.PathNumbers.{path_at-number, path_positive}
use Rattle.title_tree.specs.Paths.{quarters_of, IsPath, way, number_path}

-- the number is that of the path's quarters
pub number_of : (n : ℕ) (q : List Quarter) → IsPath n → quarters_of n ≡ q → n ≡ path_number q
number_of n q h e = sym h ∙ ap path_number e

short : (q : List Quarter) → length q ≤ path_number q
short [] = omega arith
short (a ∷ q) = omega (arith, short q, path_positive q)

pub quarters_of_number : (n : ℕ) (q : List Quarter) → n ≡ path_number q → quarters_of n ≡ q
quarters_of_number n q e = ap quarters_of e ∙ path_at-number (path_number q) q (short q)

pub is_path : (n : ℕ) (q : List Quarter) → n ≡ path_number q → IsPath n
is_path n q e = ap path_number (quarters_of_number n q e) ∙ sym e

-- inside a number: by its last quarter, then by the quarters of a fourth of it
pub number_inside : (levels less n : ℕ) (path inner new : List Quarter) (q : Quarter) → levels ≡ suc less → q ≡ quarter_at (n % 4)
    → inner ≡ q ∷ path → new ≡ number_path less (n / 4) ++ inner → new ≡ number_path levels n ++ path
number_inside levels less n path inner new q e f g h =
    h ∙ ap (λ (x : List Quarter). number_path less (n / 4) ++ x) (g ∙ ap (λ (x : Quarter). x ∷ path) f)
    ∙ sym (append_assoc (number_path less (n / 4)) (quarter_at (n % 4) ∷ []) path)
    ∙ ap (λ (l : ℕ). number_path l n ++ path) (sym e)

-- inside a square: by its own quarter, then by the square around it
pub square_inside : (w outer path inner new : List Quarter) (q : Quarter) → w ≡ q ∷ outer → inner ≡ q ∷ path → new ≡ way outer ++ inner
    → new ≡ way w ++ path
square_inside w outer path inner new q e g h =
    h ∙ ap (λ (x : List Quarter). way outer ++ x) g ∙ sym (append_assoc (way outer) (q ∷ []) path)
    ∙ ap (λ (x : List Quarter). x ++ path) (sym (reverse-append (q ∷ []) outer)) ∙ ap (λ (x : List Quarter). way x ++ path) (sym e)
