-- A section with twice the side: a part that is not too small is the same part, doubled.
use Rattle.std.proofs.Common.{◌≡◌, ℕ, suc, ◌+◌, ◌*◌, ◌/◌, ◌%◌, ◌^◌, Bool, true, false, ◌&&◌, List, [], ◌∷◌, Option, Some, None, refl, ap}
use Rattle.std.{proofs.{Common.{◌∙◌, arith, cond}, lemmas.Bool.{eqb-true, eq-eqb}}, specs.Prelude.{option_and_then}}
use Rattle.title_land.specs.{Depth.{depth}, declared.rectangle.Quarter.{Quarter, TheVariants.{Northeast, Northwest, Southwest, Southeast}}}
use Rattle.title_land.specs.declared.rectangle.{Half.{Half, TheVariants.{North, South, East, West}}, Step.{Step}, Rectangle.{Rectangle}}
use Rattle.title_land.specs.Doubled.{double, APartDoubles}
use Rattle.title_land.specs.Rectangles.{section_square, half_of, quarter_of, taken_of, exists, is_even, step_of, part_of}
use Rattle.title_land.specs.declared.rectangle.Step.TheVariants as step

abbrev record_of : ℕ → ℕ → ℕ → ℕ → Rectangle
record_of t l h w = record { top = t; left = l; height = h; width = w }

rect : (t l h w t2 l2 h2 w2 : ℕ) → t ≡ t2 → l ≡ l2 → h ≡ h2 → w ≡ w2 → record_of t l h w ≡ record_of t2 l2 h2 w2
rect t l h w t2 l2 h2 w2 a b c d = rw (a, b, c, d) refl

pub even_double : (n : ℕ) → is_even (2 * n) ≡ true
even_double n = eq-eqb ((2 * n) % 2) 0 (omega arith)

halves : (n : ℕ) → is_even n ≡ true → (2 * n) / 2 ≡ 2 * (n / 2)
halves n h = let e : n % 2 ≡ 0 = eqb-true (n % 2) 0 h in omega arith

half_double : (w : Half) (r : Rectangle) → exists (step.Half w) r ≡ true → half_of w (double r) ≡ double (half_of w r)
half_double North r h = rect _ _ _ _ _ _ _ _ refl refl (halves r.height h) refl
half_double South r h = rect _ _ _ _ _ _ _ _ (ap (λ (n : ℕ). 2 * r.top + n) (halves r.height h) ∙ omega arith) refl (halves r.height h) refl
half_double East r h = rect _ _ _ _ _ _ _ _ refl (ap (λ (n : ℕ). 2 * r.left + n) (halves r.width h) ∙ omega arith) refl (halves r.width h)
half_double West r h = rect _ _ _ _ _ _ _ _ refl refl refl (halves r.width h)

both : (a b : Bool) → (a && b) ≡ true → (a ≡ true) × (b ≡ true)
both true true h = (refl, refl)
both true false h = absurd cc
both false b h = absurd cc

pub quarter_double : (q : Quarter) (r : Rectangle) → exists (step.Quarter q) r ≡ true → quarter_of q (double r) ≡ double (quarter_of q r)
quarter_double Northeast r h =
    let k = both (is_even r.height) (is_even r.width) h in
    ap (half_of North) (half_double East r k.1) ∙ half_double North (half_of East r) k.0
quarter_double Northwest r h =
    let k = both (is_even r.height) (is_even r.width) h in
    ap (half_of North) (half_double West r k.1) ∙ half_double North (half_of West r) k.0
quarter_double Southwest r h =
    let k = both (is_even r.height) (is_even r.width) h in
    ap (half_of South) (half_double West r k.1) ∙ half_double South (half_of West r) k.0
quarter_double Southeast r h =
    let k = both (is_even r.height) (is_even r.width) h in
    ap (half_of South) (half_double East r k.1) ∙ half_double South (half_of East r) k.0

apply_double : (s : Step) (r : Rectangle) → exists s r ≡ true → taken_of s (double r) ≡ double (taken_of s r)
apply_double (step.Quarter q) r h = quarter_double q r h
apply_double (step.Half w) r h = half_double w r h

exists_double : (s : Step) (r : Rectangle) → exists s (double r) ≡ true
exists_double (step.Quarter q) r = rw (even_double r.height, even_double r.width) refl
exists_double (step.Half North) r = even_double r.height
exists_double (step.Half South) r = even_double r.height
exists_double (step.Half East) r = even_double r.width
exists_double (step.Half West) r = even_double r.width

step_is : (s : Step) (r : Rectangle) → exists s r ≡ true → step_of s r ≡ Some (taken_of s r)
step_is s r h = rw h refl

step_some : (b : Bool) (x y : Rectangle) → cond b (Some x) None ≡ Some y → (b ≡ true) × (x ≡ y)
step_some true x y h = (refl, cc)
step_some false x y h = absurd cc

pub step_double : (s : Step) (r x : Rectangle) → step_of s r ≡ Some x → step_of s (double r) ≡ Some (double x)
step_double s r x h =
    let k = step_some (exists s r) (taken_of s r) x h in
    step_is s (double r) (exists_double s r) ∙ ap (λ (z : Rectangle). Some z) (apply_double s r k.0 ∙ ap double k.1)

pub two_pow : (d : ℕ) → 2 ^ suc d ≡ 2 * 2 ^ d
two_pow d = grind arith

pub section_double : (d : ℕ) → section_square (suc d) ≡ double (section_square d)
section_double d = rect _ _ _ _ _ _ _ _ refl refl (two_pow d) (two_pow d)

then_some : (m : Option Rectangle) (f : Rectangle → Option Rectangle) (y : Rectangle) → option_and_then f m ≡ Some y
    → (x : Rectangle) × (m ≡ Some x) × (f x ≡ Some y)
then_some None f y h = absurd cc
then_some (Some x) f y h = (x, refl, h)

-- a part that is not too small is, with twice the side, the same part
pub part_double : (d : ℕ) (steps : List Step) (x : Rectangle) → part_of d steps ≡ Some x → part_of (suc d) steps ≡ Some (double x)
part_double d [] x h = let k : section_square d ≡ x = cc in ap (λ (z : Rectangle). Some z) (section_double d ∙ ap double k)
part_double d (s ∷ steps) x h =
    let k = then_some (part_of d steps) (step_of s) x h in
    rw (part_double d steps k.0 k.1) (step_double s k.0 x k.2)

pub a_part_doubles : APartDoubles
a_part_doubles depth steps r h = part_double depth steps r h
