-- A text is read as a number or a share exactly where it is the text of one.
use Rattle.std.proofs.Common.{◌≡◌, ◌≢◌, ◌↔◌, ◌<◌, ◌≤◌, ◌+◌, ◌-◌, ◌*◌, ◌/◌, ◌%◌, ◌^◌, ◌∙◌, ◌&&◌, ◌||◌, ◌++◌, ℕ, zero, suc, Bool, true, false}
use Rattle.std.proofs.Common.{cond, inl, inr, refl, sym, ap, eqb, get_or, leb, List, [], ◌∷◌, length, take, drop, Option, Some, None, arith}
use Rattle.std.specs.{Str.{all_ascii_digits, Parse.{digits_value}}, List.{position_or_len, before_first, after_first}}
use Rattle.std.proofs.Math.{Nat.{mul-div_cancel}, Seq.{get_or-append_seam, drop-append-add}}
use Rattle.std.proofs.lemmas.Bool.{and_parts, and_from, or_left, or_right, cases_Bool, cases_lt}
use Rattle.std.proofs.lemmas.Bool.{eqb-true, eq-eqb, ne_eqb, leb-true, le-leb, cond-true}
use Rattle.std.proofs.lemmas.List.{take_at, get_or_append_left, length-append, length-drop}
use Rattle.std.proofs.lemmas.List.Sums.{split_at_first, passes_at_first, position_or_len_is}
use Rattle.std.proofs.lemmas.Str.Parse.{IsNumeralModel, numerals_by_value, tells_all_ascii_digits, tells_digits, not_in_digits}
use Rattle.title_share.specs.{Rows.{whole_units}, Share.{IsFraction, IsNumber, IsPart, IsShareText}}
use Rattle.title_share.specs.Texts.{is_number, number_in, is_power_to, is_fraction, units_of_fraction, is_slash, share_in}
use Rattle.title_share.specs.Laws.ShareLaws.{weight_is, units_product}

same_some : (m n : ℕ) → Some m ≡ Some n → m ≡ n
same_some m n e = cc e

none_or_some : (n : ℕ) → None ≡ Some n → ⊥
none_or_some n e = cc e

-- a value that is given under a test
given : (b : Bool) (m n : ℕ) → cond b (Some m) None ≡ Some n → (b ≡ true) × (m ≡ n)
given true m n e = (refl, same_some m n e)
given false m n e = absurd (none_or_some n e)

-- ---- numbers

digits : IsNumeralModel (λ ds. all_ascii_digits ds ≡ true) (digits_value 10)
digits = numerals_by_value _ tells_all_ascii_digits

number_read : (text : List ℕ) (n : ℕ) → is_number text ≡ true → digits_value 10 text ≡ n → IsNumber text n
number_read [] n test value = absurd (cc test)
number_read (c ∷ cs) n test value =
    let parts = and_parts (leb 49 c) (all_ascii_digits (c ∷ cs)) test in
    let low = leb-true 49 c parts.0 in
    record {
      digits = (omega arith, digits.to (c ∷ cs) parts.1);
      leading = (λ e. let zero_first : c ≡ 48 = e in omega arith);
      value = value;
    }

number_tested : (text : List ℕ) (n : ℕ) → IsNumber text n → is_number text ≡ true
number_tested [] n h = let some = h.digits.0 in absurd (omega arith)
number_tested (c ∷ cs) n h =
    let all = digits.from (c ∷ cs) h.digits.1 in
    let range = (tells_all_ascii_digits.parts c cs all).0 in
    let low : 48 ≤ c = range.0 in
    let differs : c ≡ 48 → ⊥ = h.leading in
    and_from (leb 49 c) (all_ascii_digits (c ∷ cs)) (le-leb 49 c (omega arith)) all

pub numbers_read : (text : List ℕ) (n : ℕ) → (number_in text ≡ Some n) ↔ IsNumber text n
numbers_read text n = (
  (λ e. let parts = given (is_number text) (digits_value 10 text) n e in number_read text n parts.0 parts.1),
  (λ h. cond-true (is_number text) (Some (digits_value 10 text)) None (number_tested text n h) ∙ ap (λ (m : ℕ). Some m) h.value),
)

-- ---- fractions

power_found : (k b : ℕ) → is_power_to k b ≡ true → (j : ℕ) × (j ≤ k) × (b ≡ 2 ^ j)
power_found zero b test = (0, omega arith, eqb-true b 1 test)
power_found (suc k) b test = elim (cases_Bool (eqb b (2 ^ suc k))) [
  | inl here ↦ (suc k, omega arith, eqb-true b (2 ^ suc k) here)
  | inr other ↦
      let test_below : is_power_to k b ≡ true = sym (ap (λ (t : Bool). t || is_power_to k b) other) ∙ test in
      let below = power_found k b test_below in
      let low = below.1 in
      (below.0, omega arith, below.2)
]

power_tested : (k b j : ℕ) → j ≤ k → b ≡ 2 ^ j → is_power_to k b ≡ true
power_tested zero b j low is = let first : j ≡ 0 = omega arith in eq-eqb b 1 (is ∙ ap (λ (i : ℕ). 2 ^ i) first)
power_tested (suc k) b j low is = elim (cases_lt j (suc k)) [
  | inl less ↦ or_right (eqb b (2 ^ suc k)) (is_power_to k b) (power_tested k b j (omega arith) is)
  | inr last ↦
      let same : j ≡ suc k = omega arith in
      or_left (eqb b (2 ^ suc k)) (is_power_to k b) (eq-eqb b (2 ^ suc k) (is ∙ ap (λ (i : ℕ). 2 ^ i) same))
]

-- how often a part goes into the whole
part_weight : (b : ℕ) → IsPart b → (w : ℕ) × (w * b ≡ whole_units)
part_weight b p =
    let within = p.1 in
    let w = weight_is p.0 (omega arith) in
    (1 * 2 ^ (32 - p.0) % 18446744073709551616, ap (λ (x : ℕ). 1 * 2 ^ (32 - p.0) % 18446744073709551616 * x) p.2 ∙ w.0)

fraction_read : (a b n : ℕ) → is_fraction a b ≡ true → a * whole_units / b ≡ n → IsFraction a b n
fraction_read a b n test value =
    let parts = and_parts (is_power_to 32 b) (leb 1 a && leb a b) test in
    let bounds = and_parts (leb 1 a) (leb a b) parts.1 in
    let some = leb-true 1 a bounds.0 in
    let most = leb-true a b bounds.1 in
    let part = power_found 32 b parts.0 in
    let weight = part_weight b part in
    let product = units_product a weight.0 b weight.1 in
    let units : a * weight.0 ≡ n = sym (mul-div_cancel (a * weight.0) {n = b} (omega arith)) ∙ ap (λ (x : ℕ). x / b) product ∙ value in
    record { part = part; some = omega arith; most = most; product = ap (λ (x : ℕ). x * b) (sym units) ∙ product }

fraction_tested : (a b n : ℕ) → IsFraction a b n → is_fraction a b ≡ true
fraction_tested a b n h =
    let some = h.some in
    and_from (is_power_to 32 b) (leb 1 a && leb a b) (power_tested 32 b h.part.0 h.part.1 h.part.2)
    (and_from (leb 1 a) (leb a b) (le-leb 1 a (omega arith)) (le-leb a b h.most))

fraction_units : (a b n : ℕ) → IsFraction a b n → a * whole_units / b ≡ n
fraction_units a b n h =
    let some = h.some in
    let most = h.most in
    ap (λ (x : ℕ). x / b) (sym h.product) ∙ mul-div_cancel n {n = b} (omega arith)

-- a number above the line, one below it, and the share that they make
record Parts (above below : Option ℕ) (n : ℕ) : Type 0 where
  a : ℕ
  b : ℕ
  above_is : above ≡ Some a
  below_is : below ≡ Some b
  fraction : IsFraction a b n

parts_found : (above below : Option ℕ) (n : ℕ) → units_of_fraction above below ≡ Some n → Parts above below n
parts_found (Some a) (Some b) n e =
    let test = given (is_fraction a b) (a * whole_units / b) n e in
    record { a = a; b = b; above_is = refl; below_is = refl; fraction = fraction_read a b n test.0 test.1 }
parts_found (Some a) None n e = absurd (none_or_some n e)
parts_found None below n e = absurd (none_or_some n e)

parts_make : (a b n : ℕ) → IsFraction a b n → units_of_fraction (Some a) (Some b) ≡ Some n
parts_make a b n h =
    cond-true (is_fraction a b) (Some (a * whole_units / b)) None (fraction_tested a b n h)
    ∙ ap (λ (m : ℕ). Some m) (fraction_units a b n h)

-- ---- shares

-- a number after the first `/` shows that there is one
has_slash : (text : List ℕ) (n : ℕ) → IsNumber (after_first is_slash text) n → position_or_len is_slash text < length text
has_slash text n h = elim (cases_lt (position_or_len is_slash text) (length text)) [
  | inl inside ↦ inside
  | inr past ↦ let some = h.digits.0 in absurd (omega (arith, length-drop (position_or_len is_slash text + 1) text))
]

joined_by_slash : (text : List ℕ) → position_or_len is_slash text < length text →
    text ≡ before_first is_slash text ++ 47 ∷ after_first is_slash text
joined_by_slash text inside =
    let slash = eqb-true _ 47 (passes_at_first is_slash text 0 inside) in
    split_at_first is_slash text 0 inside ∙ ap (λ (c : ℕ). before_first is_slash text ++ c ∷ after_first is_slash text) slash

share_read : (text : List ℕ) (n : ℕ) → share_in text ≡ Some n → IsShareText text n
share_read text n e =
    let parts = parts_found (number_in (before_first is_slash text)) (number_in (after_first is_slash text)) n e in
    let below = (numbers_read (after_first is_slash text) parts.b).0 parts.below_is in
    record {
      top = before_first is_slash text;
      bottom = after_first is_slash text;
      a = parts.a;
      b = parts.b;
      joined = joined_by_slash text (has_slash text parts.b below);
      top_is = (numbers_read (before_first is_slash text) parts.a).0 parts.above_is;
      bottom_is = below;
      fraction = parts.fraction;
    }

-- a number has no `/`
no_slash : (top : List ℕ) (a k : ℕ) → IsNumber top a → k < length top → get_or top k 0 ≢ 47
no_slash top a k h low =
    not_in_digits (numerals_by_value _ tells_digits) top 47 h.digits.1 (λ range. let least : 48 ≤ 47 = range.0 in omega arith) k low

-- the first `/` of a number, a `/` and more is behind the number
first_slash : (top bottom : List ℕ) (a : ℕ) → IsNumber top a → position_or_len is_slash (top ++ 47 ∷ bottom) ≡ length top
first_slash top bottom a h =
    position_or_len_is is_slash (top ++ 47 ∷ bottom) (length top) 0 (omega (arith, length-append top (47 ∷ bottom)))
    (λ k low. ap is_slash (get_or_append_left top (47 ∷ bottom) 0 k low)
    ∙ ne_eqb _ 47 (no_slash top a k h low))
    (λ low. ap is_slash (get_or-append_seam top 47 bottom 0))

share_found : (top bottom : List ℕ) (a b n : ℕ) → IsNumber top a → IsNumber bottom b → IsFraction a b n →
    share_in (top ++ 47 ∷ bottom) ≡ Some n
share_found top bottom a b n above below h =
    let slash = first_slash top bottom a above in
    let before : before_first is_slash (top ++ 47 ∷ bottom) ≡ top =
    ap (λ (i : ℕ). take i (top ++ 47 ∷ bottom)) slash ∙ take_at top (47 ∷ bottom) (length top) refl in
    let after : after_first is_slash (top ++ 47 ∷ bottom) ≡ bottom =
    ap (λ (i : ℕ). drop (i + 1) (top ++ 47 ∷ bottom)) slash ∙ drop-append-add top (47 ∷ bottom) 1 in
    ap (λ (t : List ℕ). units_of_fraction (number_in t) (number_in (after_first is_slash (top ++ 47 ∷ bottom)))) before
    ∙ ap (λ (t : List ℕ). units_of_fraction (number_in top) (number_in t)) after
    ∙ ap (λ (x : Option ℕ). units_of_fraction x (number_in bottom)) ((numbers_read top a).1 above)
    ∙ ap (λ (x : Option ℕ). units_of_fraction (Some a) x) ((numbers_read bottom b).1 below)
    ∙ parts_make a b n h

pub shares_read : (text : List ℕ) (n : ℕ) → (share_in text ≡ Some n) ↔ IsShareText text n
shares_read text n = (
  share_read text n,
  (λ s. ap share_in s.joined ∙ share_found s.top s.bottom s.a s.b n s.top_is s.bottom_is s.fraction),
)

-- a text that names no share is read as none
no_share_read : (r : Option ℕ) → ((n : ℕ) → r ≡ Some n → ⊥) → None ≡ r
no_share_read None h = refl
no_share_read (Some n) h = absurd (h n refl)

pub no_share : (text : List ℕ) → ((n : ℕ) → IsShareText text n → ⊥) → None ≡ share_in text
no_share text h = no_share_read (share_in text) (λ n e. h n (share_read text n e))

pub one_share : (text : List ℕ) (n : ℕ) → IsShareText text n → Some n ≡ share_in text
one_share text n h = sym ((shares_read text n).1 h)
