-- Laws of shares and their texts.
use Rattle.std.proofs.Common.{◌≡◌, ◌≢◌, ◌<◌, ◌≤◌, ◌+◌, ◌-◌, ◌*◌, ◌^◌, ◌%◌, ◌/◌, ◌∙◌, ◌&&◌, ℕ, zero, suc, Bool, true, refl, sym, ap, subst}
use Rattle.std.{proofs.Common.{eqb, ltb, leb, List, [], ◌∷◌, length, get_or, arith, rules, Option, inl, inr}, specs.Prelude.{MatchOption}}
use Rattle.std.{specs.{Str.Parse.{AllDigits, digits_value}, Fmt.{decimal}}, proofs.lemmas.Str.Pattern.{IsSplitOnceResult, split_after}}
use Rattle.std.proofs.lemmas.Bool.{cond-true, cond-false, eq-eqb, ne_eqb, agree_below_at, and_parts, eqb-true, ltb-true, leb-true, cases_eq}
use Rattle.std.proofs.lemmas.Str.Parse.{IsNumeralModel, numerals_by_fold, tells_digits, not_in_digits, digit_at}
use Rattle.std.proofs.Math.Nat.{mul_assoc, mul-le-mul, mul-le-mul_right, mul_left_comm, pow-succ', two-pow-succ}
use Rattle.std.proofs.lemmas.Fmt.{decimal_is_IsNumeral, first_decimal}
use denote.Ref.{Bor}
use Rattle.title_share.specs.{Rows.{whole_units}, Share.{IsFraction, IsLowest, IsNumber, IsPart, IsShareText, lowest, share_text}}

-- 2^k goes that often into the whole, and at least once
abbrev weighs : ℕ → Bool
weighs k = eqb (1 * 2 ^ (32 - k) % 18446744073709551616 * 2 ^ k) 4294967296 && ltb 0 (1 * 2 ^ (32 - k) % 18446744073709551616)

-- how often 2^k goes into the whole
pub weight_is : (k : ℕ) → k < 33 → (1 * 2 ^ (32 - k) % 18446744073709551616 * 2 ^ k ≡ 4294967296)
    × (0 < 1 * 2 ^ (32 - k) % 18446744073709551616)
weight_is k low =
    let both = and_parts _ _ (agree_below_at weighs (λ _. true) 33 k refl low) in
    (eqb-true _ _ both.0, ltb-true _ _ both.1)

-- the value of digits, read on from a number
read_on : ℕ → List ℕ → ℕ
read_on n [] = n
read_on n (c ∷ cs) = read_on (n * 10 + (c - 48)) cs

-- that value is the one of the text
own : IsNumeralModel (AllDigits 10) (read_on 0)
unfolding read_on
own = numerals_by_fold _ tells_digits read_on (search rules)

-- reading on gives no less
read_more : (n : ℕ) (cs : List ℕ) → n ≤ read_on n cs
unfolding read_on
read_more n [] = omega arith
read_more n (c ∷ cs) = let e = read_more (n * 10 + (c - 48)) cs in omega arith

-- digits without a leading zero are above 0
some_digits : (text : List ℕ) → 0 < length text → AllDigits 10 text → get_or text 0 0 ≢ 48 → 0 < read_on 0 text
unfolding read_on
some_digits [] none digits lead = absurd (omega arith)
some_digits (c ∷ cs) some digits lead =
    let range = digit_at (c ∷ cs) 0 digits some in
    let low : 48 ≤ c = range.0 in
    let differs : c ≡ 48 → ⊥ = lead in
    let e = read_more (0 * 10 + (c - 48)) cs in
    omega arith

-- a number without leading zeros is above 0
pub number_some : (text : List ℕ) (n : ℕ) → IsNumber text n → 0 < n
number_some text n h =
    let e = own.same text h.digits.1 ∙ h.value in
    subst (λ (x : ℕ). 0 < x) e (some_digits text h.digits.0 h.digits.1 h.leading)

-- one text is one number
pub same_number : (text other : List ℕ) (m n : ℕ) → text ≡ other → IsNumber text m → IsNumber other n → m ≡ n
same_number text other m n e h k = sym h.value ∙ ap (digits_value 10) e ∙ k.value

-- 2^k fits the whole
abbrev power_fits : ℕ → Bool
power_fits k = leb (2 ^ k) 4294967296

-- 2^k is not cut off
abbrev power_stays : ℕ → Bool
power_stays k = eqb (1 * 2 ^ k % 18446744073709551616) (2 ^ k)

-- the same as a fact
pub power_is : (k : ℕ) → k < 33 → 1 * 2 ^ k % 18446744073709551616 ≡ 2 ^ k
power_is k low = eqb-true _ _ (agree_below_at power_stays (λ _. true) 33 k refl low)

-- the numbers of a share fit
pub part_fits : (b : ℕ) → IsPart b → b ≤ 4294967296
part_fits b p = subst (λ (x : ℕ). x ≤ 4294967296) (sym p.2)
    (let low : p.0 < 33 = let h = p.1 in omega arith in leb-true _ _ (agree_below_at power_fits (λ _. true) 33 p.0 refl low))

-- where a share's text is split
pub parts_are : (bs : List ℕ) (n : ℕ) (r : Option (Bor (List ℕ) × Bor (List ℕ))) → IsSplitOnceResult 47 bs r → (s : IsShareText bs n)
    → MatchOption r ⊥ (λ x. (x.0.now ≡ s.top) × (x.1.now ≡ s.bottom))
parts_are bs n r is s =
    split_after 47 bs s.top s.bottom r is (omega arith) s.joined
    (not_in_digits own s.top 47 s.top_is.digits.1 (λ range. let low : 48 ≤ 47 = range.0 in omega arith))

-- so many units are a/b of the whole
pub units_product : (a w b : ℕ) → w * b ≡ 4294967296 → (a * w) * b ≡ a * 4294967296
units_product a w b e = mul_assoc a w b ∙ ap (λ (x : ℕ). a * x) e

-- they are no more than the whole
pub units_most : (a w b : ℕ) → w * b ≡ 4294967296 → a ≤ b → a * w ≤ 4294967296
units_most a w b e low = omega (arith, mul-le-mul_right w low)

-- they are at least one
pub units_some : (a w : ℕ) → 0 < a → 0 < w → 0 < a * w
units_some a w x y = omega (arith, mul-le-mul x y)

-- an even number of units is halved
lowest_halved : (k n : ℕ) → 0 < k → n % 2 ≡ 0 → lowest k n ≡ lowest (k - 1) (n / 2)
unfolding lowest
lowest_halved zero n some even = absurd (omega arith)
lowest_halved (suc k) n some even =
    cond-true (eqb (n % 2) 0) _ _ (eq-eqb (n % 2) 0 even) ∙ ap (λ (j : ℕ). lowest j (n / 2)) (let e : k ≡ suc k - 1 = omega arith in e)

-- an odd number stays
lowest_stays : (k n : ℕ) → (0 < k → n % 2 ≡ 0 → ⊥) → lowest k n ≡ (n, 2 ^ k)
unfolding lowest
lowest_stays zero n odd = refl
lowest_stays (suc k) n odd = cond-false (eqb (n % 2) 0) _ _ (ne_eqb (n % 2) 0 (odd (omega arith)))

-- a turn of the loop that reduces
pub reduced_more : (start : ℕ × ℕ) (k n : ℕ) → 0 < k → n % 2 ≡ 0 → start ≡ lowest k n → start ≡ lowest (k - 1) (n / 2)
reduced_more start k n some even e = e ∙ lowest_halved k n some even

-- the loop ends in lowest terms
pub reduced_done : (start : ℕ × ℕ) (k n : ℕ) → k ≤ 32 → (0 < k → n % 2 ≡ 0 → ⊥) → start ≡ lowest k n
    → ◌≡◌ {A = ℕ × ℕ} (n, 1 * 2 ^ k % 18446744073709551616) start
reduced_done start k n low odd e =
    let pow = power_is k (let h : k < 33 = omega arith in h) in
    ap (λ (x : ℕ). (n, x)) pow ∙ sym (lowest_stays k n odd) ∙ sym e

-- units of 2^k as a fraction in lowest terms
pub record IsHalved (k units : ℕ) (p : ℕ × ℕ) : Type 0 where
  pub exponent : ℕ
  pub within : exponent ≤ k
  pub below : p.1 ≡ 2 ^ exponent
  pub some : 0 < p.0
  pub most : p.0 ≤ p.1
  pub product : units * p.1 ≡ p.0 * 2 ^ k
  pub odd : IsLowest p.0 p.1

-- a half in lowest terms is the double in lowest terms
halved_more : (k u : ℕ) → u % 2 ≡ 0 → IsHalved k (u / 2) (lowest k (u / 2)) → IsHalved (suc k) u (lowest k (u / 2))
halved_more k u even h =
    let product = h.product in
    let within = h.within in
    let twice : u ≡ 2 * (u / 2) = omega arith in
    record {
      exponent = h.exponent;
      within = omega arith;
      below = h.below;
      some = h.some;
      most = h.most;
      product = ap (λ (x : ℕ). x * (lowest k (u / 2)).1) twice ∙ mul_assoc 2 (u / 2) (lowest k (u / 2)).1 ∙ ap (λ (x : ℕ). 2 * x) product
          ∙ sym (ap (λ (x : ℕ). (lowest k (u / 2)).0 * x) (pow-succ' 2 k) ∙ mul_left_comm (lowest k (u / 2)).0 2 (2 ^ k));
      odd = h.odd;
    }

-- what is odd is in lowest terms
halved_stays : (k u : ℕ) → 0 < u → u ≤ 2 ^ k → (u % 2 ≡ 0 → 2 ^ k ≡ 1) → IsHalved k u (u, 2 ^ k)
halved_stays k u some most odd = record {
  exponent = k;
  within = omega arith;
  below = refl;
  some = some;
  most = most;
  product = refl;
  odd =
      odd;
}

-- halving gives lowest terms
pub lowest_is : (k u : ℕ) → 0 < u → u ≤ 2 ^ k → IsHalved k u (lowest k u)
unfolding lowest
lowest_is zero u some most = halved_stays 0 u some most (λ _. refl)
lowest_is (suc k) u some most =
    let bound : u ≤ 2 ^ k + 2 ^ k = rw (← two-pow-succ k) most in
    elim (cases_eq (u % 2) 0) [
      | inl even ↦ subst (IsHalved (suc k) u) (sym (cond-true (eqb (u % 2) 0) _ _ (eq-eqb (u % 2) 0 even)))
          (halved_more k u even (lowest_is k (u / 2) (omega arith) (omega arith)))
      | inr odd ↦ subst (IsHalved (suc k) u) (sym (cond-false (eqb (u % 2) 0) _ _ (ne_eqb (u % 2) 0 odd)))
          (halved_stays (suc k) u some most (λ even. absurd (odd even)))
    ]

-- the same of units of the whole
pub lowest_fraction : (u : ℕ) → 0 < u → u ≤ whole_units
    → IsFraction (lowest 32 u).0 (lowest 32 u).1 u × IsLowest (lowest 32 u).0 (lowest 32 u).1
lowest_fraction u some most =
    let h = lowest_is 32 u some most in
    (record { part = (h.exponent, h.within, h.below); some = h.some; most = h.most; product = h.product }, h.odd)

-- a number above 0 is printed in decimal, without leading zeros
printed_number : (n : ℕ) → 0 < n → n < 2 ^ 64 → IsNumber (decimal n) n
printed_number n some low =
    let is = decimal_is_IsNumeral n low in
    let first = first_decimal n some low in
    record { digits = is.0; leading = (λ zero_first. let e : get_or (decimal n) 0 0 ≡ 48 = zero_first in omega arith); value = is.1 }

-- what a share is printed as names it
pub text_named : (u : ℕ) → 0 < u → u ≤ whole_units → IsShareText (share_text u) u
text_named u some most =
    let f = (lowest_fraction u some most).0 in
    let top = f.some in
    let within = f.most in
    let fits = part_fits _ f.part in
    record {
      top = decimal (lowest 32 u).0;
      bottom = decimal (lowest 32 u).1;
      a = (lowest 32 u).0;
      b = (lowest 32 u).1;
      joined = refl;
      top_is = printed_number _ top (omega arith);
      bottom_is = printed_number _ (omega arith) (omega arith);
      fraction = f;
    }
