-- Units in lowest terms, by the zeros at their binary end.
use Rattle.std.proofs.Common.{◌≡◌, ◌∙◌, ◌≤◌, ◌<◌, ◌^◌, ◌-◌, ◌/◌, ◌%◌, ◌++◌, ◌∷◌, [], ℕ, List, zero, suc, min, refl, sym, ap, arith}
use Rattle.std.proofs.{Math.{Nat.{div-div-eq-div-mul, div-le_self, div-one, pow-succ'}, Pow.{pow_mono}}, lemmas.Bool.{ne_eqb}}
use Rattle.std.proofs.{Common.{append_assoc, map, slice_index_or}, lemmas.List.FromFn.{get_or-map-range_with_len}}
use Rattle.std.specs.{Fmt.{decimal, digits}, List.{range_with_len}}
use lib.Count.{count_trailing_zeros, under}
use Rattle.csv.specs.Writing.{field_text}
use Rattle.title_share.specs.Share.{lowest, share_text}
use Rattle.title_page.specs.Rows.{row_writer}
use Rattle.title_report.{specs.Fronts.{bottoms, tail_text}, proofs.Plain.{both_plain, plain_field, plain_number, plain_word}}

under_min : (r a b k : ℕ) → a ≡ min k b → under r a ≡ min (suc k) (under r b)
under_min zero a b k h = omega (arith, h)
under_min (suc r) a b k h = omega arith

-- the zeros among the first k digits are those of the whole number, or k where it has more
zeros_min : (k j n : ℕ) → k ≤ j → count_trailing_zeros k n ≡ min k (count_trailing_zeros j n)
unfolding count_trailing_zeros
zeros_min zero j n le = omega arith
zeros_min (suc k) zero n le = absurd (omega (arith, le))
zeros_min (suc k) (suc j) n le =
    under_min (n % 2) (count_trailing_zeros k (n / 2)) (count_trailing_zeros j (n / 2)) k (zeros_min k j (n / 2) (omega (arith, le)))

-- units without so many zeros, and the power of two that is left of 2^k
abbrev without : ℕ → ℕ → ℕ → ℕ × ℕ
without k n t = (n / 2 ^ t, 2 ^ (k - t))

halved : (k n t : ℕ) → without k (n / 2) t ≡ without (suc k) n (suc t)
halved k n t =
    let above : n / 2 / 2 ^ t ≡ n / 2 ^ suc t = div-div-eq-div-mul n 2 (2 ^ t) ∙ ap (λ (x : ℕ). n / x) (sym (pow-succ' 2 t)) in
    let left : k - t ≡ suc k - suc t = omega arith in
    ap (λ (x : ℕ). (x, 2 ^ (k - t))) above ∙ ap (λ (x : ℕ). (n / 2 ^ suc t, 2 ^ x)) left

none_off : (k n : ℕ) → (n, 2 ^ k) ≡ without k n 0
none_off k n =
    let same : k ≡ k - 0 = omega arith in
    ap (λ (x : ℕ). (x, 2 ^ k)) (sym (div-one n)) ∙ ap (λ (x : ℕ). (n / 2 ^ 0, 2 ^ x)) same

lowest_by : (r k n t : ℕ) → n % 2 ≡ r → lowest k (n / 2) ≡ without k (n / 2) t → lowest (suc k) n ≡ without (suc k) n (under r t)
unfolding lowest
lowest_by zero k n t e h = rw e (h ∙ halved k n t)
lowest_by (suc r) k n t e h = rw (ne_eqb (n % 2) 0 (λ z. omega (arith, e, z))) (none_off (suc k) n)

lowest_is : (k n : ℕ) → lowest k n ≡ without k n (count_trailing_zeros k n)
unfolding lowest count_trailing_zeros
lowest_is zero n = none_off 0 n
lowest_is (suc k) n = lowest_by (n % 2) k n (count_trailing_zeros k (n / 2)) refl (lowest_is k (n / 2))

-- the text of a share, from the zeros of its units, 32 at most
pub share_by_zeros : (units zeros : ℕ) → zeros ≡ min 32 (count_trailing_zeros 64 units)
    → share_text units ≡ decimal (units / 2 ^ zeros) ++ 47 ∷ decimal (2 ^ (32 - zeros))
share_by_zeros units zeros e =
    let is : lowest 32 units ≡ without 32 units zeros =
    lowest_is 32 units ∙ ap (without 32 units) (zeros_min 32 64 units (omega arith) ∙ sym e) in
    ap (λ (p : ℕ × ℕ). decimal p.0 ++ 47 ∷ decimal p.1) is

abbrev bottom_line : ℕ → List ℕ
bottom_line e = 47 ∷ (decimal (2 ^ e) ++ 10 ∷ [])

bottom_lines : bottoms ≡ map bottom_line (range_with_len 0 33)
unfolding digits
bottom_lines = refl

bottom_at : (e : ℕ) → e < 33 → slice_index_or bottoms e [] ≡ bottom_line e
bottom_at e few = ap (λ (t : List (List ℕ)). slice_index_or t e []) bottom_lines
    ∙ get_or-map-range_with_len bottom_line 0 33 e e [] few (omega arith)

-- what stands behind a row's name, from the parts of its share
pub tail_of : (units zeros : ℕ) (top bottom : List ℕ) → units < 2 ^ 64
    → share_text units ≡ decimal (units / 2 ^ zeros) ++ 47 ∷ decimal (2 ^ (32 - zeros)) → top ≡ decimal (units / 2 ^ zeros)
    → bottom ≡ slice_index_or bottoms (32 - zeros) [] → tail_text units ≡ 44 ∷ (top ++ bottom)
tail_of units zeros top bottom small text t b =
    let above : units / 2 ^ zeros < 2 ^ 64 = omega (arith, small, div-le_self units (2 ^ zeros)) in
    let most : 2 ^ (32 - zeros) ≤ 2 ^ 32 = pow_mono {i = 32 - zeros} {j = 32} (omega arith) in
    let below : 2 ^ (32 - zeros) < 2 ^ 64 = omega (arith, most) in
    let plain = plain_field (both_plain (plain_number (units / 2 ^ zeros) above)
    (both_plain (plain_word (47 ∷ []) refl) (plain_number (2 ^ (32 - zeros)) below))) in
    ap (λ (x : List ℕ). 44 ∷ (field_text row_writer x ++ 10 ∷ [])) text
    ∙ ap (λ (x : List ℕ). 44 ∷ (x ++ 10 ∷ [])) plain
    ∙ ap (λ (x : List ℕ). 44 ∷ x) (append_assoc (decimal (units / 2 ^ zeros)) (47 ∷ decimal (2 ^ (32 - zeros))) (10 ∷ []))
    ∙ (λ i. 44 ∷ (sym t i ++ sym (b ∙ bottom_at (32 - zeros) (omega arith)) i))
