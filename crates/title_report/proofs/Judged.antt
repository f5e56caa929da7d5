-- Words of bits, one for each name.
use Rattle.std.proofs.Common.{◌≡◌, ◌∙◌, ◌≢◌, ◌<◌, ◌≤◌, ◌+◌, ◌*◌, ◌%◌, ◌^◌, ◌++◌, ◌∷◌, [], ℕ, List, Bool, true, false, inl, inr, ap, arith}
use Rattle.std.{proofs.Common.{below_more, drop, get_or, length, refl, subst, sym}, specs.Prelude.{◌==◌, bit_or, max}}
use Rattle.std.{proofs.lemmas.List.{get_or_append_left, get_or_past, get_or_push, length_push}, specs.Int.{bit_at, from_bool, w64}}
use Rattle.std.proofs.lemmas.{Nat.Bits.{bit_at-zero, bit_at_or, bit_at_set_other, bit_at_set_same}, Bool.{cases_lt}}
use Rattle.csv.specs.Writing.{needs_quotes}
use Rattle.title_page.specs.Rows.{row_writer}
use Rattle.title_report.specs.{Replies.{name_of}, Rosters.{AreJudged, IsJudged}}

-- a word with a test's bit
abbrev pub with_bit : ℕ → ℕ → Bool → ℕ
with_bit word at b = bit_or word (from_bool b * 2 ^ at % 2 ^ 64)

nothing_added : (word at i : ℕ) → bit_at (with_bit word at false) i ≡ bit_at word i
nothing_added word at i =
    let nothing : 0 * 2 ^ at % 2 ^ 64 ≡ 0 = omega arith in
    let most : max (bit_at word i) (bit_at 0 i) ≡ bit_at word i = omega (arith, bit_at-zero i) in
    ap (λ (x : ℕ). bit_at (bit_or word x) i) nothing ∙ bit_at_or word 0 i ∙ most

bit_other : (word at i : ℕ) (b : Bool) → at < 64 → i ≢ at → bit_at (with_bit word at b) i ≡ bit_at word i
bit_other word at i true lt ne = bit_at_set_other w64 word at lt i ne
bit_other word at i false lt ne = nothing_added word at i

bit_here : (word at : ℕ) (b : Bool) → at < 64 → bit_at word at ≡ 0 → (bit_at (with_bit word at b) at == 1) ≡ b
bit_here word at true lt none = ap (λ (x : ℕ). x == 1) (bit_at_set_same w64 word at lt)
bit_here word at false lt none = ap (λ (x : ℕ). x == 1) (nothing_added word at at ∙ none)

-- the bits of the names before an index, and no other
pub record HasBits (names : List (List ℕ)) (word at : ℕ) : Type 0 where
  pub known : (i : ℕ) → i < at → (bit_at word i == 1) ≡ needs_quotes row_writer (name_of names i)
  pub none : (i : ℕ) → at ≤ i → bit_at word i ≡ 0

-- no bit of none
pub no_bits : (names : List (List ℕ)) → HasBits names 0 0
no_bits names = record { known = λ i l. absurd (omega (arith, l)); none = λ i l. bit_at-zero i }

-- one bit more
pub one_bit_more : (names : List (List ℕ)) (word at : ℕ) (b : Bool) → at < 64 → b ≡ needs_quotes row_writer (name_of names at)
    → HasBits names word at → HasBits names (with_bit word at b) (at + 1)
one_bit_more names word at b lt is h = record {
  known = below_more (λ i. (bit_at (with_bit word at b) i == 1) ≡ needs_quotes row_writer (name_of names i)) at
      (λ i l. ap (λ (x : ℕ). x == 1) (bit_other word at i b lt (λ e. omega (arith, l, e))) ∙ h.known i l)
      (bit_here word at b lt (h.none at (omega arith)) ∙ is);
  none = λ i l. bit_other word at i b lt (λ e. omega (arith, l, e)) ∙ h.none i (omega (arith, l));
}

-- the bits of the first 64 names, or of all
pub word_judged : (names : List (List ℕ)) (word at : ℕ) → HasBits names word at → ((i : ℕ) → at ≤ i → i < 64 → length names ≤ i)
    → IsJudged names word
word_judged names word at h rest i lt = elim (cases_lt i at) [
  | inl l ↦ h.known i l
  | inr g ↦ ap (λ (x : ℕ). x == 1) (h.none i g)
      ∙ sym (ap (λ (name : List ℕ). needs_quotes row_writer name) (get_or_past names i [] (rest i g lt)))
]

-- one word more
pub one_word_more : (names : List (List ℕ)) (words : List ℕ) (word : ℕ) → AreJudged names words
    → IsJudged (drop (length words * 64) names) word → AreJudged names (words ++ word ∷ [])
one_word_more names words word h is k lt = below_more (λ k. IsJudged (drop (k * 64) names) (get_or (words ++ word ∷ []) k 0)) (length words)
    (λ k l. subst (λ (w : ℕ). IsJudged (drop (k * 64) names) w) (sym (get_or_append_left words (word ∷ []) 0 k l)) (h k l))
    (subst (λ (w : ℕ). IsJudged (drop (length words * 64) names) w) (sym (get_or_push words word 0 (length words) refl)) is)
    k (omega (arith, lt, length_push words word))
