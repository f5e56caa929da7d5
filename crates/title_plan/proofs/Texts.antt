-- Fields and their texts.
use Rattle.std.{proofs.Common.{◌≡◌, ◌≢◌, ◌<◌, ◌≤◌, ◌^◌, ◌∷◌, [], refl, ap, ℕ, zero, suc, List, Option, None, Some}, specs.Borrow.{Bor}}
use Rattle.std.{proofs.Common.{cond, option_map, arith, nat_le, inl, inr}, specs.{Iterator.{AlwaysYields}, Option.{unwrap_or}}}
use Rattle.std.{specs.{Str.{Iter.{split_steps}, Pattern.{FindsChar}}, declared.str.Split.{Split}}, proofs.lemmas.Bool.{cases_Bool, ne_eqb}}
use Rattle.csv.specs.Records.{field_at}
use Rattle.title_share.specs.{Share.{IsNumber}, Texts.{number_in}, Laws.Texts.{numbers_read}}
use Rattle.title_instrument.specs.{declared.parts.Estate.{Estate, TheVariants.{S, O, M}}, Estates.{letter_of}}
use Rattle.title_plan.specs.Fields.{field, given, number_up_to, quantum_in, with_item, with_items}

-- the field of this number, or an empty one
pub field_is : (fields : List (List ℕ)) (i : ℕ) (found : Option (Bor (List ℕ))) (none : Bor (List ℕ)) → none.now ≡ []
    → option_map (λ text. text.now) found ≡ field_at fields i → (unwrap_or found none).now ≡ field fields i
unfolding field_at
field_is [] i None none empty e = empty
field_is [] i (Some text) none empty e = absurd (cc e)
field_is (f ∷ fields) zero None none empty e = absurd (cc e)
field_is (f ∷ fields) zero (Some text) none empty e = cc e
field_is (f ∷ fields) (suc i) found none empty e = field_is fields i found none empty e

-- a text that begins with the letter of no estate
pub no_letter : (text : List ℕ) → ((rest : List ℕ) → text ≢ 83 ∷ rest) → ((rest : List ℕ) → text ≢ 79 ∷ rest)
    → ((rest : List ℕ) → text ≢ 77 ∷ rest) → (e : Estate) (rest : List ℕ) → text ≡ letter_of e ∷ rest → ⊥
no_letter text s o m S rest is = s rest is
no_letter text s o m O rest is = o rest is
no_letter text s o m M rest is = m rest is

-- it is no item
pub no_item : (reserve : List (Option ℕ)) (text : List ℕ) → ((e : Estate) (rest : List ℕ) → text ≡ letter_of e ∷ rest → ⊥)
    → None ≡ with_item reserve text
no_item reserve [] none = refl
no_item reserve (letter ∷ share) none =
    let differ : (e : Estate) → letter ≢ letter_of e = λ e same. none e share (ap (λ (b : ℕ). b ∷ share) same) in
    rw (ne_eqb letter _ (differ S), ne_eqb letter _ (differ O), ne_eqb letter _ (differ M)) refl

-- a text that begins with neither letter of a quantum
pub no_quantum : (text : List ℕ) → ((rest : List ℕ) → text ≢ 87 ∷ rest) → ((rest : List ℕ) → text ≢ 73 ∷ rest) → None ≡ quantum_in text
no_quantum [] whole interest = refl
no_quantum (letter ∷ share) whole interest =
    let w : letter ≢ 87 = λ same. whole share (ap (λ (b : ℕ). b ∷ share) same) in
    let i : letter ≢ 73 = λ same. interest share (ap (λ (b : ℕ). b ∷ share) same) in
    rw (ne_eqb letter 87 w, ne_eqb letter 73 i) refl

-- ---- numbers

-- a text that writes n
pub number_is : (greatest n : ℕ) (text : List ℕ) → IsNumber text n → number_up_to greatest text ≡ cond (nat_le n greatest) (Some n) None
number_is greatest n text h = rw ((numbers_read text n).1 h) refl

no_number_by : (greatest : ℕ) (text : List ℕ) → greatest < 2 ^ 64 → ((n : ℕ) → n < 2 ^ 64 → IsNumber text n → ⊥) → (read : Option ℕ)
    → number_in text ≡ read → None ≡ given read (λ n. cond (nat_le n greatest) (Some n) None)
no_number_by greatest text fits none None e = refl
no_number_by greatest text fits none (Some n) e = elim (cases_Bool (nat_le n greatest)) [
  | inl within ↦ absurd (none n (let le : n ≤ greatest = grind arith in omega arith) ((numbers_read text n).0 e))
  | inr over ↦ rw over refl
]

-- a text that writes no number that fits
pub no_number : (greatest : ℕ) (text : List ℕ) → greatest < 2 ^ 64 → ((n : ℕ) → n < 2 ^ 64 → IsNumber text n → ⊥)
    → None ≡ number_up_to greatest text
no_number greatest text fits none = no_number_by greatest text fits none (number_in text) refl

-- ---- reserves

-- the items of a text are given in turn
abbrev pub Gives : Split ℕ → List (List ℕ) → Type 0
Gives s items = AlwaysYields (split_steps FindsChar (λ a b. b ≡ a)) (λ item. item.now) s items

-- an item is taken from those that are left
pub one_item : (reserve : List (Option ℕ)) (left : List (List ℕ)) (all : Option (List (Option ℕ))) (s t : Split ℕ) (item : Bor (List ℕ))
    → Gives s left → split_steps FindsChar (λ a b. b ≡ a) s (Some item) t → with_items reserve left ≡ all
    → (more : List (List ℕ)) × Gives t more × (given (with_item reserve item.now) (λ r. with_items r more) ≡ all)
one_item reserve [] all s t item gives step e = absurd (gives item t step)
one_item reserve (i ∷ left) all s t item gives step e = let next = gives.1 item t step in (left, next.1, rw next.0 e)

-- no item is left
pub no_more : (reserve : List (Option ℕ)) (left : List (List ℕ)) (all : Option (List (Option ℕ))) (s t : Split ℕ)
    → Gives s left → split_steps FindsChar (λ a b. b ≡ a) s None t → with_items reserve left ≡ all → Some reserve ≡ all
no_more reserve [] all s t gives step e = e
no_more reserve (i ∷ left) all s t gives step e = absurd (gives.0 t step)
