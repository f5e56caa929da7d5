-- The fields of a post are read back.
use Rattle.std.proofs.Common.{◌≡◌, ◌∙◌, ℕ, ◌<◌, ◌≤◌, ◌^◌, ◌==◌, Bool, true, false, List, [], ◌∷◌, ◌++◌, length, get_or, refl, ap, arith}
use Rattle.std.{proofs.Common.{append_assoc, Option, Some, None, nat_le}, specs.{Prelude.{option_map}, Fmt.{decimal}}}
use Rattle.std.{specs.List.{All, slice_split}, proofs.lemmas.{Bool.{ne_eqb, le-leb, cond-true}, Fmt.{decimal_is_IsNumeral, first_decimal}}}
use Rattle.std.proofs.lemmas.List.{Elements.{All-append, All-cons, All-from_get_or}, Splits.{slice_split_at, slice_split_none}}
use Rattle.std.proofs.lemmas.Str.Parse.{not_in_digits, numerals_by_value, tells_digits}
use Rattle.title_share.specs.{Share.{share_text, IsNumber}, Texts.{share_in}, Laws.ShareLaws.{text_named}}
use Rattle.title_share.specs.Laws.Texts.{numbers_read, shares_read}
use Rattle.title_instrument.specs.declared.{kind.Kind.{Kind}, parts.{Estate.{Estate, TheVariants.{S, O, M}}, Estates.{Estates}}}
use Rattle.title_instrument.specs.{declared.parts.Quantum.{Quantum}, Estates.{estates_text, letter_of, names_none}}
use Rattle.title_instrument.specs.Kinds.{deed_kind, kind_in, kind_word}
use Rattle.title_instrument.specs.declared.kind.Kind.TheVariants as kind
use Rattle.title_instrument.specs.declared.parts.Quantum.TheVariants as quantum
use Rattle.title_plan.specs.Fields.{document_in, estates_in, examiner_in, given, is_name, is_semicolon, name_in, nothing_reserved}
use Rattle.title_plan.specs.{Fields.{number_up_to, quantum_in, reserve_in, reserving, with_item, with_items}, Rows.{warranty_of}}
use Rattle.title_spelling.specs.Posts.{item_text, quantum_text, reserve_text, IsExaminer, IsQuantum, IsReserve, IsReserved, IsShare}

-- ---- numbers and shares

printed_number : (n : ℕ) → 0 < n → n < 2 ^ 64 → IsNumber (decimal n) n
printed_number n some low =
    let is = decimal_is_IsNumeral n low in
    let first = first_decimal n some low in
    record { digits = is.0; leading = (λ zero_first. let e : get_or (decimal n) 0 0 ≡ 48 = zero_first in omega arith); value = is.1 }

number_read : (greatest n : ℕ) → 0 < n → n ≤ greatest → greatest < 2 ^ 64 → number_up_to greatest (decimal n) ≡ Some n
number_read greatest n some most fits =
    rw ((numbers_read (decimal n) n).1 (printed_number n some (omega arith)))
    (cond-true (nat_le n greatest) (Some n) None (le-leb n greatest most))

pub examiner_read : (e : ℕ) → IsExaminer e → examiner_in (decimal e) ≡ Some e
examiner_read e h = number_read 9999 e h.0 h.1 (omega arith)

pub document_read : (doc : ℕ) → 0 < doc → doc ≤ 999999999999 → document_in (decimal doc) ≡ Some doc
document_read doc some most = number_read 999999999999 doc some most (omega arith)

share_read : (units : ℕ) → IsShare units → share_in (share_text units) ≡ Some units
share_read units h = (shares_read (share_text units) units).1 (text_named units h.0 h.1)

-- ---- words

pub kind_read : (k : Kind) → kind_in (kind_word k) ≡ Some k
kind_read kind.Deed = refl
kind_read kind.Warranty = refl
kind_read kind.Release = refl

pub warranty_read : (w : Bool) → warranty_of (deed_kind w) ≡ Some w
warranty_read false = refl
warranty_read true = refl

pub name_read : (name : List ℕ) → is_name name ≡ true → name_in name ≡ Some name
name_read name h = cond-true (is_name name) (Some name) None h

letters_read : (s o m : Bool) → names_none (record { s = s; o = o; m = m }) ≡ false
    → estates_in (estates_text (record { s = s; o = o; m = m })) ≡ Some (record { s = s; o = o; m = m })
letters_read true true true h = refl
letters_read true true false h = refl
letters_read true false true h = refl
letters_read true false false h = refl
letters_read false true true h = refl
letters_read false true false h = refl
letters_read false false true h = refl
letters_read false false false h = cc h

pub estates_read : (e : Estates) → names_none e ≡ false → estates_in (estates_text e) ≡ Some e
estates_read e h = letters_read e.s e.o e.m h

-- ---- quanta

pub quantum_read : (q : Quantum) → IsQuantum q → quantum_in (quantum_text q) ≡ Some q
quantum_read (quantum.Whole share) h = ap (option_map quantum.Whole) (share_read share h)
quantum_read (quantum.Interest share) h = ap (option_map quantum.Interest) (share_read share h)

-- ---- reserves

abbrev unsplit : ℕ → Type 0
unsplit b = is_semicolon b ≡ false

abbrev Unsplit : List ℕ → Type 0
Unsplit text = All unsplit text

-- a number has no `;`
number_unsplit : (text : List ℕ) (n : ℕ) → IsNumber text n → Unsplit text
number_unsplit text n h = All-from_get_or unsplit text 0 (λ i low.
    ne_eqb (get_or text i 0) 59
    (not_in_digits (numerals_by_value _ tells_digits) text 59 h.digits.1 (λ range. let most : 59 ≤ 57 = range.1 in omega arith) i low))

letter_unsplit : (e : Estate) → is_semicolon (letter_of e) ≡ false
letter_unsplit S = refl
letter_unsplit O = refl
letter_unsplit M = refl

-- nor has an item
item_unsplit : (e : Estate) (units : ℕ) → IsShare units → Unsplit (item_text e units)
item_unsplit e units h =
    let named = text_named units h.0 h.1 in
    let share : Unsplit (share_text units) =
    rw named.joined (All-append unsplit named.top (47 ∷ named.bottom) (number_unsplit named.top named.a named.top_is)
    (All-cons unsplit 47 named.bottom refl (number_unsplit named.bottom named.b named.bottom_is))) in
    All-cons unsplit (letter_of e) (share_text units) (letter_unsplit e) share

-- an item is read
item_read : (reserve : List (Option ℕ)) (e : Estate) (units : ℕ) → IsShare units
    → with_item reserve (item_text e units) ≡ reserving reserve e units
item_read reserve S units h = rw (share_read units h) refl
item_read reserve O units h = rw (share_read units h) refl
item_read reserve M units h = rw (share_read units h) refl

-- and those behind it
items_read : (reserve next : List (Option ℕ)) (item : List ℕ) (items : List (List ℕ)) → with_item reserve item ≡ Some next
    → with_items reserve (item ∷ items) ≡ with_items next items
items_read reserve next item items e = ap (λ (r : Option (List (Option ℕ))). given r (λ s. with_items s items)) e

-- a text that isn't empty is read by its items
some_text : (b : ℕ) (text : List ℕ) (items : List (List ℕ)) → slice_split is_semicolon (b ∷ text) ≡ items
    → reserve_in (b ∷ text) ≡ with_items nothing_reserved items
some_text b text items e =
    let some : (length (b ∷ text) == 0) ≡ false = ne_eqb (length (b ∷ text)) 0 (λ z. cc z) in
    rw (some, e) refl

one_item : (e : Estate) (a : ℕ) → IsShare a → slice_split is_semicolon (item_text e a) ≡ item_text e a ∷ []
one_item e a h = slice_split_none is_semicolon (item_text e a) (item_unsplit e a h)

more_items : (e : Estate) (a : ℕ) (rest : List ℕ) (items : List (List ℕ)) → IsShare a → slice_split is_semicolon rest ≡ items
    → slice_split is_semicolon (item_text e a ++ 59 ∷ rest) ≡ item_text e a ∷ items
more_items e a rest items h split =
    slice_split_at is_semicolon (item_text e a) 59 rest (item_unsplit e a h) refl ∙ ap (λ (t : List (List ℕ)). item_text e a ∷ t) split

abbrev of_three : Option ℕ → Option ℕ → Option ℕ → List (Option ℕ)
of_three s o m = s ∷ o ∷ m ∷ []

three_read : (s o m : Option ℕ) → IsReserved s → IsReserved o → IsReserved m
    → reserve_in (reserve_text (of_three s o m)) ≡ Some (of_three s o m)
three_read None None None hs ho hm = refl
three_read (Some a) None None hs ho hm =
    some_text 83 (share_text a) (item_text S a ∷ [])
    (one_item S a hs)
    ∙ items_read nothing_reserved (of_three (Some a) None None) (item_text S a) []
    (item_read nothing_reserved S a hs)
three_read None (Some b) None hs ho hm =
    some_text 79 (share_text b) (item_text O b ∷ [])
    (one_item O b ho)
    ∙ items_read nothing_reserved (of_three None (Some b) None) (item_text O b) []
    (item_read nothing_reserved O b ho)
three_read None None (Some c) hs ho hm =
    some_text 77 (share_text c) (item_text M c ∷ [])
    (one_item M c hm)
    ∙ items_read nothing_reserved (of_three None None (Some c)) (item_text M c) []
    (item_read nothing_reserved M c hm)
three_read (Some a) (Some b) None hs ho hm =
    some_text 83 (share_text a ++ 59 ∷ item_text O b) (item_text S a ∷ item_text O b ∷ [])
    (more_items S a (item_text O b) (item_text O b ∷ []) hs (one_item O b ho))
    ∙ items_read nothing_reserved (of_three (Some a) None None) (item_text S a) (item_text O b ∷ [])
    (item_read nothing_reserved S a hs)
    ∙ items_read (of_three (Some a) None None) (of_three (Some a) (Some b) None) (item_text O b) []
    (item_read (of_three (Some a) None None) O b ho)
three_read (Some a) None (Some c) hs ho hm =
    some_text 83 (share_text a ++ 59 ∷ item_text M c) (item_text S a ∷ item_text M c ∷ [])
    (more_items S a (item_text M c) (item_text M c ∷ []) hs (one_item M c hm))
    ∙ items_read nothing_reserved (of_three (Some a) None None) (item_text S a) (item_text M c ∷ [])
    (item_read nothing_reserved S a hs)
    ∙ items_read (of_three (Some a) None None) (of_three (Some a) None (Some c)) (item_text M c) []
    (item_read (of_three (Some a) None None) M c hm)
three_read None (Some b) (Some c) hs ho hm =
    some_text 79 (share_text b ++ 59 ∷ item_text M c) (item_text O b ∷ item_text M c ∷ [])
    (more_items O b (item_text M c) (item_text M c ∷ []) ho (one_item M c hm))
    ∙ items_read nothing_reserved (of_three None (Some b) None) (item_text O b) (item_text M c ∷ [])
    (item_read nothing_reserved O b ho)
    ∙ items_read (of_three None (Some b) None) (of_three None (Some b) (Some c)) (item_text M c) []
    (item_read (of_three None (Some b) None) M c hm)
three_read (Some a) (Some b) (Some c) hs ho hm =
    ap reserve_in (append_assoc (item_text S a) (59 ∷ item_text O b) (59 ∷ item_text M c))
    ∙ some_text 83 (share_text a ++ 59 ∷ (item_text O b ++ 59 ∷ item_text M c)) (item_text S a ∷ item_text O b ∷ item_text M c ∷ [])
    (more_items S a (item_text O b ++ 59 ∷ item_text M c) (item_text O b ∷ item_text M c ∷ []) hs
    (more_items O b (item_text M c) (item_text M c ∷ []) ho (one_item M c hm)))
    ∙ items_read nothing_reserved (of_three (Some a) None None) (item_text S a) (item_text O b ∷ item_text M c ∷ [])
    (item_read nothing_reserved S a hs)
    ∙ items_read (of_three (Some a) None None) (of_three (Some a) (Some b) None) (item_text O b) (item_text M c ∷ [])
    (item_read (of_three (Some a) None None) O b ho)
    ∙ items_read (of_three (Some a) (Some b) None) (of_three (Some a) (Some b) (Some c)) (item_text M c) []
    (item_read (of_three (Some a) (Some b) None) M c hm)

pub reserve_read : (reserve : List (Option ℕ)) → IsReserve reserve → reserve_in (reserve_text reserve) ≡ Some reserve
reserve_read (s ∷ o ∷ m ∷ []) h = three_read s o m h.0 h.1 h.2
reserve_read [] h = absurd h
reserve_read (s ∷ []) h = absurd h
reserve_read (s ∷ o ∷ []) h = absurd h
reserve_read (s ∷ o ∷ m ∷ n ∷ rest) h = absurd h
