-- The rows of a text, one after another.
use Rattle.std.proofs.Common.{◌≡◌, ◌<◌, ◌≤◌, ◌+◌, ℕ, zero, suc, List, [], ◌∷◌, ◌++◌, true, false, Option, Some, None, length, take, drop}
use Rattle.std.{proofs.Common.{get_or, refl, sym, ap, ◌∙◌, arith, append_assoc, take-append-drop, inl, inr}, specs.Prelude.{◌==◌, nat_lt}}
use Rattle.std.{specs.List.{list_any, position, position_or_len}, proofs.lemmas.List.{append-nil, drop_all, drop_more, take_all}}
use Rattle.std.proofs.lemmas.Bool.{cases_Bool, cond-true, cond-false, or_parts, or_right, Decides.{nat_tests}}
use Rattle.std.proofs.lemmas.List.{Quantifiers.{position-Some}, Sums.{fails_before_first}}
use Rattle.csv.specs.Records.{field_at}
use Rattle.title_journal.specs.Blocks.{line_feed}
use Rattle.title_daybook.specs.Lines.{has_line_feed, is_spoilt, last_line, lines_from, lines_of, IsFirstLine}

-- a row that has its line feed
pub lines_at : (start line rest : List ℕ) → has_line_feed line ≡ false
    → lines_from start (line ++ line_feed ∷ rest) ≡ (start ++ line) ∷ lines_of rest
lines_at start [] rest h = ap (λ (l : List ℕ). l ∷ lines_of rest) (sym (append-nil start))
lines_at start (b ∷ line) rest h =
    let parts = or_parts (b == line_feed) (has_line_feed line) h in
    cond-false (b == line_feed) _ _ parts.0 ∙ lines_at (start ++ b ∷ []) line rest parts.1
    ∙ ap (λ (l : List ℕ). l ∷ lines_of rest) (append_assoc start (b ∷ []) line)

-- the last one, which hasn't
lines_end : (start line : List ℕ) → has_line_feed line ≡ false → lines_from start line ≡ last_line (start ++ line)
lines_end start [] h = ap last_line (sym (append-nil start))
lines_end start (b ∷ line) h =
    let parts = or_parts (b == line_feed) (has_line_feed line) h in
    cond-false (b == line_feed) _ _ parts.0 ∙ lines_end (start ++ b ∷ []) line parts.1
    ∙ ap last_line (append_assoc start (b ∷ []) line)

-- some bytes have a row
abbrev pub SomeLine : List (List ℕ) → Type 0
SomeLine lines = (first : List ℕ) × (others : List (List ℕ)) × (lines ≡ first ∷ others)

left_over : (start : List ℕ) (b : ℕ) → SomeLine (last_line (start ++ b ∷ []))
left_over [] b = (_, _, refl)
left_over (a ∷ start) b = (_, _, refl)

some_from : (start bytes : List ℕ) (b : ℕ) → SomeLine (lines_from start (b ∷ bytes))
some_from start [] b = elim (cases_Bool (b == line_feed)) [
  | inl is ↦ (start, [], cond-true (b == line_feed) _ _ is)
  | inr isnt ↦ let left = left_over start b in (left.0, left.1, cond-false (b == line_feed) _ _ isnt ∙ left.2)
]
some_from start (c ∷ bytes) b = elim (cases_Bool (b == line_feed)) [
  | inl is ↦ (start, lines_of (c ∷ bytes), cond-true (b == line_feed) _ _ is)
  | inr isnt ↦ let more = some_from (start ++ b ∷ []) bytes c in (more.0, more.1, cond-false (b == line_feed) _ _ isnt ∙ more.2)
]

pub some_line : (bytes : List ℕ) → 0 < length bytes → SomeLine (lines_of bytes)
some_line [] h = absurd (omega arith)
some_line (b ∷ bytes) h = some_from [] bytes b

-- ---- where the first one ends

clear : (bytes : List ℕ) (i : ℕ) → ((k : ℕ) → k < i → (get_or bytes k 0 == line_feed) ≡ false) → has_line_feed (take i bytes) ≡ false
clear [] zero h = refl
clear [] (suc i) h = refl
clear (b ∷ bytes) zero h = refl
clear (b ∷ bytes) (suc i) h =
    let first : (b == line_feed) ≡ false = h 0 (omega arith) in
    let more = clear bytes i (λ k less. h (suc k) (omega arith)) in rw (first, more) refl

pub ends_there : (bytes : List ℕ) (len : ℕ) → position (λ b. b == line_feed) bytes ≡ Some len → IsFirstLine bytes len
ends_there bytes len e =
    let at = position-Some (λ b. b == line_feed) bytes len 0 e in
    let is : (get_or bytes len 0 == line_feed) ≡ true = at.1 in
    let feed : get_or bytes len 0 ≡ line_feed = grind (arith, nat_tests) in
    let row = clear bytes len at.2 in
    let whole : bytes ≡ take len bytes ++ line_feed ∷ drop (len + 1) bytes =
    sym (take-append-drop len bytes) ∙ ap (λ (l : List ℕ). take len bytes ++ l) (drop_more bytes len 0 at.0
    ∙ ap (λ (b : ℕ). b ∷ drop (len + 1) bytes) feed) in
    record {
      within = omega (arith, at.0);
      lines = ap lines_of whole ∙ lines_at [] (take len bytes) (drop (len + 1) bytes) row;
      row = row;
      feed = λ _. whole;
    }

none_left : (bytes : List ℕ) → position (λ b. b == line_feed) bytes ≡ None → has_line_feed bytes ≡ false
none_left bytes e = elim (cases_Bool (nat_lt (position_or_len (λ b. b == line_feed) bytes) (length bytes))) [
  | inl within ↦ absurd (let some : Some (position_or_len (λ b. b == line_feed) bytes) ≡ None = rw within at e in cc some)
  | inr past ↦
      let far : length bytes ≤ position_or_len (λ b. b == line_feed) bytes = grind (arith, nat_tests) in
      let all = clear bytes (length bytes)
      (λ k less. fails_before_first (λ b. b == line_feed) bytes k 0 (let before : k < position_or_len (λ b. b == line_feed) bytes =
      omega arith in before)) in
      rw (take_all (length bytes) bytes (omega arith)) at all
]

last_of : (bytes : List ℕ) → 0 < length bytes → last_line bytes ≡ bytes ∷ []
last_of [] h = absurd (omega arith)
last_of (b ∷ bytes) h = refl

pub ends_last : (bytes : List ℕ) → 0 < length bytes → position (λ b. b == line_feed) bytes ≡ None → IsFirstLine bytes (length bytes)
ends_last bytes some e =
    let row = none_left bytes e in
    let all = take_all (length bytes) bytes (omega arith) in
    let none = drop_all (length bytes + 1) bytes (omega arith) in
    record {
      within = omega arith;
      lines = rw (all, none) (lines_end [] bytes row ∙ last_of bytes some);
      row = rw all row;
      feed = λ more. absurd (omega (arith, more));
    }

-- ---- fields, one after another

-- no field so far has a line feed
pub next_clear : (fields : List (List ℕ)) (i : ℕ) (found : Option (List ℕ)) → found ≡ field_at fields i → is_spoilt found ≡ false
    → list_any has_line_feed (take i fields) ≡ false → list_any has_line_feed (take (suc i) fields) ≡ false
unfolding field_at
next_clear [] i found e clean h = refl
next_clear (f ∷ fields) zero found e clean h = let first = ap is_spoilt (sym e) ∙ clean in rw first refl
next_clear (f ∷ fields) (suc i) found e clean h =
    let parts = or_parts (has_line_feed f) (list_any has_line_feed (take i fields)) h in
    rw (parts.0, next_clear fields i found e clean parts.1) refl

pub spoilt_there : (fields : List (List ℕ)) (i : ℕ) (found : Option (List ℕ)) → found ≡ field_at fields i → is_spoilt found ≡ true
    → list_any has_line_feed fields ≡ true
unfolding field_at
spoilt_there [] i found e spoilt = let never : false ≡ true = ap is_spoilt (sym e) ∙ spoilt in cc never
spoilt_there (f ∷ fields) zero found e spoilt = let first = ap is_spoilt (sym e) ∙ spoilt in rw first refl
spoilt_there (f ∷ fields) (suc i) found e spoilt = let more = spoilt_there fields i found e spoilt in or_right (has_line_feed f)
    (list_any has_line_feed fields) more
