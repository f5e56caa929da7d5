-- The text of a section, with more letters behind it, is no description.
use Rattle.std.proofs.Common.{◌≡◌, ◌∙◌, ℕ, zero, suc, ◌<◌, Bool, true, false, List, [], ◌∷◌, ◌++◌, map, filter, cond, refl, sym, ap, arith}
use Rattle.std.specs.{Prelude.{codes, nat_lt, not}, List.{list_all}, Char.{to_ascii_lowercase}, Fmt.{decimal}, Str.{chars, IsAscii}}
use Rattle.std.proofs.lemmas.{Bool.{and_parts, ltb-true}, Fmt.{IsAscii-decimal}, List.{append-nil, map-append, Elements.{filter-append}}}
use Rattle.std.proofs.lemmas.Str.{chars-append, IsAscii-append, IsUtf8-from_ascii, Ascii.{IsAscii-nil}}
use Rattle.title_land.specs.{declared.survey.{Section.{Section}, Township.{Township}}, Texts.{section_text, township_text}}
use Rattle.title_grammar.specs.Reading.{Got}
use Rattle.title_aliquot.specs.{Describes.{Says}, Grammar.{Syntax, Description}, Letters.{letters, passed_over}}
use Rattle.title_aliquot.specs.Laws.Grammar.{description_exact}

-- ---- its bytes are ASCII

-- a text of ASCII bytes
record Ascii (s : List ℕ) : Type 0 where
  is : IsAscii s

both : {s t : List ℕ} → Ascii s → Ascii t → Ascii (s ++ t)
both {s} {t} h k = record { is = IsAscii-append s t h.is k.is }

letter_ascii : (b : ℕ) → b < 128 → IsAscii (b ∷ [])
letter_ascii b h zero = h
letter_ascii b h (suc i) = omega arith

-- a word of ASCII letters
word : (s : List ℕ) → list_all (λ b. nat_lt b 128) s ≡ true → Ascii s
word [] h = record { is = IsAscii-nil }
word (b ∷ s) h =
    let k = and_parts (nat_lt b 128) (list_all (λ b. nat_lt b 128) s) h in
    both {s = b ∷ []} {t = s} (record { is = letter_ascii b (ltb-true b 128 k.0) }) (word s k.1)

flag : (b : Bool) (x y : List ℕ) → Ascii x → Ascii y → Ascii (cond b x y)
flag true x y h k = h
flag false x y h k = k

number : (n : ℕ) → n < 100 → Ascii (decimal n)
number n h = record { is = IsAscii-decimal n (omega arith) }

township_ascii : (t : Township) → Ascii (township_text t)
township_ascii t =
    let n : t.number < 100 = omega arith in
    let r : t.range < 100 = omega arith in
    let side = flag t.north (codes "N") (codes "S") (word (codes "N") refl) (word (codes "S") refl) in
    let hand = flag t.east (codes "E") (codes "W") (word (codes "E") refl) (word (codes "W") refl) in
    both (both (both (both (both (word (codes "T") refl) (number t.number n)) side) (word (codes " R") refl)) (number t.range r)) hand

pub section_ascii : (s : Section) → IsAscii (section_text s)
section_ascii s =
    let n : s.number < 100 = omega arith in
    let whole : Ascii (section_text s) = both (both (township_ascii s.township) (word (codes " sec ") refl)) (number s.number n) in
    whole.is

-- ---- its letters, and those behind

letters-append : (xs ys : List ℕ) → letters (xs ++ ys) ≡ letters xs ++ letters ys
letters-append xs ys =
    ap (λ (z : List ℕ). map to_ascii_lowercase z) (filter-append (λ c. not (passed_over c)) xs ys)
    ∙ map-append to_ascii_lowercase (filter (λ c. not (passed_over c)) xs) (filter (λ c. not (passed_over c)) ys)

-- the word cells behind a text begins with a c
cells_letters : (rows : List ℕ) → (rest : List ℕ) × (letters (chars (codes " cells" ++ rows)) ≡ 99 ∷ rest)
unfolding chars
cells_letters [] = (_, refl)
cells_letters (b ∷ rows) = (_, refl)

got_all : (v w : Syntax) (c : ℕ) (rest : List ℕ) → Got v (c ∷ rest) ≡ Got w [] → ⊥
got_all v w c rest e = cc

-- no description goes on with a c
no_more : (v w : Syntax) (p rest : List ℕ) → Description v p → Description w (p ++ 99 ∷ rest) → ⊥
no_more v w p rest h k =
    let one = description_exact.complete v p (99 ∷ rest) h refl in
    let all = rw (append-nil (p ++ 99 ∷ rest)) at (description_exact.complete w (p ++ 99 ∷ rest) [] k refl) in
    got_all v w 99 rest (sym one ∙ all)

pub no_cells : (s : Section) (rows : List ℕ) (v w : Syntax) → Says (section_text s) v
    → Says (section_text s ++ (codes " cells" ++ rows)) w → ⊥
no_cells s rows v w h k =
    let back = cells_letters rows in
    let split = ap letters (chars-append (section_text s) (codes " cells" ++ rows) (IsUtf8-from_ascii (section_text s) (section_ascii s)))
    ∙ letters-append (chars (section_text s)) (chars (codes " cells" ++ rows))
    ∙ ap (λ (z : List ℕ). letters (chars (section_text s)) ++ z) back.1 in
    no_more v w (letters (chars (section_text s))) back.0 h.spells (rw split at k.spells)
