-- Lines as what they count as at a look: served as a text they are these lines.
use Rattle.std.proofs.Common.{◌≡◌, ◌∙◌, ◌==◌, ◌+◌, ◌++◌, ◌∷◌, ◌<◌, ◌≤◌, [], refl, sym, ap, inl, inr, ℕ, Bool, true, false, List}
use Rattle.std.proofs.Common.{append_assoc, arith, codes, cond, get_or, length, length-append, map, nat_le, take, Result, Ok, Err, OnOk}
use Rattle.std.proofs.lemmas.{Bool.{cases_Bool, leb-true, ne_eqb, or_from, or_parts, Decides.{nat_tests}}, List.Folds.{list_any-append}}
use Rattle.std.{proofs.lemmas.List.{append-nil, map-append}, specs.{Prelude.{is_some}, List.{AllByRecursion, list_any}}}
use Rattle.title_counter.specs.{Limits.{longest_line}, Lines.{Lines, and_lines, last_line, line_feed, lines_from, with_byte}}
use Rattle.title_counter.specs.Laws.LineLaws.{joined_lines, lines_more, whole_to}
use Rattle.title_lasting.specs.LookRows.{other_in}
use Rattle.title_kept_desk.specs.LookLines.{IsStart, as_look, lines_text, nothing_said}

-- ---- lines that begin

pub no_start : IsStart []
no_start = record { whole = refl; short = omega arith }

start_more : (line : List ℕ) (byte : ℕ) → IsStart line → (byte == line_feed) ≡ false → IsStart (with_byte line byte)
start_more line byte h other = elim (cases_Bool (nat_le (length line) longest_line)) [
  | inl few ↦ rw few (record {
    whole = list_any-append (λ byte. byte == line_feed) line (byte ∷ []) ∙ or_from _ _ h.whole (rw other refl);
    short = omega (arith, leb-true (length line) longest_line few, length-append line (byte ∷ []));
  })
  | inr many ↦ rw many h
]

-- so are the lines of bytes, of which the first has begun
pub starts_on : (line bytes : List ℕ) → IsStart line
    → AllByRecursion IsStart (lines_from line bytes).whole × IsStart (lines_from line bytes).rest
starts_on line [] h = (tt, h)
starts_on line (byte ∷ bytes) h = elim (cases_Bool (byte == line_feed)) [
  | inl feed ↦
      let rest = starts_on [] bytes no_start in
      rw feed ((h, rest.0), rest.1)
  | inr other ↦ rw other (starts_on (with_byte line byte) bytes (start_more line byte h other))
]

either_start : (b : Bool) (line : List ℕ) → IsStart line → IsStart (cond b nothing_said line)
either_start true line h =
    let one : length nothing_said ≡ 1 = refl in
    record { whole = refl; short = omega (arith, one) }
either_start false line h = h

-- and what they count as
look_start : (line : List ℕ) → IsStart line → IsStart (as_look line)
look_start [] h = h
look_start (byte ∷ bytes) h = either_start (is_some (other_in ((byte ∷ bytes) ++ line_feed ∷ []))) (byte ∷ bytes) h

looks_start : (lines : List (List ℕ)) → AllByRecursion IsStart lines → AllByRecursion IsStart (map as_look lines)
looks_start [] h = tt
looks_start (line ∷ lines) h = (look_start line h.0, looks_start lines h.1)

-- ---- the lines of their text

-- a line that ends
one_line : (start line : List ℕ) → list_any (λ byte. byte == line_feed) line ≡ false → length start + length line ≤ longest_line + 1
    → lines_from start (line ++ line_feed ∷ []) ≡ record { whole = (start ++ line) ∷ []; rest = [] }
one_line start [] whole short = ap (λ (s : List ℕ). record { whole = s ∷ []; rest = [] }) (sym (append-nil start))
one_line start (byte ∷ bytes) whole short =
    let parts = or_parts (byte == line_feed) (list_any (λ byte. byte == line_feed) bytes) whole in
    let few : nat_le (length start) longest_line ≡ true = grind (arith, nat_tests) in
    rw (parts.0, few) (one_line (start ++ byte ∷ []) bytes parts.1 (omega (arith, short, length-append start (byte ∷ [])))
    ∙ ap (λ (s : List ℕ). record { whole = s ∷ []; rest = [] }) (append_assoc start (byte ∷ []) bytes))

lines_of : (lines : List (List ℕ)) → AllByRecursion IsStart lines → lines_from [] (lines_text lines) ≡ record { whole = lines; rest = [] }
lines_of [] h = refl
lines_of (line ∷ lines) h =
    lines_more [] (line ++ line_feed ∷ []) (lines_text lines)
    ∙ ap (λ (l : Lines). joined_lines l (lines_text lines)) (one_line [] line h.0.whole (omega (arith, h.0.short)))
    ∙ ap (and_lines line) (lines_of lines h.1)

-- the lines of bytes as what they count as
pub looks_of : (line bytes : List ℕ) → IsStart line → lines_from [] (lines_text (map as_look (lines_from line bytes).whole))
    ≡ record { whole = map as_look (lines_from line bytes).whole; rest = [] }
looks_of line bytes h =
    lines_of (map as_look (lines_from line bytes).whole) (looks_start (lines_from line bytes).whole (starts_on line bytes h).0)

-- the lines of a text that was made of them
pub whole_of : (line bytes looks : List ℕ) → looks ≡ lines_text (map as_look (lines_from line bytes).whole) → IsStart line
    → (lines_from [] looks).whole ≡ map as_look (lines_from line bytes).whole
whole_of line bytes looks is h =
    ap (λ (text : List ℕ). (lines_from [] text).whole) is ∙ ap (λ (l : Lines). l.whole) (looks_of line bytes h)

-- and the last line
look_of_last : (line : List ℕ) → IsStart line → lines_from [] (lines_text (map as_look (last_line line)))
    ≡ record { whole = map as_look (last_line line); rest = [] }
look_of_last [] h = refl
look_of_last (byte ∷ bytes) h = lines_of (as_look (byte ∷ bytes) ∷ []) (look_start (byte ∷ bytes) h, tt)

pub last_of : (line looks : List ℕ) → looks ≡ lines_text (map as_look (last_line line)) → IsStart line
    → (lines_from [] looks).whole ≡ map as_look (last_line line)
last_of line looks is h =
    ap (λ (text : List ℕ). (lines_from [] text).whole) is ∙ ap (λ (l : Lines). l.whole) (look_of_last line h)

-- ---- no more bytes than were given

either_less : (b : Bool) (byte : ℕ) (bytes : List ℕ) → length (cond b nothing_said (byte ∷ bytes)) ≤ length (byte ∷ bytes)
either_less true byte bytes =
    let one : length nothing_said ≡ 1 = refl in
    let more : length (byte ∷ bytes) ≡ length bytes + 1 = omega arith in
    omega (arith, one, more)
either_less false byte bytes = omega arith

no_longer : (line : List ℕ) → length (as_look line) ≤ length line
no_longer [] = omega arith
no_longer (byte ∷ bytes) = either_less (is_some (other_in ((byte ∷ bytes) ++ line_feed ∷ []))) byte bytes

byte_more : (line : List ℕ) (byte : ℕ) → length (with_byte line byte) ≤ length line + 1
byte_more line byte = elim (cases_Bool (nat_le (length line) longest_line)) [
  | inl few ↦ rw few (omega (arith, length-append line (byte ∷ [])))
  | inr many ↦ rw many (omega arith)
]

text_more : (line : List ℕ) (lines : List (List ℕ)) → length (lines_text (line ∷ lines)) ≡ length line + 1 + length (lines_text lines)
text_more line lines =
    let one : length (line_feed ∷ []) ≡ 1 = refl in
    omega (arith, one, length-append (line ++ line_feed ∷ []) (lines_text lines), length-append line (line_feed ∷ []))

pub no_more_bytes : (line bytes : List ℕ)
    → length (lines_text (map as_look (lines_from line bytes).whole)) + length (lines_from line bytes).rest ≤ length line + length bytes
no_more_bytes line [] = omega arith
no_more_bytes line (byte ∷ bytes) =
    let more : length (byte ∷ bytes) ≡ length bytes + 1 = omega arith in
    elim (cases_Bool (byte == line_feed)) [
      | inl feed ↦
          let whole : List (List ℕ) = map as_look (lines_from [] bytes).whole in
          let none : length {A = ℕ} [] ≡ 0 = refl in
          rw feed (omega (arith, more, none, no_more_bytes [] bytes, no_longer line, text_more (as_look line) whole))
      | inr other ↦ rw other (omega (arith, more, no_more_bytes (with_byte line byte) bytes, byte_more line byte))
    ]

one_text : (line : List ℕ) → length (lines_text (line ∷ [])) ≡ length line + 1
one_text line =
    let none : length (lines_text []) ≡ 0 = refl in
    omega (arith, none, text_more line [])

-- the text of a line that is no longer than another
no_more_text : (look line : List ℕ) → length look ≤ length line → length (lines_text (look ∷ [])) ≤ length line + 1
no_more_text look line less = omega (arith, less, one_text look)

pub last_bytes : (line : List ℕ) → length (lines_text (map as_look (last_line line))) ≤ length line + 1
last_bytes [] = omega arith
last_bytes (byte ∷ bytes) = no_more_text (as_look (byte ∷ bytes)) (byte ∷ bytes) (no_longer (byte ∷ bytes))

-- ---- byte by byte

-- what holds anyway holds where all went well
pub on_ok : {A E : Type 0} (r : Result A E) {P : Type 0} → P → OnOk r P
on_ok (Ok x) p = p
on_ok (Err f) p = tt

text_joined : (xs ys : List (List ℕ)) → lines_text (xs ++ ys) ≡ lines_text xs ++ lines_text ys
text_joined [] ys = refl
text_joined (x ∷ xs) ys =
    ap (λ (text : List ℕ). (x ++ line_feed ∷ []) ++ text) (text_joined xs ys)
    ∙ sym (append_assoc (x ++ line_feed ∷ []) (lines_text xs) (lines_text ys))

-- a line that ends, as its text
ended_as : (b : Bool) (line : List ℕ) → cond b (codes "?\n") (line ++ line_feed ∷ []) ≡ lines_text (cond b nothing_said line ∷ [])
ended_as true line = refl
ended_as false line = sym (append-nil (line ++ line_feed ∷ []))

pub line_ended : (line : List ℕ) → (length line == 0) ≡ false
    → cond (is_some (other_in (line ++ line_feed ∷ []))) (codes "?\n") (line ++ line_feed ∷ []) ≡ lines_text (as_look line ∷ [])
line_ended [] h = absurd (cc h)
line_ended (byte ∷ bytes) h = ended_as (is_some (other_in ((byte ∷ bytes) ++ line_feed ∷ []))) (byte ∷ bytes)

-- a blank one
pub is_nothing : (line : List ℕ) → (length line == 0) ≡ true → line ≡ []
is_nothing [] h = refl
is_nothing (byte ∷ bytes) h =
    let never : true ≡ false = sym h ∙ ne_eqb (length (byte ∷ bytes)) 0 (λ z. cc z) in
    absurd (cc never)

pub blank_ended : (line : List ℕ) → (length line == 0) ≡ true → line_feed ∷ [] ≡ lines_text (as_look line ∷ [])
blank_ended line h = ap (λ (l : List ℕ). lines_text (as_look l ∷ [])) (sym (is_nothing line h))

-- the last line
pub last_some : (line : List ℕ) → (length line == 0) ≡ false → line ∷ [] ≡ last_line line
last_some [] h = absurd (cc h)
last_some (byte ∷ bytes) h = refl

module _ (line bytes : List ℕ) (i : ℕ) (lt : i < length bytes) (here : List ℕ) (at : here ≡ (lines_from line (take i bytes)).rest) where
  -- the text of the lines up to one more byte
  pub text_to : (lines more : List ℕ) → lines ≡ lines_text (map as_look (lines_from line (take i bytes)).whole)
      → more ≡ lines ++ lines_text (map as_look (lines_from here (get_or bytes i 0 ∷ [])).whole)
      → more ≡ lines_text (map as_look (lines_from line (take (i + 1) bytes)).whole)
  text_to lines more before is =
      let first : List (List ℕ) = (lines_from line (take i bytes)).whole in
      let last : List (List ℕ) = (lines_from here (get_or bytes i 0 ∷ [])).whole in
      is ∙ ap (λ (text : List ℕ). text ++ lines_text (map as_look last)) before
      ∙ sym (text_joined (map as_look first) (map as_look last))
      ∙ ap lines_text (sym (map-append as_look first last))
      ∙ ap (λ (ls : List (List ℕ)). lines_text (map as_look ls)) (sym (whole_to line bytes i lt here at))
