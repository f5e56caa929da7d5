-- Walks over a text's characters: its letters, and where one of them stands.
use Rattle.std.proofs.{Common.{◌≡◌, ◌∙◌, ℕ, zero, suc, ◌+◌, ◌-◌, ◌<◌, ◌⊎◌, inl, inr, true, false, ◌==◌, not}, lemmas.Bool.{and_parts}}
use Rattle.std.proofs.Common.{List, [], ◌∷◌, ◌++◌, length, take, drop, refl, sym, ap, subst, arith, length-append}
use Rattle.std.specs.{Prelude.{Option, Some, None, MatchOption, codes, filter, encode_utf8, encode_utf8_all}, Char.{to_ascii_lowercase}}
use Rattle.std.{specs.Str.{IsUtf8, IsCharBoundary, chars}, proofs.{lemmas.List.{length-map, append-nil}, Math.Utf8.{scalar, scalars}}}
use Rattle.std.proofs.lemmas.Str.{chars_past_char, length-encode, encodes-chars, chars-encodes, scalars-chars}
use Rattle.std.proofs.lemmas.Str.{chars-nil, encodes-append, IsCharBoundary-at_seam}
use Rattle.std.proofs.Math.Seq.{take-nil, drop-nil, take-append_seam, drop-append_seam}
use Rattle.title_grammar.specs.Laws.Exact.{tells}
use denote.Ref.{Bor}
use Rattle.title_aliquot.specs.Letters.{passed_over, letters, letters_from, offset}

-- ---- over one character

pub letters_passed : (bs rest : List ℕ) (c : ℕ) → IsUtf8 bs → bs ≡ encode_utf8 c ++ rest → passed_over c ≡ true →
    letters (chars bs) ≡ letters (chars rest)
letters_passed bs rest c u e h = ap letters (chars_past_char bs rest c u e) ∙ rw h refl

pub letters_taken : (bs rest : List ℕ) (c : ℕ) → IsUtf8 bs → bs ≡ encode_utf8 c ++ rest → passed_over c ≡ false →
    letters (chars bs) ≡ to_ascii_lowercase c ∷ letters (chars rest)
letters_taken bs rest c u e h = ap letters (chars_past_char bs rest c u e) ∙ rw h refl

pub offset_passed : (bs rest : List ℕ) (c i : ℕ) → IsUtf8 bs → bs ≡ encode_utf8 c ++ rest → passed_over c ≡ true →
    offset (chars bs) i ≡ length (encode_utf8 c) + offset (chars rest) i
offset_passed bs rest c i u e h =
    ap (λ (cs : List ℕ). offset cs i) (chars_past_char bs rest c u e) ∙ rw (h, length-encode c) refl

pub offset_here : (bs rest : List ℕ) (c : ℕ) → IsUtf8 bs → bs ≡ encode_utf8 c ++ rest → passed_over c ≡ false → offset (chars bs) 0 ≡ 0
offset_here bs rest c u e h = ap (λ (cs : List ℕ). offset cs 0) (chars_past_char bs rest c u e) ∙ rw h refl

pub offset_on : (bs rest : List ℕ) (c i : ℕ) → IsUtf8 bs → bs ≡ encode_utf8 c ++ rest → passed_over c ≡ false → 0 < i →
    offset (chars bs) i ≡ length (encode_utf8 c) + offset (chars rest) (i - 1)
offset_on bs rest c zero u e h l = absurd (omega arith)
offset_on bs rest c (suc i) u e h l =
    let z : (suc i == 0) ≡ false = grind arith in
    ap (λ (cs : List ℕ). offset cs (suc i)) (chars_past_char bs rest c u e) ∙ rw (h, z, length-encode c) refl

-- ---- how many there are

pub count_letters-filter : (cs : List ℕ) → length (filter (λ c. not (passed_over c)) cs) ≡ length (letters cs)
count_letters-filter cs = sym (length-map (filter (λ c. not (passed_over c)) cs) to_ascii_lowercase)

-- ---- a text cut before the character of a letter

record CutAt (cs : List ℕ) (i : ℕ) : Type 0 where
  front : List ℕ
  back : List ℕ
  whole : cs ≡ front ++ back
  before : letters front ≡ take i (letters cs)
  after : letters back ≡ drop i (letters cs)
  at : offset cs i ≡ length (encode_utf8_all front)

cut_nothing : (i : ℕ) → CutAt [] i
cut_nothing i = record { front = []; back = []; whole = refl; before = sym (take-nil i); after = sym (drop-nil i); at = refl }

cut_past : (c : ℕ) (cs : List ℕ) (i : ℕ) → passed_over c ≡ true → CutAt cs i → CutAt (c ∷ cs) i
cut_past c cs i h k = record {
  front = c ∷ k.front;
  back = k.back;
  whole = ap (λ (z : List ℕ). c ∷ z) k.whole;
  before = rw h k.before;
  after = rw h k.after;
  at = rw (h, k.at, length-append (encode_utf8 c) (encode_utf8_all k.front), length-encode c) refl;
}

cut_here : (c : ℕ) (cs : List ℕ) → passed_over c ≡ false → CutAt (c ∷ cs) 0
cut_here c cs h = record { front = []; back = c ∷ cs; whole = refl; before = refl; after = refl; at = rw h refl }

cut_on : (c : ℕ) (cs : List ℕ) (i : ℕ) → passed_over c ≡ false → CutAt cs i → CutAt (c ∷ cs) (suc i)
cut_on c cs i h k =
    let z : (suc i == 0) ≡ false = grind arith in
    let e : suc i - 1 ≡ i = omega arith in
    record {
      front = c ∷ k.front;
      back = k.back;
      whole = ap (λ (z : List ℕ). c ∷ z) k.whole;
      before = rw h (ap (λ (z : List ℕ). to_ascii_lowercase c ∷ z) k.before);
      after = rw h k.after;
      at = rw (h, z, e, k.at, length-append (encode_utf8 c) (encode_utf8_all k.front), length-encode c) refl;
    }

cut_by : (c : ℕ) (cs : List ℕ) (i : ℕ) → ((j : ℕ) → CutAt cs j) → (passed_over c ≡ true) ⊎ (passed_over c ≡ false) → CutAt (c ∷ cs) i
cut_by c cs i k (inl h) = cut_past c cs i h (k i)
cut_by c cs zero k (inr h) = cut_here c cs h
cut_by c cs (suc i) k (inr h) = cut_on c cs i h (k i)

cut_chars : (cs : List ℕ) (i : ℕ) → CutAt cs i
cut_chars [] i = cut_nothing i
cut_chars (c ∷ cs) i = cut_by c cs i (λ j. cut_chars cs j) (tells (passed_over c))

-- the two parts of a text
scalars_parts : (cs ds : List ℕ) → scalars (cs ++ ds) ≡ true → (scalars cs ≡ true) × (scalars ds ≡ true)
scalars_parts [] ds h = (refl, h)
scalars_parts (c ∷ cs) ds h =
    let both = and_parts (scalar c) (scalars (cs ++ ds)) h in
    let rest = scalars_parts cs ds both.1 in
    (rw both.0 rest.0, rest.1)

-- a text cut at the offset of a letter
pub record CutText (bs : List ℕ) (i at : ℕ) : Type 0 where
  pub boundary : IsCharBoundary bs at
  pub before : letters (chars (take at bs)) ≡ take i (letters (chars bs))
  pub after : letters (chars (drop at bs)) ≡ drop i (letters (chars bs))

pub cut_text : (bs : List ℕ) (i at : ℕ) → IsUtf8 bs → at ≡ offset (chars bs) i → CutText bs i at
cut_text bs i at u e =
    let k = cut_chars (chars bs) i in
    let good = scalars_parts k.front k.back (ap scalars (sym k.whole) ∙ scalars-chars bs u) in
    let whole : bs ≡ encode_utf8_all k.front ++ encode_utf8_all k.back =
    sym (encodes-chars bs u) ∙ ap (λ (cs : List ℕ). encode_utf8_all cs) k.whole ∙ encodes-append k.front k.back in
    let located : at ≡ length (encode_utf8_all k.front) = e ∙ k.at in
    let front : take at bs ≡ encode_utf8_all k.front =
    ap (λ (n : ℕ). take n bs) located ∙ ap (λ (z : List ℕ). take (length (encode_utf8_all k.front)) z) whole
    ∙ take-append_seam (encode_utf8_all k.front) (encode_utf8_all k.back) in
    let back : drop at bs ≡ encode_utf8_all k.back =
    ap (λ (n : ℕ). drop n bs) located ∙ ap (λ (z : List ℕ). drop (length (encode_utf8_all k.front)) z) whole
    ∙ drop-append_seam (encode_utf8_all k.front) (encode_utf8_all k.back) in
    record {
      boundary = subst (λ (n : ℕ). IsCharBoundary bs n) (sym located)
          (IsCharBoundary-at_seam bs (encode_utf8_all k.front) (encode_utf8_all k.back) whole (k.back, (good.1, refl)));
      before = ap (λ (z : List ℕ). letters (chars z)) front ∙ ap letters (chars-encodes k.front good.0) ∙ k.before;
      after = ap (λ (z : List ℕ). letters (chars z)) back ∙ ap letters (chars-encodes k.back good.1) ∙ k.after;
    }

-- the letters of a step's text are its characters
pub step_letters : letters (chars (codes "n1/2")) ≡ codes "n1/2"
unfolding chars
step_letters = refl

-- no text, no letters
pub no_letters : letters (chars []) ≡ []
no_letters = ap letters chars-nil

-- a letter and those of one text alone
pub letters_alone : (next : Option (ℕ × Bor (List ℕ))) (s : List ℕ) → MatchOption next (s ≡ []) (λ p. s ≡ p.0 ∷ letters (chars p.1.now)) →
    letters_from next [] ≡ s
letters_alone None s h = sym h
letters_alone (Some p) s h =
    ap (λ (z : List ℕ). p.0 ∷ (letters (chars p.1.now) ++ z)) no_letters
    ∙ ap (λ (z : List ℕ). p.0 ∷ z) (append-nil (letters (chars p.1.now))) ∙ sym h
