-- Lines of bytes that come one after another.
use Rattle.std.proofs.Common.{◌≡◌, ◌==◌, ◌<◌, ◌+◌, ◌∙◌, ◌++◌, ◌∷◌, [], refl, sym, inl, inr, ap, ℕ, List, true, false, arith, get_or}
use Rattle.std.proofs.{Common.{length, nat_le, take}, lemmas.{Bool.{cases_Bool, Decides.{nat_tests}}, List.{take_more}}}
use Rattle.title_counter.specs.Lines.{Lines, all_lines, and_lines, last_line, line_feed, lines_from, lines_in, with_byte}

-- lines, and those of bytes that come behind them
abbrev pub joined_lines : Lines → List ℕ → Lines
joined_lines l bytes = record { whole = l.whole ++ (lines_from l.rest bytes).whole; rest = (lines_from l.rest bytes).rest }

-- they are the lines of both
pub lines_more : (line xs ys : List ℕ) → lines_from line (xs ++ ys) ≡ joined_lines (lines_from line xs) ys
lines_more line [] ys = refl
lines_more line (x ∷ xs) ys = elim (cases_Bool (x == line_feed)) [
  | inl feed ↦ rw feed (ap (and_lines line) (lines_more [] xs ys))
  | inr other ↦ rw other (lines_more (with_byte line x) xs ys)
]

pub whole_more : (line xs ys : List ℕ)
    → (lines_from line (xs ++ ys)).whole ≡ (lines_from line xs).whole ++ (lines_from (lines_from line xs).rest ys).whole
whole_more line xs ys = ap (λ (l : Lines). l.whole) (lines_more line xs ys)

pub rest_more : (line xs ys : List ℕ) → (lines_from line (xs ++ ys)).rest ≡ (lines_from (lines_from line xs).rest ys).rest
rest_more line xs ys = ap (λ (l : Lines). l.rest) (lines_more line xs ys)

-- ---- bytes of which the last wait, and some more behind them

module _ (given line bytes : List ℕ) (waits : line ≡ (lines_in given).rest) where
  -- the whole lines of both, and what waits behind them
  pub lines_then : (lines_in (given ++ bytes)).whole ≡ (lines_in given).whole ++ (lines_from line bytes).whole
  lines_then =
      whole_more [] given bytes ∙ ap (λ (x : List ℕ). (lines_in given).whole ++ (lines_from x bytes).whole) (sym waits)

  pub rest_then : (lines_in (given ++ bytes)).rest ≡ (lines_from line bytes).rest
  rest_then = rest_more [] given bytes ∙ ap (λ (x : List ℕ). (lines_from x bytes).rest) (sym waits)

-- all lines of them
pub all_then : (given line : List ℕ) → line ≡ (lines_in given).rest → all_lines given ≡ (lines_in given).whole ++ last_line line
all_then given line waits = ap (λ (x : List ℕ). (lines_in given).whole ++ last_line x) (sym waits)

-- ---- byte by byte

module _ (line bytes : List ℕ) (i : ℕ) (lt : i < length bytes) (here : List ℕ) (at : here ≡ (lines_from line (take i bytes)).rest) where
  -- the lines up to one more byte
  pub whole_to : (lines_from line (take (i + 1) bytes)).whole
      ≡ (lines_from line (take i bytes)).whole ++ (lines_from here (get_or bytes i 0 ∷ [])).whole
  whole_to =
      ap (λ (bs : List ℕ). (lines_from line bs).whole) (take_more bytes i 0 lt)
      ∙ whole_more line (take i bytes) (get_or bytes i 0 ∷ [])
      ∙ ap (λ (l : List ℕ). (lines_from line (take i bytes)).whole ++ (lines_from l (get_or bytes i 0 ∷ [])).whole) (sym at)

  -- and what waits then
  pub rest_to : (next : List ℕ) → next ≡ (lines_from here (get_or bytes i 0 ∷ [])).rest
      → next ≡ (lines_from line (take (i + 1) bytes)).rest
  rest_to next is =
      is ∙ ap (λ (l : List ℕ). (lines_from l (get_or bytes i 0 ∷ [])).rest) at
      ∙ sym (rest_more line (take i bytes) (get_or bytes i 0 ∷ []))
      ∙ ap (λ (bs : List ℕ). (lines_from line bs).rest) (sym (take_more bytes i 0 lt))

-- ---- the last line

-- where nothing waits there is none, else it is what waits
pub no_last : (line : List ℕ) → nat_le (length line) 0 ≡ true → last_line line ≡ []
no_last [] h = refl
no_last (b ∷ line) h = absurd (grind (arith, nat_tests))

pub one_last : (line : List ℕ) → nat_le (length line) 0 ≡ false → last_line line ≡ line ∷ []
one_last [] h = absurd (grind (arith, nat_tests))
one_last (b ∷ line) h = refl
