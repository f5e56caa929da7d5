-- What the rows of a block come to, as they are read one by one.
use Rattle.std.proofs.Common.{◌≡◌, ◌≤◌, ◌<◌, ◌+◌, ◌^◌, ℕ, List, [], ◌∷◌, length, take, drop, Option, Some, None, Result, Ok, Err}
use Rattle.std.{proofs.Common.{refl, sym, ap, ◌∙◌, arith, length-drop, get_or, length-append, map, Vec}, specs.List.{flat_map}}
use Rattle.std.{specs.declared.alloc.Global.{Global}, proofs.lemmas.List.{drop-drop, drop_all, drop_more}}
use Rattle.title_journal.specs.Blocks.{blocks_in, counted, front, head}
use Rattle.title_plan.specs.Fields.{given}
use Rattle.title_daybook.specs.{Files.{after_blocks, and_then, standing_after, standing_in, what_stands}, Standing.{nothing_standing}}
use Rattle.title_daybook.specs.KeptRows.{between, after_kept_row, after_last_row, after_rows, after_said, going_on, Progress}
use Rattle.title_daybook.{specs.Lines.{fields_in, lines_of, said_by, IsFirstLine}, proofs.FirstLines.{some_line}}

-- rows of a text were read up to one of them: what is left comes to what the whole does
pub record IsUpTo (first : ℕ) (text : List ℕ) (start : Progress) (n at : ℕ) (p : Progress) : Type 0 where
  pub within : at ≤ length text
  pub few : n ≤ first + at
  pub counted : n + length (lines_of (drop at text)) ≡ first + length (lines_of text)
  pub rows : after_rows first start (lines_of text) ≡ after_rows n p (lines_of (drop at text))

module _ (first : ℕ) (text : List ℕ) (start : Progress) (n at : ℕ) (p : Progress) (read : IsUpTo first text start n at p) where
  -- no row is left
  pub no_row : length text ≤ at → after_rows first start (lines_of text) ≡ Err n
  no_row past = read.rows ∙ ap (λ (l : List ℕ). after_rows n p (lines_of l)) (drop_all at text past)

  module _ (len : ℕ) (line : IsFirstLine (drop at text) len) where
    -- the row is the last one
    alone : length text ≤ at + len + 1 → lines_of (drop at text) ≡ take len (drop at text) ∷ []
    alone past = line.lines ∙ ap (λ (l : List ℕ). take len (drop at text) ∷ lines_of l)
        (drop_all (len + 1) (drop at text) (omega (arith, length-drop at text)))

    pub last_row : length text ≤ at + len + 1 → (o : Option Progress) → after_last_row p (take len (drop at text)) ≡ o
        → after_rows first start (lines_of text) ≡ going_on n o (λ after. Ok after)
    last_row past o e = read.rows ∙ ap (after_rows n p) (alone past)
        ∙ ap (λ (a : Option Progress). going_on n a (λ after. Ok after)) e

    pub counts_last : length text ≤ at + len + 1 → n + 1 ≡ first + length (lines_of text)
    counts_last past = sym (ap (λ (l : List (List ℕ)). n + length l) (alone past)) ∙ read.counted

    -- a row in front of it
    module _ (more : at + len + 1 < length text) where
      behind : lines_of (drop at text) ≡ take len (drop at text) ∷ lines_of (drop (at + (len + 1)) text)
      behind = line.lines ∙ ap (λ (l : List ℕ). take len (drop at text) ∷ lines_of l) (drop-drop (len + 1) at text)

      pub a_row : (o : Option Progress) → after_kept_row p (take len (drop at text)) ≡ o
          → after_rows first start (lines_of text) ≡ going_on n o (λ after. after_rows (n + 1) after (lines_of (drop (at + (len +
          1)) text)))
      a_row o e =
          let next = some_line (drop (at + (len + 1)) text) (omega (arith, length-drop (at + (len + 1)) text)) in
          let rest = λ (after : Progress). after_rows (n + 1) after (lines_of (drop (at + (len + 1)) text)) in
          read.rows ∙ ap (after_rows n p) (behind ∙ ap (λ (l : List (List ℕ)). take len (drop at text) ∷ l) next.2)
          ∙ ap (λ (l : List (List ℕ)). going_on n (after_kept_row p (take len (drop at text))) (λ after. after_rows (n + 1) after
          l)) (sym next.2)
          ∙ ap (λ (a : Option Progress). going_on n a rest) e

      pub one_more : (after : Progress) → after_kept_row p (take len (drop at text)) ≡ Some after
          → IsUpTo first text start (n + 1) (at + (len + 1)) after
      one_more after e =
          let counts = ap (λ (l : List (List ℕ)). n + length l) behind in
          record {
            within = omega arith;
            few = omega (arith, read.few);
            counted = omega (arith, counts, read.counted);
            rows = a_row (Some after) e;
          }

-- what a row's fields say, and nothing where it has none
pub row_is : (p : Progress) (line : List ℕ) (fields : List (List ℕ)) → fields_in line ≡ Some fields
    → after_kept_row p line ≡ given (said_by fields) (after_said p)
row_is p line fields e = rw e refl

pub no_fields : (p : Progress) (line : List ℕ) → fields_in line ≡ None → after_kept_row p line ≡ None
no_fields p line e = rw e refl

-- ---- blocks

-- the texts in these vectors
abbrev pub contents : List (Vec ℕ Global) → List (List ℕ)
contents texts = map (λ text. text.items) texts

-- blocks were read up to one of them: what is left comes to what all do
pub record AreUpTo (texts : List (Vec ℕ Global)) (n i : ℕ) (p : Progress) : Type 0 where
  pub rows : after_blocks 2 (between nothing_standing) (contents texts) ≡ after_blocks n p (contents (drop i texts))
  pub few : n + length (flat_map counted (contents (drop i texts))) < 2 ^ 63

pub none_read : (texts : List (Vec ℕ Global)) (p : Progress) → p ≡ between nothing_standing → length (front (contents texts)) < 2 ^ 63
    → AreUpTo texts 2 0 p
none_read texts p e fits = record {
  rows = ap (λ (b : Progress). after_blocks 2 b (contents texts)) (sym e);
  few = omega (arith, length-append head (flat_map counted (contents texts)));
}

module _ (texts : List (Vec ℕ Global)) (n i : ℕ) (p : Progress) (read : AreUpTo texts n i p) (d : Vec ℕ Global) (within : i <
    length texts) where
  next_block : contents (drop i texts) ≡ (get_or texts i d).items ∷ contents (drop (i + 1) texts)
  next_block = ap contents (drop_more texts i d within)

  sizes : length (flat_map counted (contents (drop i texts))) ≡ 2 + length (get_or texts i d).items
      + length (flat_map counted (contents (drop (i + 1) texts)))
  sizes =
      let more = flat_map counted (contents (drop (i + 1) texts)) in
      ap (λ (t : List (List ℕ)). length (flat_map counted t)) next_block
      ∙ omega (arith, length-append (counted (get_or texts i d).items) more)

  pub block_fits : n + 1 + length (get_or texts i d).items < 2 ^ 63
  block_fits = omega (arith, sizes, read.few)

  pub block_fault : (row : ℕ) → after_rows (n + 1) p (lines_of (get_or texts i d).items) ≡ Err row
      → after_blocks 2 (between nothing_standing) (contents texts) ≡ Err row
  block_fault row e = read.rows ∙ ap (after_blocks n p) next_block
      ∙ ap (λ (r : Result Progress ℕ). and_then r (λ after. after_blocks (n + 1 + length (lines_of (get_or texts i d).items)) after
      (contents (drop (i + 1) texts)))) e

  pub block_more : (after : Progress) (m : ℕ) → after_rows (n + 1) p (lines_of (get_or texts i d).items) ≡ Ok after
      → m ≡ n + 1 + length (lines_of (get_or texts i d).items) → m ≤ n + 1 + length (get_or texts i d).items
      → AreUpTo texts m (i + 1) after
  block_more after m e is few = record {
    rows = read.rows ∙ ap (after_blocks n p) next_block
        ∙ ap (λ (r : Result Progress ℕ). and_then r (λ after. after_blocks (n + 1 + length (lines_of (get_or texts i d).items)) after
        (contents (drop (i + 1) texts)))) e
        ∙ ap (λ (k : ℕ). after_blocks k after (contents (drop (i + 1) texts))) (sym is);
    few = omega (arith, sizes, read.few, few);
  }

-- what the blocks of a file come to
pub comes_to : (file : List ℕ) (texts : List (List ℕ)) (found : Result Progress ℕ) → blocks_in file ≡ Ok texts
    → after_blocks 2 (between nothing_standing) texts ≡ found → standing_in file ≡ what_stands found
comes_to file texts found is e = ap standing_after is ∙ ap what_stands e
