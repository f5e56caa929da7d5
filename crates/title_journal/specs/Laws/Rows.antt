-- How a block is read, row by row.
use Rattle.std.proofs.Common.{◌≡◌, ℕ, ◌+◌, ◌-◌, ◌<◌, List, [], ◌∷◌, ◌++◌, length, get_or, take, drop, Bool, true, false, refl, sym, ◌∙◌, ap}
use Rattle.std.proofs.{Common.{subst, arith, take-append-drop}, lemmas.List.{append-nil, take_more, take-take, drop-take}}
use Rattle.std.{specs.List.{AllByRecursion}, proofs.lemmas.Grind.{flat_map-append}}
use Rattle.title_journal.specs.Blocks.{lines, ends_block, line_feed, IsRow, IsBlock}

-- whole rows, none of which ends a block
pub record SomeRows (text : List ℕ) : Type 0 where
  pub rows : List (List ℕ)
  pub text_is : text ≡ lines rows
  pub each : AllByRecursion (λ row. IsRow row × (ends_block row ≡ false)) rows

-- no rows are some
pub no_rows : SomeRows []
no_rows = record { rows = []; text_is = refl; each = tt }

-- one row more of which none ends a block
each_and_one : (rows : List (List ℕ)) (row : List ℕ) → AllByRecursion (λ row. IsRow row × (ends_block row ≡ false)) rows → IsRow row
    → ends_block row ≡ false
    → AllByRecursion (λ row. IsRow row × (ends_block row ≡ false)) (rows ++ row ∷ [])
each_and_one [] row each is goes_on = ((is, goes_on), tt)
each_and_one (first ∷ rows) row each is goes_on = (each.0, each_and_one rows row each.1 is goes_on)

-- with a row more that doesn't end the block they are such rows
pub one_row_more : (text row : List ℕ) → SomeRows text → IsRow row → ends_block row ≡ false → SomeRows (text ++ (row ++ line_feed ∷ []))
one_row_more text row some is goes_on = record {
  rows = some.rows ++ row ∷ [];
  text_is = ap (λ (l : List ℕ). l ++ (row ++ line_feed ∷ [])) some.text_is
      ∙ ap (λ (l : List ℕ). lines some.rows ++ l) (sym (append-nil (row ++ line_feed ∷ [])))
      ∙ sym (flat_map-append (λ (r : List ℕ). r ++ line_feed ∷ []) some.rows (row ∷ []));
  each = each_and_one some.rows row some.each is goes_on;
}

-- with a row more that ends it they are a block
pub last_row_more : (text row : List ℕ) → SomeRows text → IsRow row → ends_block row ≡ true → IsBlock (text ++ (row ++ line_feed ∷ []))
last_row_more text row some is ends = record {
  rows = some.rows;
  last = row;
  text_is = ap (λ (l : List ℕ). l ++ (row ++ line_feed ∷ [])) some.text_is;
  each = some.each;
  last_row = is;
  ends = ends;
}

-- a row and its line feed, behind what was read
pub row_taken : (bytes : List ℕ) (at len : ℕ) → len < length (drop at bytes) → get_or (drop at bytes) len 0 ≡ line_feed
    → take (at + (len + 1)) bytes ≡ take at bytes ++ (take len (drop at bytes) ++ line_feed ∷ [])
row_taken bytes at len within feed =
    let both = take (at + (len + 1)) bytes in
    sym (take-append-drop at both)
    ∙ ap (λ (l : List ℕ). l ++ drop at both) (take-take at (at + (len + 1)) bytes (omega arith))
    ∙ ap (λ (l : List ℕ). take at bytes ++ l) (drop-take at (len + 1) bytes ∙ take_more (drop at bytes) len 0 within
    ∙ ap (λ (b : ℕ). take len (drop at bytes) ++ b ∷ []) feed)

-- what the row's length and its test say of the bytes from an offset on
pub record RowAt (bytes : List ℕ) (at len : ℕ) (test : Bool) : Type 0 where
  pub within : len < length (drop at bytes)
  pub row : IsRow (take len (drop at bytes))
  pub feed : get_or (drop at bytes) len 0 ≡ line_feed
  pub ends : ends_block (take len (drop at bytes)) ≡ test

-- it says so of the rest and the row too, where these are told otherwise
pub row_at : (bytes rest row : List ℕ) (at len : ℕ) (test : Bool) → rest ≡ drop at bytes → row ≡ take len (drop at bytes)
    → len < length rest → IsRow (take len rest)
    → get_or rest len 0 ≡ line_feed → test ≡ ends_block row → RowAt bytes at len test
row_at bytes rest row at len test rest_is row_is within is feed ends = record {
  within = subst (λ (l : List ℕ). len < length l) rest_is within;
  row = subst (λ (l : List ℕ). IsRow (take len l)) rest_is is;
  feed = subst (λ (l : List ℕ). get_or l len 0 ≡ line_feed) rest_is feed;
  ends = ap ends_block (sym row_is) ∙ sym ends;
}

-- what lies between an offset and one that is so much further on
pub same_length : (at len : ℕ) → at + len - at ≡ len
same_length at len = omega arith
