-- A file of blocks that count is read as those blocks and whatever the rest stands for.
use Rattle.std.specs.{Prelude.{◌≡◌, ℕ, ◌+◌, true, false, List, [], ◌∷◌, ◌++◌, Result, Ok, Err, ◌==◌}, List.{flat_map, AllByRecursion}}
use Rattle.std.proofs.{Common.{refl, sym, ◌∙◌, ap, arith, append_assoc, zero-add, cond}, lemmas.List.{append-nil, Sums.{sum_by-append}}}
use Rattle.std.proofs.lemmas.Bool.{ne_eqb, cond-true, cond-false}
use Rattle.title_journal.specs.Blocks.{AtGate, InRow, blocks_from, blocks_in, before_others, front, counted, head, lines, IsRow, IsBlock}
use Rattle.title_journal.specs.Blocks.{IsUnfinished, ends_block, rows_in, line_feed, open_gate}

-- rows are counted part by part
pub rows_in-append : (xs ys : List ℕ) → rows_in (xs ++ ys) ≡ rows_in xs + rows_in ys
rows_in-append xs ys = sum_by-append _ xs ys

rows_in_row : (row : List ℕ) → IsRow row → rows_in row ≡ 0
rows_in_row [] is = refl
rows_in_row (byte ∷ row) is = rows_in-append (byte ∷ []) row
    ∙ (let none : rows_in (byte ∷ []) ≡ 0 = zero-add (cond (byte == line_feed) 1 0)
    ∙ cond-false (byte == line_feed) 1 0 (ne_eqb byte line_feed is.0) in omega (arith, none, rows_in_row row is.1))

rows_in_line : (row : List ℕ) → IsRow row → rows_in (row ++ line_feed ∷ []) ≡ 1
rows_in_line row is = omega (arith, rows_in-append row (line_feed ∷ []), rows_in_row row is)

-- from within a row to its line feed
to_line_feed : (number : ℕ) (rows start row bytes : List ℕ) → IsRow row
    → blocks_from number (InRow rows start) (row ++ line_feed ∷ bytes) ≡ blocks_from number (InRow rows (start ++ row)) (line_feed ∷ bytes)
to_line_feed number rows start [] bytes is =
    ap (λ (s : List ℕ). blocks_from number (InRow rows s) (line_feed ∷ bytes)) (sym (append-nil start))
to_line_feed number rows start (byte ∷ row) bytes is =
    cond-false (byte == line_feed) _ _ (ne_eqb byte line_feed is.0)
    ∙ to_line_feed number rows (start ++ byte ∷ []) row bytes is.1
    ∙ ap (λ (s : List ℕ). blocks_from number (InRow rows s) (line_feed ∷ bytes)) (append_assoc start (byte ∷ []) row)

one_row : (number : ℕ) (rows row bytes : List ℕ) → IsRow row → ends_block row ≡ false
    → blocks_from number (InRow rows []) ((row ++ line_feed ∷ []) ++ bytes) ≡ blocks_from (number + 1)
    (InRow (rows ++ (row ++ line_feed ∷ [])) []) bytes
one_row number rows row bytes is goes_on =
    ap (blocks_from number (InRow rows [])) (append_assoc row (line_feed ∷ []) bytes)
    ∙ to_line_feed number rows [] row bytes is
    ∙ cond-false (ends_block row) _ _ goes_on

last_row : (number : ℕ) (rows row bytes : List ℕ) → IsRow row → ends_block row ≡ true
    → blocks_from number (InRow rows []) ((row ++ line_feed ∷ []) ++ bytes) ≡ before_others (rows ++ (row ++ line_feed ∷ []))
    (blocks_from (number + 1) AtGate bytes)
last_row number rows row bytes is ends =
    ap (blocks_from number (InRow rows [])) (append_assoc row (line_feed ∷ []) bytes)
    ∙ to_line_feed number rows [] row bytes is
    ∙ cond-true (ends_block row) _ _ ends

-- rows of which none ends the block
pub some_rows : (number : ℕ) (before : List ℕ) (rows : List (List ℕ)) (bytes : List ℕ)
    → AllByRecursion (λ row. IsRow row × (ends_block row ≡ false)) rows
    → blocks_from number (InRow before []) (lines rows ++ bytes) ≡ blocks_from (number + rows_in (lines rows))
    (InRow (before ++ lines rows) []) bytes
some_rows number before [] bytes is = ap (λ (n : ℕ). blocks_from n (InRow before []) bytes) (omega arith)
    ∙ ap (λ (b : List ℕ). blocks_from (number + 0) (InRow b []) bytes) (sym (append-nil before))
some_rows number before (row ∷ rows) bytes is =
    let line = row ++ line_feed ∷ [] in
    let counts : number + 1 + rows_in (lines rows) ≡ number + rows_in (lines (row ∷ rows)) =
    omega (arith, rows_in-append line (lines rows), rows_in_line row is.0.0) in
    ap (blocks_from number (InRow before [])) (append_assoc line (lines rows) bytes)
    ∙ one_row number before row (lines rows ++ bytes) is.0.0 is.0.1
    ∙ some_rows (number + 1) (before ++ line) rows bytes is.1
    ∙ ap (λ (n : ℕ). blocks_from n (InRow (before ++ line ++ lines rows) []) bytes) counts
    ∙ ap (λ (b : List ℕ). blocks_from (number + rows_in (lines (row ∷ rows))) (InRow b []) bytes) (append_assoc before line (lines rows))

-- a whole block
pub one_block : (number : ℕ) (text bytes : List ℕ) → IsBlock text
    → blocks_from number (InRow [] []) (text ++ bytes) ≡ before_others text (blocks_from (number + rows_in text) AtGate bytes)
one_block number text bytes is =
    let front_rows = lines is.rows in
    let line = is.last ++ line_feed ∷ [] in
    let counts : number + rows_in front_rows + 1 ≡ number + rows_in (front_rows ++ line) =
    omega (arith, rows_in-append front_rows line, rows_in_line is.last is.last_row) in
    ap (λ (t : List ℕ). blocks_from number (InRow [] []) (t ++ bytes)) is.text_is
    ∙ ap (blocks_from number (InRow [] [])) (append_assoc front_rows line bytes)
    ∙ some_rows number [] is.rows (line ++ bytes) is.each
    ∙ last_row (number + rows_in front_rows) front_rows is.last bytes is.last_row is.ends
    ∙ ap (λ (n : ℕ). before_others (front_rows ++ line) (blocks_from n AtGate bytes)) counts
    ∙ ap (λ (t : List ℕ). before_others t (blocks_from (number + rows_in t) AtGate bytes)) (sym is.text_is)

-- blocks before those that follow
abbrev pub all_before : List (List ℕ) → Result (List (List ℕ)) ℕ → Result (List (List ℕ)) ℕ
all_before blocks (Ok others) = Ok (blocks ++ others)
all_before blocks (Err row) = Err row

one_and_all : (block : List ℕ) (blocks : List (List ℕ)) (others : Result (List (List ℕ)) ℕ)
    → before_others block (all_before blocks others) ≡ all_before (block ∷ blocks) others
one_and_all block blocks (Ok others) = refl
one_and_all block blocks (Err row) = refl

none_before : (others : Result (List (List ℕ)) ℕ) → others ≡ all_before [] others
none_before (Ok others) = refl
none_before (Err row) = refl

pub some_blocks : (number : ℕ) (blocks : List (List ℕ)) (bytes : List ℕ) → AllByRecursion IsBlock blocks
    → blocks_from number AtGate (flat_map counted blocks ++ bytes) ≡ all_before blocks
    (blocks_from (number + rows_in (flat_map counted blocks)) AtGate bytes)
some_blocks number [] bytes is = none_before (blocks_from number AtGate bytes)
    ∙ ap (λ (n : ℕ). all_before [] (blocks_from n AtGate bytes)) (omega arith)
some_blocks number (block ∷ blocks) bytes is =
    let more = flat_map counted blocks in
    let counts : number + 1 + rows_in block + rows_in more ≡ number + rows_in (counted block ++ more) =
    omega (arith, rows_in-append (counted block) more, rows_in-append (open_gate ∷ line_feed ∷ []) block) in
    ap (blocks_from (number + 1) (InRow [] [])) (append_assoc block more bytes)
    ∙ one_block (number + 1) block (more ++ bytes) is.0
    ∙ ap (before_others block) (some_blocks (number + 1 + rows_in block) blocks bytes is.1)
    ∙ one_and_all block blocks _
    ∙ ap (λ (n : ℕ). all_before (block ∷ blocks) (blocks_from n AtGate bytes)) counts

-- a file of the head, blocks that count, and a rest
pub front_and_rest : (blocks : List (List ℕ)) (bytes : List ℕ) → AllByRecursion IsBlock blocks
    → blocks_in (front blocks ++ bytes) ≡ all_before blocks (blocks_from (1 + rows_in (front blocks)) AtGate bytes)
front_and_rest blocks bytes is =
    let more = flat_map counted blocks in
    let counts : 2 + rows_in more ≡ 1 + rows_in (head ++ more) = omega (arith, rows_in-append head more) in
    some_blocks 2 blocks bytes is
    ∙ ap (λ (n : ℕ). all_before blocks (blocks_from n AtGate bytes)) counts

-- a beginning of a row goes on to the end of the file
to_the_end : (number : ℕ) (rows start bytes : List ℕ) → IsRow bytes → blocks_from number (InRow rows start) bytes ≡ Err number
to_the_end number rows start [] is = refl
to_the_end number rows start (byte ∷ bytes) is = cond-false (byte == line_feed) _ _ (ne_eqb byte line_feed is.0)
    ∙ to_the_end number rows (start ++ byte ∷ []) bytes is.1

-- a block that breaks off is told by the row in which it does
pub unfinished_block : (number : ℕ) (text : List ℕ) → IsUnfinished text
    → blocks_from number (InRow [] []) text ≡ Err (number + rows_in text)
unfinished_block number text is =
    let front_rows = lines is.rows in
    let counts : number + rows_in front_rows ≡ number + rows_in text =
    omega (arith, ap rows_in is.text_is, rows_in-append front_rows is.start, rows_in_row is.start is.start_row) in
    ap (blocks_from number (InRow [] [])) is.text_is
    ∙ some_rows number [] is.rows is.start is.each
    ∙ to_the_end (number + rows_in front_rows) front_rows [] is.start is.start_row
    ∙ ap (λ (n : ℕ). Err n) counts
