-- Each turn of the loop finds a block more, or the row at which the file is no plant.
use Rattle.std.proofs.Common.{◌≡◌, ◌≤◌, ◌+◌, ◌-◌, ℕ, List, ◌++◌, ◌∷◌, [], length, take, drop, Ok, Err, ap, sym, ◌∙◌, subst, arith}
use Rattle.std.proofs.lemmas.List.{take_rest, take_all, map_push}
use Rattle.title_journal.specs.{Blocks.{rows_in, blocks_in, head, IsBlock, IsUnfinished}, Rest.{IsTail, tail_of}}
use Rattle.title_journal.proofs.{Standing.{stands}, split.split.Goals.{then-loop-offset-test+else-file-offset-eq43, else-loop-offset-test}}
use Rattle.title_journal.proofs.Splitting.{IsSplit, contents, split_begun, shut, at_the_end, no_line_feed, breaks_off, one_block_more}
use Rattle.title_journal.specs.declared.fault.JournalFault.TheVariants as fault
use Rattle.title_journal.proofs.split.split.Goals as goal

pub loop-offset-init : goal.loop-offset-init
loop-offset-init c =
    let file = c.args.file.now in
    subst (λ (b : List (List ℕ)). IsSplit file b (length head)) (sym (ap contents c.new-texts.ensures.items))
    (split_begun file (sym c.starts_with.ensures.value ∙ c.if-not-starts_with.false))

-- the row that is told
row_told : (file : List ℕ) (told right : ℕ) → told ≡ right → blocks_in file ≡ Err right → (row : ℕ)
    → fault.NotAPlant told ≡ fault.NotAPlant row → blocks_in file ≡ Err row
row_told file told right is stands row same = let e : told ≡ row = cc in stands ∙ ap (λ (n : ℕ). Err n) (sym is ∙ e)

pub returns-then-file-offset-ne10-clause-not_a_plant : goal.returns-then-file-offset-ne10-clause-not_a_plant
returns-then-file-offset-ne10-clause-not_a_plant c =
    row_told c.args.file.now _ _ c.row_at.ensures.row
    (no_line_feed c.args.file.now _ c.loop-offset.offset c.loop-offset.invariant c.loop-offset-test.true c.if-file-offset-eq43.true
    c.if-file-offset-ne10.true)

pub returns-in_default-clause-not_a_plant : goal.returns-in_default-clause-not_a_plant
returns-in_default-clause-not_a_plant c =
    let file = c.args.file.now in
    let unfinished = subst IsUnfinished (take_rest file (c.loop-offset.offset + 2)) c.in_default.ensures.unfinished in
    row_told file _ _ (c.row_at-in_default.ensures.row ∙ ap (λ (l : List ℕ). 1 + rows_in l) (take_all (length file) file (omega arith)))
    (breaks_off file _ c.loop-offset.offset c.loop-offset.invariant c.loop-offset-test.true c.if-file-offset-eq43.true
    c.if-file-offset-ne10.false unfinished)

pub loop-offset-preserved : goal.loop-offset-preserved
loop-offset-preserved c =
    let file = c.args.file.now in
    let start = c.loop-offset.offset + 2 in
    let len = c.in-Some.len in
    let rest_is = take_rest file start in
    let found = c.in-Some.ensures.block in
    let fits = subst (λ (l : List ℕ). len ≤ length l) rest_is found.0 in
    let is = subst (λ (l : List ℕ). IsBlock (take len l)) rest_is found.1 in
    let more = one_block_more file (contents c.loop-offset.texts.items) c.loop-offset.offset c.loop-offset.invariant c.loop-offset-test.true
    c.if-file-offset-eq43.true c.if-file-offset-ne10.false len fits is in
    let same : start + len - start ≡ len = omega arith in
    let text_is : c.in_ok-to_vec.field-0.items ≡ take len (drop start file) =
    c.in_ok-to_vec.ensures.items_if_clones_equal (λ x y e. e) ∙ ap (λ (n : ℕ). take n (drop start file)) same in
    let texts_are : contents c.push.new.self.items ≡ contents c.loop-offset.texts.items ++ take len (drop start file) ∷ [] =
    ap contents c.in_ok-push.ensures.items ∙ map_push (λ text. text.items) c.loop-offset.texts.items c.in_ok-to_vec.field-0
    ∙ ap (λ (t : List ℕ). contents c.loop-offset.texts.items ++ t ∷ []) text_is in
    subst (λ (b : List (List ℕ)). IsSplit file b (start + len)) (sym texts_are) more

-- what was split is read
read_from : (file : List ℕ) (blocks : List (List ℕ)) (offset : ℕ) (split : IsSplit file blocks offset) → IsTail (drop offset file)
    → blocks_in file ≡ Ok blocks
read_from file blocks offset split ends = ap blocks_in split.front_is ∙ stands blocks (drop offset file) split.whole ends

pub returns-clause-stand : goal.returns-clause-stand
returns-clause-stand c =
    let file = c.args.file.now in
    let offset = c.loop-offset.offset in
    let split = c.loop-offset.invariant in
    let ends : IsTail (drop offset file) = elim c.loop-offset-test.branch [
      | then-loop-offset-test+else-file-offset-eq43 w ↦ shut file _ offset split w.loop-offset-test.true w.if-file-offset-eq43.false
      | else-loop-offset-test w ↦ at_the_end file _ offset split w.loop-offset-test.false
    ] in
    record {
      stand = read_from file _ offset split ends;
      whole = split.whole;
      offset = split.offset_is;
      front_is = split.front_is;
      tail = c.tail_at-tail.ensures ∙ ap tail_of (take_rest file offset);
      ends = ends;
    }
