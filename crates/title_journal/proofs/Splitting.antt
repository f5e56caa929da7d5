-- How a file is split, block by block.
use Rattle.std.proofs.Common.{◌≡◌, ℕ, ◌+◌, ◌≤◌, ◌<◌, List, [], ◌∷◌, ◌++◌, length, get_or, length-drop, take, drop, map, Vec, true}
use Rattle.std.{proofs.Common.{Err, refl, sym, ◌∙◌, ap, subst, arith, length-append, take-append-drop}, specs.List.{AllByRecursion}}
use Rattle.std.specs.{declared.alloc.Global.{Global}, Prelude.{◌==◌, nat_eq}, List.{starts_with}}
use Rattle.std.proofs.lemmas.List.{take_at, drop-drop, length-take-le}
use Rattle.std.proofs.lemmas.{Slice.Eq.{starts_is}, Bool.{cond-false, ne_eqb, Decides.{Decides-eqb}}}
use Rattle.title_journal.specs.Blocks.{AtGate, blocks_from, blocks_in, rows_in, head, front, line_feed, open_gate}
use Rattle.title_journal.specs.{Blocks.{IsBlock, IsUnfinished}, Rest.{IsTail}}
use Rattle.title_journal.specs.Laws.Reading.{all_before, front_and_rest, unfinished_block, rows_in-append}
use Rattle.title_journal.specs.Laws.Gates.{two_bytes, gate_and_feed, short_tail, all_and_one}
use Rattle.title_journal.proofs.Standing.{front_more, length-front_more}

-- the texts in these vectors
abbrev pub contents : List (Vec ℕ Global) → List (List ℕ)
contents texts = map (λ text. text.items) texts

-- a file was split into these blocks up to an offset
pub record IsSplit (file : List ℕ) (blocks : List (List ℕ)) (offset : ℕ) : Type 0 where
  pub within : offset ≤ length file
  pub offset_is : offset ≡ length (front blocks)
  pub front_is : file ≡ front blocks ++ drop offset file
  pub whole : AllByRecursion IsBlock blocks

pub split_begun : (file : List ℕ) → starts_with nat_eq file head ≡ true → IsSplit file [] (length head)
split_begun file starts =
    let is : file ≡ head ++ drop (length head) file = (starts_is Decides-eqb file head (starts_with nat_eq file head) refl).0 starts in
    record {
      within = omega (arith, ap length is, length-append head (drop (length head) file));
      offset_is = refl;
      front_is = is;
      whole =
          tt;
    }

module _ (file : List ℕ) (blocks : List (List ℕ)) (offset : ℕ) (split : IsSplit file blocks offset) where
  taken : take offset file ≡ front blocks
  taken = ap (λ (l : List ℕ). take offset l) split.front_is ∙ take_at (front blocks) (drop offset file) offset (sym split.offset_is)

  stands_so_far : blocks_in file ≡ all_before blocks (blocks_from (1 + rows_in (front blocks)) AtGate (drop offset file))
  stands_so_far = ap blocks_in split.front_is ∙ front_and_rest blocks (drop offset file) split.whole

  -- a gate that isn't open, or is the last byte
  pub shut : offset + 1 < length file → (get_or file offset 0 ≡ open_gate → ⊥) → IsTail (drop offset file)
  shut within is_not = subst IsTail (sym (two_bytes file offset within)) is_not

  pub at_the_end : length file ≤ offset + 1 → IsTail (drop offset file)
  at_the_end short = short_tail (drop offset file) (omega (arith, length-drop offset file))

  module _ (within : offset + 1 < length file) (gate : get_or file offset 0 ≡ open_gate) where
    pub no_line_feed : (get_or file (offset + 1) 0 ≡ line_feed → ⊥) → blocks_in file ≡ Err (1 + rows_in (take offset file))
    no_line_feed is_not =
        let feed = get_or file (offset + 1) 0 in
        stands_so_far
        ∙ ap (λ (l : List ℕ). all_before blocks (blocks_from (1 + rows_in (front blocks)) AtGate l)) (two_bytes file offset within
        ∙ ap (λ (g : ℕ). g ∷ feed ∷ drop (offset + 2) file) gate)
        ∙ ap (all_before blocks) (cond-false (feed == line_feed) _ _ (ne_eqb feed line_feed is_not))
        ∙ ap (λ (l : List ℕ). Err (1 + rows_in l)) (sym taken)

    module _ (feed : get_or file (offset + 1) 0 ≡ line_feed) where
      pub breaks_off : IsUnfinished (drop (offset + 2) file) → blocks_in file ≡ Err (1 + rows_in file)
      breaks_off unfinished =
          let rest = drop (offset + 2) file in
          let first = 1 + rows_in (front blocks) in
          let counts : first + 1 + rows_in rest ≡ 1 + rows_in file =
          omega (
            arith,
            ap rows_in split.front_is,
            rows_in-append (front blocks) (drop offset file),
            ap rows_in (gate_and_feed file offset within gate feed),
            rows_in-append (open_gate ∷ line_feed ∷ []) rest,
          ) in
          stands_so_far
          ∙ ap (λ (l : List ℕ). all_before blocks (blocks_from first AtGate l)) (gate_and_feed file offset within gate feed)
          ∙ ap (all_before blocks) (unfinished_block (first + 1) rest unfinished)
          ∙ ap (λ (n : ℕ). Err n) counts

      pub one_block_more : (len : ℕ) → len ≤ length (drop (offset + 2) file) → IsBlock (take len (drop (offset + 2) file))
          → IsSplit file (blocks ++ take len (drop (offset + 2) file) ∷ []) (offset + 2 + len)
      one_block_more len fits is =
          let rest = drop (offset + 2) file in
          let block = take len rest in
          let block_len : length block ≡ len = length-take-le len rest fits in
          record {
            within = omega (arith, length-drop (offset + 2) file);
            offset_is = omega (arith, length-front_more blocks block, block_len, split.offset_is);
            front_is =
                split.front_is
                ∙ ap (λ (l : List ℕ). front blocks ++ l) (gate_and_feed file offset within gate feed
                ∙ ap (λ (l : List ℕ). open_gate ∷ line_feed ∷ l) (sym (take-append-drop len rest)))
                ∙ front_more blocks block (drop len rest)
                ∙ ap (λ (l : List ℕ). front (blocks ++ block ∷ []) ++ l) (drop-drop len (offset + 2) file);
            whole = all_and_one blocks block split.whole is;
          }
