-- How a file's gates are found, block by block.
use Rattle.std.proofs.Common.{◌≡◌, ℕ, ◌+◌, ◌≤◌, ◌<◌, List, [], ◌∷◌, ◌++◌, length, get_or, length-drop, take, drop, true, Ok}
use Rattle.std.proofs.Common.{refl, sym, ◌∙◌, ap, subst, arith, length-append, take-append-drop, append_assoc, Option, None, Some}
use Rattle.std.specs.{List.{AllByRecursion, starts_with, flat_map}, Prelude.{◌==◌, nat_eq, IfSome, IfNone, IsErr}}
use Rattle.std.proofs.lemmas.{List.{append-nil, drop-drop, length-take-le, flat_map_more}, Slice.Eq.{starts_is}}
use Rattle.std.proofs.lemmas.Bool.{cond-true, cond-false, ne_eqb, Decides.{Decides-eqb}}
use Rattle.title_journal.specs.{Blocks.{AtGate, blocks_from, rows_in, counted, line_feed, open_gate, IsBlock, IsUnfinished}, Rest.{IsTail}}
use Rattle.title_journal.specs.Laws.Reading.{all_before, some_blocks, unfinished_block}
use Rattle.title_journal.specs.Laws.Gates.{two_bytes, gate_and_feed, tail_is_nothing, short_tail, all_and_one}
use Rattle.title_file.specs.Fronts.{AreGates, blocks_behind, front_of}

-- the gate that was opened last is that of the last block
abbrev pub IsLast : List ℕ → List (List ℕ) → Option ℕ → Type 0
IsLast head blocks opened =
    IfSome opened (λ offset. (earlier : List (List ℕ)) × (last : List ℕ)
    × (blocks ≡ earlier ++ last ∷ []) × (offset ≡ length (front_of head earlier)))
    × IfNone opened (blocks ≡ [])

-- a file was walked up to an offset
pub record IsWalked (head file : List ℕ) (opened : Option ℕ) (offset : ℕ) : Type 0 where
  pub blocks : List (List ℕ)
  pub starts : starts_with nat_eq file head ≡ true
  pub within : offset ≤ length file
  pub offset_is : offset ≡ length (front_of head blocks)
  pub behind : drop (length head) file ≡ flat_map counted blocks ++ drop offset file
  pub whole : AllByRecursion IsBlock blocks
  pub last : IsLast head blocks opened

pub walk_begun : (head file : List ℕ) → starts_with nat_eq file head ≡ true → IsWalked head file None (length head)
walk_begun head file starts =
    let is : file ≡ head ++ drop (length head) file = (starts_is Decides-eqb file head (starts_with nat_eq file head) refl).0 starts in
    record {
      blocks = [];
      starts = starts;
      within = omega (arith, ap length is, length-append head (drop (length head) file));
      offset_is = ap length (sym (append-nil head));
      behind = refl;
      whole = tt;
      last = (tt, refl);
    }

module _ (head file : List ℕ) (opened : Option ℕ) (offset : ℕ) (walked : IsWalked head file opened offset) where
  abbrev number : ℕ
  number = 2 + rows_in (flat_map counted walked.blocks)

  stands_so_far : blocks_behind head file ≡ all_before walked.blocks (blocks_from number AtGate (drop offset file))
  stands_so_far = cond-true (starts_with nat_eq file head) _ _ walked.starts ∙ ap (blocks_from 2 AtGate) walked.behind
      ∙ some_blocks 2 walked.blocks (drop offset file) walked.whole

  -- what follows is a tail
  ended : IsTail (drop offset file) → AreGates head file (record { opened = opened; end = offset })
  ended ends = record {
    blocks = walked.blocks;
    stand = stands_so_far ∙ ap (all_before walked.blocks) (tail_is_nothing number (drop offset file) ends)
        ∙ ap Ok (append-nil walked.blocks);
    opened = walked.last.0;
    unopened = walked.last.1;
    end = walked.offset_is;
    within = walked.within;
  }

  -- a gate that isn't open
  pub shut : offset + 1 < length file → (get_or file offset 0 ≡ open_gate → ⊥)
      → AreGates head file (record { opened = opened; end = offset })
  shut within is_not = ended (subst IsTail (sym (two_bytes file offset within)) is_not)

  -- a gate that is the last byte, or none
  pub at_the_end : length file ≤ offset + 1 → AreGates head file (record { opened = opened; end = offset })
  at_the_end short = ended (short_tail (drop offset file) (omega (arith, length-drop offset file)))

  module _ (within : offset + 1 < length file) (gate : get_or file offset 0 ≡ open_gate) where
    pub no_line_feed : (get_or file (offset + 1) 0 ≡ line_feed → ⊥) → IsErr (blocks_behind head file)
    no_line_feed is_not =
        let feed = get_or file (offset + 1) 0 in
        subst IsErr (sym (stands_so_far
        ∙ ap (λ (l : List ℕ). all_before walked.blocks (blocks_from number AtGate l)) (two_bytes file offset within
        ∙ ap (λ (g : ℕ). g ∷ feed ∷ drop (offset + 2) file) gate)
        ∙ ap (all_before walked.blocks) (cond-false (feed == line_feed) _ _ (ne_eqb feed line_feed is_not)))) refl

    module _ (feed : get_or file (offset + 1) 0 ≡ line_feed) where
      pub breaks_off : IsUnfinished (drop (offset + 2) file) → IsErr (blocks_behind head file)
      breaks_off unfinished =
          subst IsErr (sym (stands_so_far
          ∙ ap (λ (l : List ℕ). all_before walked.blocks (blocks_from number AtGate l)) (gate_and_feed file offset within gate feed)
          ∙ ap (all_before walked.blocks) (unfinished_block (number + 1) (drop (offset + 2) file) unfinished))) refl

      pub one_block_more : (len : ℕ) → len ≤ length (drop (offset + 2) file) → IsBlock (take len (drop (offset + 2) file))
          → IsWalked head file (Some offset) (offset + 2 + len)
      one_block_more len fits is =
          let rest = drop (offset + 2) file in
          let block = take len rest in
          let more = walked.blocks ++ block ∷ [] in
          let front_is : flat_map counted walked.blocks ++ counted block ≡ flat_map counted more =
          flat_map_more counted [] walked.blocks block in
          record {
            blocks = more;
            starts = walked.starts;
            within = omega (arith, length-drop (offset + 2) file);
            offset_is =
                omega (
                  arith,
                  length-take-le len rest fits,
                  walked.offset_is,
                  length-append head (flat_map counted walked.blocks),
                  length-append head (flat_map counted more),
                  length-append (flat_map counted walked.blocks) (counted block),
                  ap length front_is,
                );
            behind =
                walked.behind
                ∙ ap (λ (l : List ℕ). flat_map counted walked.blocks ++ l) (gate_and_feed file offset within gate feed
                ∙ ap (λ (l : List ℕ). open_gate ∷ line_feed ∷ l) (sym (take-append-drop len rest)))
                ∙ sym (append_assoc (flat_map counted walked.blocks) (counted block) (drop len rest))
                ∙ ap (λ (l : List ℕ). l ++ drop len rest) front_is
                ∙ ap (λ (l : List ℕ). flat_map counted more ++ l) (drop-drop len (offset + 2) file);
            whole = all_and_one walked.blocks block walked.whole is;
            last = ((walked.blocks, block, refl, walked.offset_is), tt);
          }
