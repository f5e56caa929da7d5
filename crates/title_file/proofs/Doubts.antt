-- What is in doubt is what is read once it is written again, and stands for what stood meanwhile.
use Rattle.std.proofs.Common.{◌≡◌, ◌⊎◌, inl, inr, ℕ, ◌+◌, ◌≤◌, List, [], ◌∷◌, ◌++◌, length, take, drop, true, Ok}
use Rattle.std.proofs.Common.{refl, sym, ◌∙◌, ap, subst, arith, length-append, append_assoc, Option, None, Some}
use Rattle.std.{specs.{List.{AllByRecursion, starts_with, flat_map}, Prelude.{nat_eq, IfSome, IfNone}}, proofs.lemmas.Slice.Eq.{starts_is}}
use Rattle.std.proofs.lemmas.{List.{append-nil, take_at, drop_at, drop_all, flat_map_more}, Bool.{cases_eq, cond-true}}
use Rattle.std.proofs.lemmas.Bool.Decides.{Decides-eqb}
use Rattle.title_journal.specs.{Blocks.{AtGate, blocks_from, rows_in, counted, line_feed, open_gate, closed_gate, IsBlock}, Rest.{IsTail}}
use Rattle.title_journal.specs.Laws.Reading.{all_before, some_blocks}
use Rattle.title_journal.specs.Laws.Gates.{tail_is_nothing, closed_tail, short_tail, front_of_tail, all_and_one, same_ok}
use Rattle.title_file.specs.{Calls.{written, after}, Fronts.{AreGates, blocks_behind, front_of}, declared.gates.Gates.{Gates}}
use Rattle.title_file.specs.InDoubt.{UnderWay, Putting, Opening, Cutting, Closing, IsInDoubt, with_gate, with_tail, written_again}
use Rattle.title_file.specs.InDoubt.{behind_gate, read_of, kept_of, CanBe, MayBecome, with_opened}

-- ---- what stands

pub stands : (head : List ℕ) (blocks : List (List ℕ)) (tail : List ℕ) → AllByRecursion IsBlock blocks → IsTail tail
    → blocks_behind head (front_of head blocks ++ tail) ≡ Ok blocks
stands head blocks tail whole ends =
    let file = front_of head blocks ++ tail in
    let rest = flat_map counted blocks ++ tail in
    let parts : file ≡ head ++ rest = append_assoc head (flat_map counted blocks) tail in
    let starts : starts_with nat_eq file head ≡ true = (starts_is Decides-eqb file head (starts_with nat_eq file head) refl).1 rest parts in
    cond-true (starts_with nat_eq file head) _ _ starts
    ∙ ap (blocks_from 2 AtGate) (ap (drop (length head)) parts ∙ drop_at head rest (length head) refl)
    ∙ some_blocks 2 blocks tail whole
    ∙ ap (all_before blocks) (tail_is_nothing (2 + rows_in (flat_map counted blocks)) tail ends)
    ∙ ap Ok (append-nil blocks)

-- ---- bytes written over bytes

-- one byte over another
over_one : (front rest : List ℕ) (old new offset : ℕ) → length front ≡ offset
    → after (written offset (new ∷ []) true) (front ++ old ∷ rest) ≡ front ++ new ∷ rest
over_one front rest old new offset is =
    let content = front ++ old ∷ rest in
    let regrouped : content ≡ (front ++ old ∷ []) ++ rest = sym (append_assoc front (old ∷ []) rest) in
    let behind : drop (offset + 1) content ≡ rest =
    ap (drop (offset + 1)) regrouped ∙ drop_at (front ++ old ∷ []) rest (offset + 1) (omega (arith, is, length-append front (old ∷ []))) in
    ap (λ (l : List ℕ). l ++ new ∷ [] ++ drop (offset + 1) content) (take_at front (old ∷ rest) offset is)
    ∙ ap (λ (l : List ℕ). (front ++ new ∷ []) ++ l) behind
    ∙ append_assoc front (new ∷ []) rest

-- a tail over one that is no longer
over_tail : (front tail kept : List ℕ) (end : ℕ) → length front ≡ end → (tail ≡ []) ⊎ (length kept ≤ length tail)
    → with_tail end tail (front ++ kept) ≡ front ++ tail
over_tail front [] kept end is longer = take_at front kept end is ∙ sym (append-nil front)
over_tail front (byte ∷ bytes) kept end is (inl none) = absurd cc
over_tail front (byte ∷ bytes) kept end is (inr shorter) =
    let content = front ++ kept in
    let behind : drop (end + length (byte ∷ bytes)) content ≡ [] =
    drop_all (end + length (byte ∷ bytes)) content (omega (arith, shorter, is, length-append front kept)) in
    ap (λ (l : List ℕ). l ++ (byte ∷ bytes) ++ drop (end + length (byte ∷ bytes)) content) (take_at front kept end is)
    ∙ ap (λ (l : List ℕ). (front ++ byte ∷ bytes) ++ l) behind
    ∙ append-nil (front ++ byte ∷ bytes)

-- ---- written again

-- the last open gate, where it stands open
gate_again : (head : List ℕ) (blocks : List (List ℕ)) (kept : List ℕ) (opened : Option ℕ)
    → IfSome opened (λ offset. (earlier : List (List ℕ)) × (last : List ℕ)
    × (blocks ≡ earlier ++ last ∷ []) × (offset ≡ length (front_of head earlier)))
    → with_gate opened (front_of head blocks ++ kept) ≡ front_of head blocks ++ kept
gate_again head blocks kept None is = refl
gate_again head blocks kept (Some offset) is =
    let earlier = is.0 in
    let last = is.1 in
    let front = front_of head earlier in
    let rest = line_feed ∷ (last ++ kept) in
    let regrouped : front_of head blocks ++ kept ≡ front ++ open_gate ∷ rest =
    ap (λ (b : List (List ℕ)). front_of head b ++ kept) is.2
    ∙ ap (λ (l : List ℕ). l ++ kept) (sym (flat_map_more counted head earlier last))
    ∙ append_assoc front (counted last) kept in
    ap (with_gate (Some offset)) regrouped ∙ over_one front rest open_gate open_gate offset (sym is.3) ∙ sym regrouped

module _ (head : List ℕ) (blocks : List (List ℕ)) (whole : AllByRecursion IsBlock blocks) where
  -- where no gate is in doubt that is read as open
  tail_again : (tail kept : List ℕ) (gates : Gates) → IsTail tail → (tail ≡ []) ⊎ (length kept ≤ length tail)
      → AreGates head (front_of head blocks ++ tail) gates
      → written_again (front_of head blocks ++ tail) gates (front_of head blocks ++ kept) ≡ front_of head blocks ++ tail
  tail_again tail kept gates ends longer are =
      let front = front_of head blocks in
      let blocks_are : are.blocks ≡ blocks = same_ok are.blocks blocks (sym are.stand ∙ stands head blocks tail whole ends) in
      let end_is : length front ≡ gates.end = sym (are.end ∙ ap (λ (b : List (List ℕ)). length (front_of head b)) blocks_are) in
      let opened = subst (λ (b : List (List ℕ)). IfSome gates.opened (λ offset. (earlier : List (List ℕ)) × (last : List ℕ)
      × (b ≡ earlier ++ last ∷ []) × (offset ≡ length (front_of head earlier)))) blocks_are are.opened in
      ap (λ (l : List ℕ). with_tail gates.end l (with_gate gates.opened (front ++ kept))) (drop_at front tail gates.end end_is)
      ∙ ap (with_tail gates.end tail) (gate_again head blocks kept gates.opened opened)
      ∙ over_tail front tail kept gates.end end_is longer

  module _ (block : List ℕ) (is_block : IsBlock block) where
    abbrev more : List (List ℕ)
    more = blocks ++ block ∷ []

    at_rest : front_of head blocks ++ behind_gate block open_gate ≡ front_of head more ++ closed_gate ∷ []
    at_rest = sym (append_assoc (front_of head blocks) (counted block) (closed_gate ∷ []))
        ∙ ap (λ (l : List ℕ). l ++ closed_gate ∷ []) (flat_map_more counted head blocks block)

    -- the gate that is in doubt is the last open one
    gate_opened : (opened : Option ℕ) (kept : ℕ)
        → IfSome opened (λ offset. (earlier : List (List ℕ)) × (last : List ℕ)
        × (more ≡ earlier ++ last ∷ []) × (offset ≡ length (front_of head earlier)))
        → IfNone opened (more ≡ [])
        → with_gate opened (front_of head blocks ++ behind_gate block kept) ≡ front_of head blocks ++ behind_gate block open_gate
    gate_opened None kept is none = absurd (omega (arith, ap length none, length-append blocks (block ∷ [])))
    gate_opened (Some offset) kept is none =
        let earlier = is.0 in
        let last = is.1 in
        let many : length earlier ≡ length blocks =
        omega (arith, ap length is.2, length-append blocks (block ∷ []), length-append earlier (last ∷ [])) in
        let same : earlier ≡ blocks =
        sym (take_at earlier (last ∷ []) (length blocks) many) ∙ ap (take (length blocks)) (sym is.2)
        ∙ take_at blocks (block ∷ []) (length blocks) refl in
        over_one (front_of head blocks) (line_feed ∷ (block ++ closed_gate ∷ [])) kept open_gate offset
        (sym (is.3 ∙ ap (λ (b : List (List ℕ)). length (front_of head b)) same))

    opened_again : (read kept : ℕ) (gates : Gates) → read ≡ open_gate
        → AreGates head (front_of head blocks ++ behind_gate block read) gates
        → written_again (front_of head blocks ++ behind_gate block read) gates (front_of head blocks ++ behind_gate block kept)
        ≡ front_of head blocks ++ behind_gate block read
    opened_again read kept gates is are =
        let front = front_of head more in
        let closed = closed_gate ∷ [] in
        let seen_is : front_of head blocks ++ behind_gate block read ≡ front ++ closed =
        ap (λ (g : ℕ). front_of head blocks ++ behind_gate block g) is ∙ at_rest in
        let blocks_are : are.blocks ≡ more = same_ok are.blocks more (sym are.stand ∙ ap (blocks_behind head) seen_is
        ∙ stands head more closed (all_and_one blocks block whole is_block) tt) in
        let end_is : length front ≡ gates.end = sym (are.end ∙ ap (λ (b : List (List ℕ)). length (front_of head b)) blocks_are) in
        let opened = subst (λ (b : List (List ℕ)). IfSome gates.opened (λ offset. (earlier : List (List ℕ)) × (last : List ℕ)
        × (b ≡ earlier ++ last ∷ []) × (offset ≡ length (front_of head earlier)))) blocks_are are.opened in
        let unopened = subst (λ (b : List (List ℕ)). IfNone gates.opened (b ≡ [])) blocks_are are.unopened in
        ap (λ (s : List ℕ). written_again s gates (front_of head blocks ++ behind_gate block kept)) seen_is
        ∙ ap (λ (l : List ℕ). with_tail gates.end l (with_gate gates.opened (front_of head blocks ++ behind_gate block kept)))
        (drop_at front closed gates.end end_is)
        ∙ ap (with_tail gates.end closed) (gate_opened gates.opened kept opened unopened ∙ at_rest)
        ∙ over_tail front closed closed gates.end end_is (inr (omega arith))
        ∙ sym seen_is

  same_length : (block : List ℕ) (read kept : ℕ) → length (behind_gate block kept) ≤ length (behind_gate block read)
  same_length block read kept = omega arith

  again : (under_way : UnderWay) (gates : Gates) → CanBe under_way → AreGates head (front_of head blocks ++ read_of under_way) gates
      → written_again (front_of head blocks ++ read_of under_way) gates (front_of head blocks ++ kept_of under_way)
      ≡ front_of head blocks ++ read_of under_way
  again (Putting read kept) gates can are =
      tail_again (closed_gate ∷ read) (closed_gate ∷ kept) gates (closed_tail read) (inr (omega (arith, can))) are
  again (Opening block read kept) gates can are = elim (cases_eq read open_gate) [
    | inl is_open ↦ opened_again block can read kept gates is_open are
    | inr is_not ↦
        tail_again (behind_gate block read) (behind_gate block kept) gates is_not (inr (same_length block read kept)) are
  ]
  again (Cutting kept) gates can are = tail_again [] kept gates tt (inl refl) are
  again (Closing read kept) gates can are = tail_again (read ∷ []) kept gates tt (inr can) are

  -- ---- a crash meanwhile

  crashed : (under_way : UnderWay) (bytes : List ℕ) → CanBe under_way → MayBecome under_way bytes
      → (blocks_behind head (front_of head blocks ++ bytes) ≡ Ok blocks)
      ⊎ (blocks_behind head (front_of head blocks ++ bytes) ≡ Ok (with_opened under_way blocks))
  crashed (Putting read kept) bytes can may =
      inl (stands head blocks bytes whole (subst IsTail (sym may.1) (closed_tail may.0)))
  crashed (Opening block read kept) bytes can may = elim (cases_eq may.0 open_gate) [
    | inl is_open ↦
        inr (ap (λ (l : List ℕ). blocks_behind head (front_of head blocks ++ l)) (may.1 ∙ ap (behind_gate block) is_open)
        ∙ ap (blocks_behind head) (at_rest block can)
        ∙ stands head (blocks ++ block ∷ []) (closed_gate ∷ []) (all_and_one blocks block whole can) tt)
    | inr is_not ↦ inl (stands head blocks bytes whole (subst IsTail (sym may.1) is_not))
  ]
  crashed (Cutting kept) bytes can may =
      inl (stands head blocks bytes whole (subst IsTail (sym may.1) (front_of_tail may.0 kept can)))
  crashed (Closing read kept) bytes can may = inl (stands head blocks bytes whole (short_tail bytes may))

pub written_as_read : (head seen disk : List ℕ) (under_way : UnderWay) (gates : Gates) → IsInDoubt head under_way seen disk
    → AreGates head seen gates → written_again seen gates disk ≡ seen
written_as_read head seen disk under_way gates doubt are =
    let front = front_of head doubt.blocks in
    ap (λ (s : List ℕ). written_again s gates disk) doubt.seen_is
    ∙ ap (written_again (front ++ read_of under_way) gates) doubt.disk_is
    ∙ again head doubt.blocks doubt.whole under_way gates doubt.can_be (subst (λ (s : List ℕ). AreGates head s gates) doubt.seen_is are)
    ∙ sym doubt.seen_is

pub crashed_meanwhile : (head seen disk bytes : List ℕ) (under_way : UnderWay) (doubt : IsInDoubt head under_way seen disk)
    → MayBecome under_way bytes → (blocks_behind head (front_of head doubt.blocks ++ bytes) ≡ Ok doubt.blocks)
    ⊎ (blocks_behind head (front_of head doubt.blocks ++ bytes) ≡ Ok (with_opened under_way doubt.blocks))
crashed_meanwhile head seen disk bytes under_way doubt may = crashed head doubt.blocks doubt.whole under_way bytes doubt.can_be may
