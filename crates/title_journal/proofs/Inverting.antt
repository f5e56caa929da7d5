-- What stands in a file says how the file is made.
use Rattle.std.proofs.Common.{◌≡◌, ◌≢◌, inl, inr, ℕ, ◌+◌, List, [], ◌∷◌, ◌++◌, length, drop, Result, Ok, Err, cond, refl, sym, ◌∙◌, ap}
use Rattle.std.{proofs.Common.{subst, append_assoc}, specs.{Prelude.{◌==◌, nat_eq}, List.{AllByRecursion, flat_map, starts_with}}}
use Rattle.std.proofs.lemmas.Bool.{cases_eq, cases_Bool, cond-true, cond-false, eq-eqb, ne_eqb, Decides.{Decides-eqb}}
use Rattle.std.proofs.lemmas.Slice.Eq.{starts_is}
use Rattle.title_journal.specs.Blocks.{State, AtGate, InRow, blocks_from, blocks_in, before_others, counted, head, ends_block, line_feed}
use Rattle.title_journal.specs.{Blocks.{open_gate, IsRow, IsBlock}, Rest.{IsTail, Stands}, Laws.Gates.{same_ok}}
use Rattle.title_journal.specs.Laws.Rows.{SomeRows, no_rows, one_row_more, last_row_more}

Stood : Type 0
Stood = Result (List (List ℕ)) ℕ

before_ok : (block : List ℕ) (r : Result (List (List ℕ)) ℕ) (blocks : List (List ℕ)) → before_others block r ≡ Ok blocks
    → (others : List (List ℕ)) × (r ≡ Ok others) × (blocks ≡ block ∷ others)
before_ok block (Ok others) blocks e = (others, refl, sym (same_ok (block ∷ others) blocks e))
before_ok block (Err row) blocks e = absurd cc

row_more : (row : List ℕ) (byte : ℕ) → IsRow row → byte ≢ line_feed → IsRow (row ++ byte ∷ [])
row_more [] byte is other = (other, tt)
row_more (first ∷ row) byte is other = (is.0, row_more row byte is.1 other)

-- what a reader has behind it
abbrev Before : State → Type 0
Before AtGate = Unit {0}
Before (InRow rows start) = SomeRows rows × IsRow start

-- what it finds
abbrev Found : State → List ℕ → List (List ℕ) → Type 0
Found AtGate bytes blocks = (tail : List ℕ) × (bytes ≡ flat_map counted blocks ++ tail) × AllByRecursion IsBlock blocks × IsTail tail
Found (InRow rows start) bytes blocks =
    (block : List ℕ) × (others : List (List ℕ)) × (tail : List ℕ) × (blocks ≡ block ∷ others)
    × (rows ++ (start ++ bytes) ≡ block ++ (flat_map counted others ++ tail))
    × IsBlock block × AllByRecursion IsBlock others × IsTail tail

found : (number : ℕ) (state : State) (bytes : List ℕ) (blocks : List (List ℕ)) → Before state → blocks_from number state bytes ≡ Ok blocks
    → Found state bytes blocks
found number AtGate [] blocks before e = subst (Found AtGate []) (same_ok [] blocks e) ([], refl, tt, tt)
found number AtGate (gate ∷ []) blocks before e = subst (Found AtGate (gate ∷ [])) (same_ok [] blocks e) (gate ∷ [], refl, tt, tt)
found number AtGate (gate ∷ feed ∷ bytes) blocks before e = elim (cases_eq gate open_gate) [
  | inl is_open ↦
      let opens = cond-true (gate == open_gate) (cond (feed == line_feed) (blocks_from (number + 1) (InRow [] []) bytes) (Err number))
      (Ok []) (eq-eqb gate open_gate is_open) in
      elim (cases_eq feed line_feed) [
        | inl is_feed ↦
            let goes_on = cond-true (feed == line_feed) (blocks_from (number + 1) (InRow [] []) bytes) (Err number)
            (eq-eqb feed line_feed is_feed) in
            let rest = found (number + 1) (InRow [] []) bytes blocks (no_rows, tt) (sym goes_on ∙ sym opens ∙ e) in
            let blocks_are : rest.0 ∷ rest.1 ≡ blocks = sym rest.3 in
            subst (Found AtGate (gate ∷ feed ∷ bytes)) blocks_are (
              rest.2,
              ap (λ (g : ℕ). g ∷ feed ∷ bytes) is_open ∙ ap (λ (f : ℕ). open_gate ∷ f ∷ bytes) is_feed
                  ∙ ap (λ (l : List ℕ). open_gate ∷ line_feed ∷ l) (rest.4 ∙ sym (append_assoc rest.0 (flat_map counted rest.1) rest.2)),
              (rest.5, rest.6),
              rest.7,
            )
        | inr other ↦
            let stops = cond-false (feed == line_feed) (blocks_from (number + 1) (InRow [] []) bytes) (Err number)
            (ne_eqb feed line_feed other) in
            let wrong = sym stops ∙ sym opens ∙ e in
            absurd cc
      ]
  | inr shut ↦
      let closes = cond-false (gate == open_gate) (cond (feed == line_feed) (blocks_from (number + 1) (InRow [] []) bytes) (Err number))
      (Ok []) (ne_eqb gate open_gate shut) in
      subst (Found AtGate (gate ∷ feed ∷ bytes)) (same_ok [] blocks (sym closes ∙ e)) (gate ∷ feed ∷ bytes, refl, tt, shut)
]
found number (InRow rows start) [] blocks before e = absurd cc
found number (InRow rows start) (byte ∷ bytes) blocks before e =
    let text = rows ++ (start ++ line_feed ∷ []) in
    let ended = before_others text (blocks_from (number + 1) AtGate bytes) in
    let more = blocks_from (number + 1) (InRow text []) bytes in
    let on = blocks_from number (InRow rows (start ++ byte ∷ [])) bytes in
    let regrouped : text ++ bytes ≡ rows ++ (start ++ (line_feed ∷ bytes)) = append_assoc rows (start ++ line_feed ∷ []) bytes
    ∙ ap (λ (l : List ℕ). rows ++ l) (append_assoc start (line_feed ∷ []) bytes) in
    elim (cases_eq byte line_feed) [
      | inl is_feed ↦
          let feeds = cond-true (byte == line_feed) (cond (ends_block start) ended more) on (eq-eqb byte line_feed is_feed) in
          let with_feed : rows ++ (start ++ (byte ∷ bytes)) ≡ text ++ bytes = ap (λ (b : ℕ). rows ++ (start ++ (b ∷ bytes))) is_feed
          ∙ sym regrouped in
          elim (cases_Bool (ends_block start)) [
            | inl ends ↦
                let others = before_ok text (blocks_from (number + 1) AtGate bytes) blocks
                (sym (cond-true (ends_block start) ended more ends) ∙ sym feeds ∙ e) in
                let rest = found (number + 1) AtGate bytes others.0 tt others.1 in (
                  text,
                  others.0,
                  rest.0,
                  others.2,
                  with_feed ∙ ap (λ (l : List ℕ). text ++ l) rest.1,
                  last_row_more rows start before.0 before.1 ends,
                  rest.2,
                  rest.3,
                )
            | inr goes_on ↦
                let rest = found (number + 1) (InRow text []) bytes blocks (one_row_more rows start before.0 before.1 goes_on, tt)
                (sym (cond-false (ends_block start) ended more goes_on) ∙ sym feeds ∙ e) in
                (rest.0, rest.1, rest.2, rest.3, with_feed ∙ rest.4, rest.5, rest.6, rest.7)
          ]
      | inr other ↦
          let goes_on = cond-false (byte == line_feed) (cond (ends_block start) ended more) on (ne_eqb byte line_feed other) in
          let rest = found number (InRow rows (start ++ byte ∷ [])) bytes blocks (before.0, row_more start byte before.1 other)
          (sym goes_on ∙ e) in
          let same : rows ++ (start ++ (byte ∷ bytes)) ≡ rows ++ ((start ++ byte ∷ []) ++ bytes) =
          ap (λ (l : List ℕ). rows ++ l) (sym (append_assoc start (byte ∷ []) bytes)) in
          (rest.0, rest.1, rest.2, rest.3, same ∙ rest.4, rest.5, rest.6, rest.7)
    ]

-- a file in which blocks stand is the head, these blocks, and a tail
pub made_of : (file : List ℕ) (blocks : List (List ℕ)) → blocks_in file ≡ Ok blocks → Stands file blocks
made_of file blocks stand =
    let rest = drop (length head) file in
    let read = blocks_from 2 AtGate rest in
    elim (cases_Bool (starts_with nat_eq file head)) [
      | inl starts ↦
          let file_is : file ≡ head ++ rest = (starts_is Decides-eqb file head (starts_with nat_eq file head) refl).0 starts in
          let parts = found 2 AtGate rest blocks tt (sym (cond-true (starts_with nat_eq file head) read (Err 1) starts) ∙ stand) in
          record {
            tail = parts.0;
            parts = file_is ∙ ap (λ (l : List ℕ). head ++ l) parts.1 ∙ sym (append_assoc head (flat_map counted blocks) parts.0);
            whole = parts.2;
            ends = parts.3;
          }
      | inr other ↦ let wrong = sym (cond-false (starts_with nat_eq file head) read (Err 1) other) ∙ stand in absurd cc
    ]
