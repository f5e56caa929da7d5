-- What a crash leaves while a block is put.
use Rattle.std.proofs.Common.{◌≡◌, ℕ, ◌+◌, ◌≤◌, List, [], ◌∷◌, ◌++◌, length, get_or, take, drop, Ok, refl, sym, ◌∙◌, ap, subst, arith}
use Rattle.std.{proofs.Common.{append_assoc, length-append, take-append-drop}, specs.List.{AllByRecursion}}
use Rattle.std.proofs.lemmas.List.{take_at, drop_at, drop_more, take-take, take_all}
use Rattle.title_disk.specs.Crashes.{Holds, Torn, Follows}
use Rattle.title_journal.specs.{Blocks.{blocks_in, front, open_gate, closed_gate, line_feed, IsBlock}, Laws.Gates.{closed_tail}}
use Rattle.title_journal.specs.Rest.{at_rest, IsBeforeOrAfter, StandsAlike}
use Rattle.title_journal.proofs.Standing.{stands, front_more, behind_any_gate}

-- a file begins with what stood
abbrev pub Begins : List ℕ → List ℕ → Type 0
Begins old file = take (length old) file ≡ old

pub begins_itself : (old : List ℕ) → Begins old old
begins_itself old = take_all (length old) old (omega arith)

-- a write behind it keeps it
pub keeps_beginning : (old : List ℕ) (at n : ℕ) (was now : List ℕ → Type 0) → length old ≤ at → ((f : List ℕ) → was f → Begins old f)
    → Follows (Torn at n) was now
    → (f : List ℕ) → now f → Begins old f
keeps_beginning old at n was now behind begins follows f left =
    let from = follows f left in
    sym (take-take (length old) at f behind) ∙ ap (λ (l : List ℕ). take (length old) l) from.2.before
    ∙ take-take (length old) at from.0 behind ∙ begins from.0 from.1

module _ (blocks : List (List ℕ)) (whole : AllByRecursion IsBlock blocks) where
  pub length-at_rest : length (at_rest blocks) ≡ length (front blocks) + 1
  length-at_rest = length-append (front blocks) (closed_gate ∷ [])

  -- what begins with a file at rest stands for the same
  pub begins_alike : (old file : List ℕ) → old ≡ at_rest blocks → Begins old file → StandsAlike old file
  begins_alike old file is begins =
      let rest = drop (length old) file in
      let whole_file : file ≡ front blocks ++ (closed_gate ∷ rest) =
      sym (take-append-drop (length old) file) ∙ ap (λ (l : List ℕ). l ++ rest) (begins ∙ is)
      ∙ append_assoc (front blocks) (closed_gate ∷ []) rest in
      ap blocks_in whole_file ∙ stands blocks (closed_gate ∷ rest) whole (closed_tail rest)
      ∙ sym (ap blocks_in is ∙ stands blocks (closed_gate ∷ []) whole tt)

  module _ (block : List ℕ) (is_block : IsBlock block) where
    -- the block behind its gate, whatever byte that is
    abbrev pub gated : ℕ → List ℕ
    gated gate = front blocks ++ (gate ∷ line_feed ∷ (block ++ closed_gate ∷ []))

    pub staged_is : (old : List ℕ) → old ≡ at_rest blocks → old ++ (line_feed ∷ (block ++ closed_gate ∷ [])) ≡ gated closed_gate
    staged_is old is = ap (λ (l : List ℕ). l ++ (line_feed ∷ (block ++ closed_gate ∷ []))) is
        ∙ append_assoc (front blocks) (closed_gate ∷ []) (line_feed ∷ (block ++ closed_gate ∷ []))

    front_of_gated : (gate : ℕ) → take (length (front blocks)) (gated gate) ≡ front blocks
    front_of_gated gate = take_at (front blocks) (gate ∷ line_feed ∷ (block ++ closed_gate ∷ [])) (length (front blocks)) refl

    rest_of_gated : (gate : ℕ) → drop (length (front blocks) + 1) (gated gate) ≡ line_feed ∷ (block ++ closed_gate ∷ [])
    rest_of_gated gate =
        ap (λ (l : List ℕ). drop (length (front blocks) + 1) l)
        (sym (append_assoc (front blocks) (gate ∷ []) (line_feed ∷ (block ++ closed_gate ∷ []))))
        ∙ drop_at (front blocks ++ gate ∷ []) (line_feed ∷ (block ++ closed_gate ∷ [])) (length (front blocks) + 1)
        (length-append (front blocks) (gate ∷ []))

    pub length-gated : (gate : ℕ) → length (gated gate) ≡ length (front blocks) + length block + 3
    length-gated gate = omega (
      arith,
      length-append (front blocks) (gate ∷ line_feed ∷ (block ++ closed_gate ∷ [])),
      length-append block (closed_gate ∷ []),
    )

    -- the block stands whole behind each byte that a torn gate may be
    pub torn_gate : (old file : List ℕ) → blocks_in old ≡ Ok blocks → Torn (length (front blocks)) 1 (gated closed_gate) file
        → IsBeforeOrAfter old block file
    torn_gate old file stand torn =
        let g = length (front blocks) in
        let gate = get_or file g 0 in
        let rest : drop g file ≡ gate ∷ line_feed ∷ (block ++ closed_gate ∷ []) =
        drop_more file g 0 (omega (arith, torn.no_shorter, length-gated closed_gate))
        ∙ ap (λ (l : List ℕ). gate ∷ l) (torn.after ∙ rest_of_gated closed_gate) in
        let whole_file : file ≡ gated gate =
        sym (take-append-drop g file) ∙ ap (λ (l : List ℕ). l ++ drop g file) (torn.before ∙ front_of_gated closed_gate)
        ∙ ap (λ (l : List ℕ). front blocks ++ l) rest in
        subst (IsBeforeOrAfter old block) (sym whole_file) (behind_any_gate blocks block old gate whole is_block stand)

    -- with the gate open the file is at rest again
    pub opened : (file : List ℕ) → Holds (gated closed_gate) (length (front blocks)) (open_gate ∷ []) file
        → file ≡ at_rest (blocks ++ block ∷ [])
    opened file holds =
        holds
        ∙ ap (λ (l : List ℕ). l ++ (open_gate ∷ []) ++ drop (length (front blocks) + 1) (gated closed_gate)) (front_of_gated closed_gate)
        ∙ ap (λ (l : List ℕ). front blocks ++ (open_gate ∷ []) ++ l) (rest_of_gated closed_gate)
        ∙ append_assoc (front blocks) (open_gate ∷ []) (line_feed ∷ (block ++ closed_gate ∷ []))
        ∙ front_more blocks block (closed_gate ∷ [])
