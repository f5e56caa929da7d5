-- What files of blocks stand for, whatever lies behind a gate that isn't open.
use Rattle.std.proofs.Common.{◌≡◌, inl, inr, ℕ, ◌+◌, List, [], ◌∷◌, ◌++◌, length, Ok, sym, ◌∙◌, ap, arith, append_assoc}
use Rattle.std.{proofs.{Common.{length-append}, lemmas.List.{append-nil, flat_map_more}}, specs.List.{AllByRecursion}}
use Rattle.std.proofs.lemmas.Bool.{cases_eq}
use Rattle.title_journal.specs.Blocks.{blocks_in, front, counted, head, open_gate, closed_gate, line_feed, IsBlock}
use Rattle.title_journal.specs.{Rest.{IsTail, IsBeforeOrAfter, with_block}, Laws.Reading.{all_before, front_and_rest}}
use Rattle.title_journal.specs.Laws.Gates.{tail_is_nothing, all_and_one}

pub stands : (blocks : List (List ℕ)) (tail : List ℕ) → AllByRecursion IsBlock blocks → IsTail tail
    → blocks_in (front blocks ++ tail) ≡ Ok blocks
stands blocks tail whole ends =
    front_and_rest blocks tail whole ∙ ap (all_before blocks) (tail_is_nothing _ tail ends) ∙ ap Ok (append-nil blocks)

-- one block more that counts
pub front_more : (blocks : List (List ℕ)) (block rest : List ℕ)
    → front blocks ++ (counted block ++ rest) ≡ front (blocks ++ block ∷ []) ++ rest
front_more blocks block rest =
    sym (append_assoc (front blocks) (counted block) rest) ∙ ap (λ (l : List ℕ). l ++ rest) (flat_map_more counted head blocks block)

pub length-front_more : (blocks : List (List ℕ)) (block : List ℕ)
    → length (front (blocks ++ block ∷ [])) ≡ length (front blocks) + length block + 2
length-front_more blocks block =
    omega (
      arith,
      ap length (front_more blocks block []),
      length-append (front blocks) (counted block ++ []),
      length-append (counted block) [],
      length-append (front (blocks ++ block ∷ [])) [],
    )

-- a whole block behind any gate counts or it doesn't
pub behind_any_gate : (blocks : List (List ℕ)) (block file : List ℕ) (gate : ℕ) → AllByRecursion IsBlock blocks → IsBlock block
    → blocks_in file ≡ Ok blocks
    → IsBeforeOrAfter file block (front blocks ++ (gate ∷ line_feed ∷ (block ++ closed_gate ∷ [])))
behind_any_gate blocks block file gate whole is stand = elim (cases_eq gate open_gate) [
  | inl is_open ↦
      let with_gate = ap (λ (g : ℕ). blocks_in (front blocks ++ (g ∷ line_feed ∷ (block ++ closed_gate ∷ [])))) is_open in
      inr (with_gate ∙ ap blocks_in (front_more blocks block (closed_gate ∷ []))
      ∙ stands (blocks ++ block ∷ []) (closed_gate ∷ []) (all_and_one blocks block whole is) tt
      ∙ sym (ap (with_block block) stand))
  | inr shut ↦ inl (stands blocks (gate ∷ line_feed ∷ (block ++ closed_gate ∷ [])) whole shut ∙ sym stand)
]
