-- What a crash leaves while the end of a file is repaired.
use Rattle.std.proofs.Common.{◌≡◌, ℕ, zero, suc, ◌+◌, ◌-◌, ◌≤◌, List, [], ◌∷◌, ◌++◌, length, take, drop, Ok, refl, sym, ◌∙◌, ap, arith}
use Rattle.std.{proofs.Common.{length-append, length-drop, take-append-drop}, specs.List.{AllByRecursion}}
use Rattle.std.proofs.lemmas.List.{append-nil, take_at, take_all, drop_all}
use Rattle.title_disk.specs.Crashes.{Holds, Torn, Cut}
use Rattle.title_journal.specs.{Blocks.{blocks_in, front, closed_gate, IsBlock}, Rest.{IsTail, at_rest, StandsAlike}}
use Rattle.title_journal.{proofs.Standing.{stands}, specs.Laws.Gates.{short_tail, front_of_tail}}

pub take_past : (xs ys : List ℕ) (m n : ℕ) → m ≡ length xs + n → take m (xs ++ ys) ≡ xs ++ take n ys
take_past [] ys m n is = let same : m ≡ n = omega arith in ap (λ (k : ℕ). take k ys) same
take_past (x ∷ xs) ys zero n is = absurd (omega arith)
take_past (x ∷ xs) ys (suc m) n is = ap (λ (l : List ℕ). x ∷ l) (take_past xs ys m n (omega arith))

module _ (blocks : List (List ℕ)) (whole : AllByRecursion IsBlock blocks) (file tail : List ℕ) (parts : file ≡ front blocks ++ tail)
    (ends : IsTail tail) where
  stand : blocks_in file ≡ Ok blocks
  stand = ap blocks_in parts ∙ stands blocks tail whole ends

  -- any cut behind the blocks keeps them
  pub cut_alike : (c : List ℕ) → Cut (length (front blocks)) file c → StandsAlike file c
  cut_alike c cut =
      let n = length c - length (front blocks) in
      let long : length (front blocks) ≤ length c = omega (arith, cut.no_shorter, ap length parts, length-append (front blocks) tail) in
      let is : c ≡ front blocks ++ take n tail = sym cut.front ∙ ap (λ (l : List ℕ). take (length c) l) parts
      ∙ take_past (front blocks) tail (length c) n (omega arith) in
      ap blocks_in is ∙ stands blocks (take n tail) whole (front_of_tail n tail ends) ∙ sym stand

  pub cut_done : take (length (front blocks)) file ≡ front blocks
  cut_done = ap (λ (l : List ℕ). take (length (front blocks)) l) parts ∙ take_at (front blocks) tail (length (front blocks)) refl

  -- at most one byte behind the blocks doesn't count
  pub torn_alike : (c : List ℕ) → Torn (length (front blocks)) 1 (front blocks) c → StandsAlike file c
  torn_alike c torn =
      let g = length (front blocks) in
      let begins : take g c ≡ front blocks = torn.before ∙ take_all g (front blocks) (omega arith) in
      let is : c ≡ front blocks ++ drop g c = sym (take-append-drop g c) ∙ ap (λ (l : List ℕ). l ++ drop g c) begins in
      ap blocks_in is ∙ stands blocks (drop g c) whole (short_tail (drop g c) (omega (arith, length-drop g c, torn.no_longer))) ∙ sym stand

pub written_rest : (blocks : List (List ℕ)) (c : List ℕ) → Holds (front blocks) (length (front blocks)) (closed_gate ∷ []) c
    → c ≡ at_rest blocks
written_rest blocks c holds =
    let g = length (front blocks) in
    holds
    ∙ ap (λ (l : List ℕ). l ++ (closed_gate ∷ []) ++ drop (g + 1) (front blocks)) (take_all g (front blocks) (omega arith))
    ∙ ap (λ (l : List ℕ). front blocks ++ (closed_gate ∷ []) ++ l) (drop_all (g + 1) (front blocks) (omega arith))
    ∙ append-nil (at_rest blocks)
