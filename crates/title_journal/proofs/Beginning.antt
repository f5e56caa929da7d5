-- What the first bytes of a file stand for.
use Rattle.std.proofs.Common.{◌≡◌, ◌⊎◌, inl, inr, ⊎_elim, ℕ, zero, suc, ◌+◌, ◌-◌, ◌≤◌, ◌<◌, false, List, [], ◌∷◌, ◌++◌, length, take}
use Rattle.std.proofs.Common.{drop, Result, Ok, Err, refl, sym, ◌∙◌, ap, subst, arith, append_assoc, length-append, length-take}
use Rattle.std.{specs.{Prelude.{IsErr, nat_eq}, List.{AllByRecursion, flat_map, starts_with}}, proofs.lemmas.List.{take-append-le}}
use Rattle.std.proofs.lemmas.{Bool.{cases_lt, cases_Bool, cond-false, Decides.{Decides-eqb}}, Slice.Eq.{starts_is}}
use Rattle.title_journal.specs.Blocks.{AtGate, InRow, blocks_from, blocks_in, before_others, counted, head, lines, rows_in, ends_block}
use Rattle.title_journal.specs.{Blocks.{line_feed, IsRow, IsBlock, IsUnfinished}, Rest.{IsTail, Stands}, Beginnings.{BeginsAs}}
use Rattle.title_journal.specs.Laws.{Reading.{one_block, unfinished_block}, Gates.{tail_is_nothing, front_of_tail}}
use Rattle.title_journal.proofs.Repairing.{take_past}

-- ---- a block that breaks off

front_of_row : (n : ℕ) (row : List ℕ) → IsRow row → IsRow (take n row)
front_of_row zero row is = tt
front_of_row (suc n) [] is = tt
front_of_row (suc n) (byte ∷ row) is = (is.0, front_of_row n row is.1)

cut_rows : (rows : List (List ℕ)) (last : List ℕ) (n : ℕ) → AllByRecursion (λ row. IsRow row × (ends_block row ≡ false)) rows → IsRow last
    → n < length (lines rows ++ (last ++ line_feed ∷ [])) → IsUnfinished (take n (lines rows ++ (last ++ line_feed ∷ [])))
cut_rows [] last n each is short = record {
  rows = [];
  start = take n last;
  text_is = take-append-le n last (line_feed ∷ []) (omega (arith, length-append last (line_feed ∷ [])));
  each = tt;
  start_row = front_of_row n last is;
}
cut_rows (row ∷ rows) last n each is short =
    let line = row ++ line_feed ∷ [] in
    let rest = lines rows ++ (last ++ line_feed ∷ []) in
    let parts : (line ++ lines rows) ++ (last ++ line_feed ∷ []) ≡ line ++ rest = append_assoc line (lines rows) (last ++ line_feed ∷ []) in
    let taken = ap (λ (l : List ℕ). take n l) parts in
    elim (cases_lt n (length line)) [
      | inl inside ↦ record {
        rows = [];
        start = take n row;
        text_is = taken ∙ take-append-le n line rest (omega arith)
            ∙ take-append-le n row (line_feed ∷ []) (omega (arith, length-append row (line_feed ∷ [])));
        each = tt;
        start_row = front_of_row n row each.0.0;
      }
      | inr behind ↦
          let m = n - length line in
          let more = cut_rows rows last m each.1 is (omega (arith, ap length parts, length-append line rest)) in
          record {
            rows = row ∷ more.rows;
            start = more.start;
            text_is = taken ∙ take_past line rest n m (omega arith) ∙ ap (λ (l : List ℕ). line ++ l) more.text_is
                ∙ sym (append_assoc line (lines more.rows) more.start);
            each = (each.0, more.each);
            start_row = more.start_row;
          }
    ]

cut_block : (block : List ℕ) (n : ℕ) → IsBlock block → n < length block → IsUnfinished (take n block)
cut_block block n is short =
    let text = lines is.rows ++ (is.last ++ line_feed ∷ []) in
    subst (λ (b : List ℕ). IsUnfinished (take n b)) (sym is.text_is)
    (cut_rows is.rows is.last n is.each is.last_row (omega (arith, ap length is.text_is)))

-- ---- blocks of which a beginning is there

-- how many bytes the first blocks have
abbrev size : List (List ℕ) → ℕ → ℕ
size blocks number = length (flat_map counted (take number blocks))

record PartBegins (blocks : List (List ℕ)) (n : ℕ) (stands : Result (List (List ℕ)) ℕ) : Type 0 where
  number : ℕ
  within : number ≤ length blocks
  reached : size blocks number ≤ n
  whole_or_refused :
      ((stands ≡ Ok (take number blocks)) × ((n ≤ size blocks number + 1) ⊎ (number ≡ length blocks)))
      ⊎ (IsErr stands × (number < length blocks) × (size blocks number + 1 < n) × (n < size blocks (suc number)))

refused_before : (block : List ℕ) (r : Result (List (List ℕ)) ℕ) → IsErr r → IsErr (before_others block r)
refused_before block (Ok blocks) is = is
refused_before block (Err row) is = is

size_more : (block : List ℕ) (blocks : List (List ℕ)) (number : ℕ)
    → size (block ∷ blocks) (suc number) ≡ length block + 2 + size blocks number
size_more block blocks number = omega (arith, length-append (counted block) (flat_map counted (take number blocks)))

-- a block in front
block_before : (block : List ℕ) (blocks : List (List ℕ)) (n m : ℕ) (stands : Result (List (List ℕ)) ℕ) → n ≡ length block + 2 + m
    → PartBegins blocks m stands
    → PartBegins (block ∷ blocks) n (before_others block stands)
block_before block blocks n m stands far part = record {
  number = suc part.number;
  within = omega (arith, part.within);
  reached = omega (arith, part.reached, size_more block blocks part.number);
  whole_or_refused = ⊎_elim
      (λ is. inl (
        ap (before_others block) is.0,
        ⊎_elim (λ near. inl (omega (arith, near, size_more block blocks part.number))) (λ all. inr (omega (arith, all))) is.1,
      ))
      (λ is. inr (
        refused_before block stands is.0,
        omega (arith, is.1),
        omega (arith, is.2, size_more block blocks part.number),
        omega (arith, is.3, size_more block blocks (suc part.number)),
      ))
      part.whole_or_refused;
}

is_refused : (r : Result (List (List ℕ)) ℕ) (row : ℕ) → r ≡ Err row → IsErr r
is_refused r row is = subst (λ (s : Result (List (List ℕ)) ℕ). IsErr s) (sym is) refl

part_begins : (row : ℕ) (blocks : List (List ℕ)) (tail : List ℕ) (n : ℕ) → AllByRecursion IsBlock blocks → IsTail tail
    → PartBegins blocks n (blocks_from row AtGate (take n (flat_map counted blocks ++ tail)))
part_begins row [] tail n whole ends =
    record {
      number = 0;
      within = omega arith;
      reached = omega arith;
      whole_or_refused =
          inl (tail_is_nothing row (take n tail) (front_of_tail n tail ends), inr refl);
    }
part_begins row (block ∷ blocks) tail zero whole ends =
    record { number = 0; within = omega arith; reached = omega arith; whole_or_refused = inl (refl, inl (omega arith)) }
part_begins row (block ∷ blocks) tail (suc zero) whole ends =
    record { number = 0; within = omega arith; reached = omega arith; whole_or_refused = inl (refl, inl (omega arith)) }
part_begins row (block ∷ blocks) tail (suc (suc n)) whole ends =
    let more = flat_map counted blocks ++ tail in
    let rest = block ++ flat_map counted blocks ++ tail in
    let parts : rest ≡ block ++ more = append_assoc block (flat_map counted blocks) tail in
    let read = blocks_from (row + 1) (InRow [] []) in
    elim (cases_lt n (length block)) [
      | inl inside ↦
          let taken : take n rest ≡ take n block = ap (λ (l : List ℕ). take n l) parts ∙ take-append-le n block more (omega arith) in
          let stops = ap read taken ∙ unfinished_block (row + 1) (take n block) (cut_block block n whole.0 inside) in
          record {
            number = 0;
            within = omega arith;
            reached = omega arith;
            whole_or_refused = inr (
              is_refused (read (take n rest)) _ stops,
              omega arith,
              omega arith,
              omega (arith, size_more block blocks 0),
            );
          }
      | inr behind ↦
          let m = n - length block in
          let taken : take n rest ≡ block ++ take m more = ap (λ (l : List ℕ). take n l) parts ∙ take_past block more n m (omega arith) in
          let stands = ap read taken ∙ one_block (row + 1) block (take m more) whole.0 in
          subst (λ (r : Result (List (List ℕ)) ℕ). PartBegins (block ∷ blocks) (suc (suc n)) r) (sym stands)
          (block_before block blocks (suc (suc n)) m _ (omega arith) (part_begins (row + 1 + rows_in block) blocks tail m whole.1 ends))
    ]

-- ---- files

pub begins : (file : List ℕ) (blocks : List (List ℕ)) (n : ℕ) → Stands file blocks → length head ≤ n
    → BeginsAs blocks n (blocks_in (take n file))
begins file blocks n is long =
    let more = flat_map counted blocks ++ is.tail in
    let m = n - length head in
    let parts : file ≡ head ++ more = is.parts ∙ append_assoc head (flat_map counted blocks) is.tail in
    let taken : take n file ≡ head ++ take m more = ap (λ (l : List ℕ). take n l) parts ∙ take_past head more n m (omega arith) in
    let part = part_begins 2 blocks is.tail m is.whole is.ends in
    let gate = λ (number : ℕ). length-append head (flat_map counted (take number blocks)) in
    subst (λ (r : Result (List (List ℕ)) ℕ). BeginsAs blocks n r) (sym (ap blocks_in taken)) record {
      number = part.number;
      within = part.within;
      reached = omega (arith, part.reached, gate part.number);
      whole_or_refused = ⊎_elim
          (λ found. inl (found.0, ⊎_elim (λ near. inl (omega (arith, near, gate part.number))) (λ all. inr all) found.1))
          (λ found. inr (found.0, found.1, omega (arith, found.2, gate part.number), omega (arith, found.3, gate (suc part.number))))
          part.whole_or_refused;
    }

-- less than the head is no plant
pub too_short : (file : List ℕ) (n : ℕ) → n < length head → blocks_in (take n file) ≡ Err 1
too_short file n short =
    let front = take n file in
    let read = blocks_from 2 AtGate (drop (length head) front) in
    elim (cases_Bool (starts_with nat_eq front head)) [
      | inl starts ↦
          let is : front ≡ head ++ drop (length head) front =
          (starts_is Decides-eqb front head (starts_with nat_eq front head) refl).0 starts in
          absurd (omega (arith, ap length is, length-append head (drop (length head) front), length-take n file))
      | inr other ↦ cond-false (starts_with nat_eq front head) read (Err 1) other
    ]
