-- What lies from a gate on: a block that counts, or a tail.
use Rattle.std.proofs.Common.{◌≡◌, ℕ, zero, suc, ◌+◌, ◌≤◌, ◌<◌, List, [], ◌∷◌, ◌++◌, length, get_or, take, drop, Result, Ok, refl, ◌∙◌, ap}
use Rattle.std.{proofs.{Common.{arith}, lemmas.List.{drop_more}}, specs.{Prelude.{◌==◌}, List.{AllByRecursion}}}
use Rattle.std.proofs.lemmas.Bool.{ne_eqb, cond-false}
use Rattle.title_journal.specs.{Blocks.{AtGate, blocks_from, open_gate, closed_gate, line_feed, IsBlock}, Rest.{IsTail}}

-- the first two bytes from an offset on
pub two_bytes : (file : List ℕ) (offset : ℕ) → offset + 1 < length file
    → drop offset file ≡ get_or file offset 0 ∷ get_or file (offset + 1) 0 ∷ drop (offset + 2) file
two_bytes file offset within =
    drop_more file offset 0 (omega arith)
    ∙ ap (λ (l : List ℕ). get_or file offset 0 ∷ l) (drop_more file (offset + 1) 0 within
    ∙ ap (λ (n : ℕ). get_or file (offset + 1) 0 ∷ drop n file) (omega arith))

-- an open gate and its line feed
pub gate_and_feed : (file : List ℕ) (offset : ℕ) → offset + 1 < length file → get_or file offset 0 ≡ open_gate
    → get_or file (offset + 1) 0 ≡ line_feed
    → drop offset file ≡ open_gate ∷ line_feed ∷ drop (offset + 2) file
gate_and_feed file offset within gate feed =
    two_bytes file offset within ∙ ap (λ (g : ℕ). g ∷ get_or file (offset + 1) 0 ∷ drop (offset + 2) file) gate
    ∙ ap (λ (b : ℕ). open_gate ∷ b ∷ drop (offset + 2) file) feed

-- ---- tails

-- a tail stands for nothing
pub tail_is_nothing : (number : ℕ) (tail : List ℕ) → IsTail tail → blocks_from number AtGate tail ≡ Ok []
tail_is_nothing number [] is = refl
tail_is_nothing number (byte ∷ []) is = refl
tail_is_nothing number (gate ∷ byte ∷ bytes) is = cond-false (gate == open_gate) _ _ (ne_eqb gate open_gate is)

-- a closed gate and whatever lies behind it is a tail
pub closed_tail : (bytes : List ℕ) → IsTail (closed_gate ∷ bytes)
closed_tail [] = tt
closed_tail (byte ∷ bytes) = omega arith

-- at most one byte is a tail
pub short_tail : (bytes : List ℕ) → length bytes ≤ 1 → IsTail bytes
short_tail [] short = tt
short_tail (byte ∷ []) short = tt
short_tail (byte ∷ other ∷ bytes) short = absurd (omega arith)

-- a beginning of a tail is one
pub front_of_tail : (n : ℕ) (tail : List ℕ) → IsTail tail → IsTail (take n tail)
front_of_tail zero tail is = tt
front_of_tail (suc n) [] is = tt
front_of_tail (suc zero) (byte ∷ bytes) is = tt
front_of_tail (suc (suc n)) (byte ∷ []) is = tt
front_of_tail (suc (suc n)) (gate ∷ byte ∷ bytes) is = is

-- ---- blocks

-- one whole block more behind whole blocks
pub all_and_one : (blocks : List (List ℕ)) (block : List ℕ) → AllByRecursion IsBlock blocks → IsBlock block
    → AllByRecursion IsBlock (blocks ++ block ∷ [])
all_and_one [] block whole is = (is, tt)
all_and_one (first ∷ blocks) block whole is = (whole.0, all_and_one blocks block whole.1 is)

-- no other blocks stand
pub same_ok : (xs ys : List (List ℕ)) → (let r : Result (List (List ℕ)) ℕ = Ok xs in r ≡ Ok ys) → xs ≡ ys
same_ok xs ys e = cc
