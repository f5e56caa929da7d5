-- Whole texts: what was read to its end, and the letter at which reading stopped.
use Rattle.std.proofs.Common.{◌≡◌, ℕ, ◌-◌, ◌≤◌, ◌<◌, ◌==◌, Bool, false, List, [], ◌∷◌, length, refl, sym, subst, arith}
use Rattle.std.{specs.{Bool.{Decides}, Prelude.{true}}, proofs.lemmas.{Bool.Decides.{nat_tests}, List.{append-nil}}}
use Rattle.title_grammar.specs.{Language.{Begins}, Reading.{Got, Stuck}, Laws.Repeat.{Fault, whole_found, whole_left, whole_stuck}}
use Rattle.title_grammar.specs.Laws.Faults.{nothing_left, fault_shorter, FaultAfter, fault_after, begins_decided}
use Rattle.title_aliquot.specs.{Grammar.{Syntax, Description}, Readers.{description_at}, Laws.Grammar.{description_exact}}

pub words_found : (s : List ℕ) (v : Syntax) (r : List ℕ) → description_at s ≡ Got v r → length r ≡ 0 → Description v s
words_found s v r h l =
    let e = nothing_left r l in
    whole_found description_at Description _ _ _ description_exact s v (rw e at h)

left_fault : (s : List ℕ) (v : Syntax) (r : List ℕ) → description_at s ≡ Got v r → 0 < length r → Fault Description s r
left_fault s v [] h l = absurd (omega arith)
left_fault s v (c ∷ r) h l = whole_left description_at Description _ _ _ description_exact s v c r h

stuck_fault : (s r : List ℕ) → description_at s ≡ Stuck r → Fault Description s r
stuck_fault s r h = whole_stuck description_at Description _ _ _ description_exact s r h

-- more letters stood behind what was read
pub left_after : (s : List ℕ) (v : Syntax) (r : List ℕ) (n : ℕ) → description_at s ≡ Got v r → n ≡ length r → 0 < n →
    FaultAfter Description s (length s - n)
left_after s v r n h e l = fault_after Description s r n (left_fault s v r h (omega arith)) e

-- reading got stuck
pub stuck_after : (s r : List ℕ) (n : ℕ) → description_at s ≡ Stuck r → n ≡ length r → FaultAfter Description s (length s - n)
stuck_after s r n h e = fault_after Description s r n (stuck_fault s r h) e

pub stuck_shorter : (s r : List ℕ) → description_at s ≡ Stuck r → length r ≤ length s
stuck_shorter s r h = fault_shorter Description s r (stuck_fault s r h)

pub left_shorter : (s : List ℕ) (v : Syntax) (r : List ℕ) → description_at s ≡ Got v r → length r ≤ length s
left_shorter s v [] h = omega arith
left_shorter s v (c ∷ r) h = fault_shorter Description s (c ∷ r) (whole_left description_at Description _ _ _ description_exact s v c r h)

-- letters that say something begin a text
pub found_begins : (s : List ℕ) (v : Syntax) → Description v s → Decides true (Begins Description s)
found_begins s v h = ((λ e. ([], v, subst (λ (z : List ℕ). Description v z) (sym (append-nil s)) h)), (λ b. refl))

-- letters are left where not none are
pub left_some : (n : ℕ) → (n == 0) ≡ false → 0 < n
left_some n h = grind (arith, nat_tests)

-- ---- letters that begin a text: reading them leaves none

same_test : (n m : ℕ) → m ≤ n → (n - m == n) ≡ (m == 0)
same_test n m h = grind (arith, nat_tests)

begins_by_fault : (s r : List ℕ) → FaultAfter Description s (length s - length r) → length r ≤ length s →
    Decides (length r == 0) (Begins Description s)
begins_by_fault s r f l =
    subst (λ (b : Bool). Decides b (Begins Description s)) (same_test (length s) (length r) l)
    (begins_decided Description s (length s - length r) f)

pub stuck_begins : (s r : List ℕ) → description_at s ≡ Stuck r → Decides (length r == 0) (Begins Description s)
stuck_begins s r h = begins_by_fault s r (stuck_after s r (length r) h refl) (stuck_shorter s r h)

pub got_begins : (s : List ℕ) (v : Syntax) (r : List ℕ) → description_at s ≡ Got v r → Decides (length r == 0) (Begins Description s)
got_begins s v [] h = found_begins s v (words_found s v [] h refl)
got_begins s v (c ∷ r) h =
    begins_by_fault s (c ∷ r) (left_after s v (c ∷ r) (length (c ∷ r)) h refl (omega arith)) (left_shorter s v (c ∷ r) h)
