-- What a viewer has seen.
use Rattle.std.proofs.Common.{◌≡◌, ◌⊎◌, ⊎_elim, ℕ, ◌≤◌, ◌<◌, Bool, true, false, List, length, take, drop, ap, ◌∙◌, sym, subst}
use Rattle.std.proofs.{Common.{arith, length-append}, lemmas.{Bool.Decides.{nat_tests}, List.{take-append-drop}}, Math.Seq.{take-length}}
use Rattle.std.specs.Prelude.{nat_lt, if◌then◌else◌}
use mathlib.Core.List.{IsPrefix}
use Rattle.title_chain.specs.declared.record.Record.{Record}
use Rattle.title_ledger.specs.Laws.Beginnings.{prefix_trans, prefix_whole}
use Rattle.title_views.specs.Views.{Sight}

abbrev pub sight : ℕ → List Record → List Record → Sight
sight number seen told = record { number = number; seen = seen; told = told }

-- a beginning isn't longer
pub prefix_length : {A : Type 0} (xs ys : List A) → IsPrefix xs ys → length xs ≤ length ys
prefix_length xs ys p = omega (arith, ap length p.1, length-append xs p.0)

-- a look that is granted has seen the whole
pub whole_sight : (number count : ℕ) (w told : List Record) → count ≡ length w → sight number (take count w) told ≡ sight number w told
whole_sight number count w told e = ap (λ n. sight number (take n w) told) e ∙ ap (λ s. sight number s told) (take-length w)

pub seen_first : (count : ℕ) (v w : List Record) → IsPrefix v w → IsPrefix (take count v) w
seen_first count v w p = prefix_trans (take count v) v w (drop count v, take-append-drop count v) p

-- what covers both is the longer one
pub longer_is : (a b c : List Record) → (c ≡ a) ⊎ (c ≡ b) → IsPrefix a c → IsPrefix b c → (t : Bool)
    → nat_lt (length a) (length b) ≡ t → c ≡ (if t then b else a)
longer_is a b c one p q true e =
    let lt : length a < length b = grind (arith, nat_tests) in
    ⊎_elim (λ (s : c ≡ a). absurd (omega (arith, ap length s, prefix_length b c q))) (λ (s : c ≡ b). s) one
longer_is a b c one p q false e =
    let le : length b ≤ length a = grind (arith, nat_tests) in
    ⊎_elim (λ (s : c ≡ a). s)
    (λ (s : c ≡ b). s ∙ sym (prefix_whole a b (subst (λ w. IsPrefix a w) s p)
    (let m : length a ≤ length c = prefix_length a c p in omega (arith, ap length s)))) one
