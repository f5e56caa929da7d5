-- Bytes that a source has given, and that a sink has taken, one after another.
use Rattle.std.proofs.Common.{◌≡◌, ◌<◌, ◌++◌, ◌∙◌, [], refl, sym, ap, subst, ℕ, List, Option, Some, None, IfSome, append_assoc, arith}
use Rattle.std.proofs.{Common.{drop, length, length-append, take}, Math.Seq.{take-append_seam}, lemmas.List.{append-nil, take-append-drop}}
use Rattle.std.specs.Io.KnownBytes.{Appends, Consumes, Keeps}
use Rattle.csv.proofs.WriteFacts.{appends-more}

-- no byte was given
pub consumes_none : (known : Option (List ℕ)) → Consumes known known []
consumes_none None = tt
consumes_none (Some known) = refl

-- some were given, and then others
pub consumes_more : (before middle after : Option (List ℕ)) (xs ys : List ℕ) → Consumes before middle xs → Consumes middle after ys
    → Consumes before after (xs ++ ys)
consumes_more None middle after xs ys p q = tt
consumes_more (Some known) None after xs ys p q = absurd p
consumes_more (Some known) (Some rest) None xs ys p q = absurd q
consumes_more (Some known) (Some rest) (Some end) xs ys p q = p ∙ ap (λ (more : List ℕ). xs ++ more) q ∙ sym (append_assoc xs ys end)

-- some were given, and then none, where all that was left stays
pub consumes_kept : (before middle after : Option (List ℕ)) (xs : List ℕ) → Consumes before middle xs → Keeps middle after
    → Consumes before after xs
consumes_kept None middle after xs p q = tt
consumes_kept (Some known) None after xs p q = absurd p
consumes_kept (Some known) (Some rest) None xs p q = absurd q
consumes_kept (Some known) (Some rest) (Some end) xs p q = p ∙ ap (λ (more : List ℕ). xs ++ more) (sym q)

-- or where none came
pub consumes_last : (before middle after : Option (List ℕ)) (xs : List ℕ) → Consumes before middle xs → Consumes middle after []
    → Consumes before after xs
consumes_last before middle after xs p q =
    subst (λ (x : List ℕ). Consumes before after x) (append-nil xs) (consumes_more before middle after xs [] p q)

-- a source that gave more than n had more
pub more_given : (l m : Option (List ℕ)) (given : List ℕ) (n : ℕ) → Consumes l m given → n < length given
    → IfSome l (λ bytes. n < length bytes)
more_given None m given n p h = tt
more_given (Some known) None given n p h = absurd p
more_given (Some known) (Some rest) given n p h = rw p (rw length-append (omega arith))

-- what stands as it stood
pub keeps_itself : (known : Option (List ℕ)) → Keeps known known
keeps_itself None = tt
keeps_itself (Some known) = refl

-- a beginning of a text behind another that was written whole
pub part_then : (a b d : Option (List ℕ)) (t u : List ℕ) (n : ℕ) → Appends a b t → Appends b d (take n u)
    → (k : ℕ) × Appends a d (take k (t ++ u))
part_then a b d t u n h k =
    let all : t ++ u ≡ (t ++ take n u) ++ drop n u =
    ap (λ (x : List ℕ). t ++ x) (sym (take-append-drop n u)) ∙ sym (append_assoc t (take n u) (drop n u)) in (
      length (t ++ take n u),
      subst (λ (x : List ℕ). Appends a d x)
          (sym (ap (λ (x : List ℕ). take (length (t ++ take n u)) x) all ∙ take-append_seam (t ++ take n u) (drop n u)))
          (appends-more a b d t (take n u) h k),
    )
