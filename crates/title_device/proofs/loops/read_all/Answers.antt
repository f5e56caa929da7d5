-- What a source has given where the bytes of the last pull can't be held.
use Rattle.std.proofs.Common.{◌++◌, ◌∙◌, ℕ, List, Option, None, Some, Result, Ok, Err, OnErr, ap, append_assoc, sym, take}
use Rattle.std.specs.Io.KnownBytes.{Consumes}
use Rattle.title_device.proofs.loops.read_all.Goals as goal

-- bytes that are given one after the other are given together
consumes_more : (before middle after : Option (List ℕ)) (xs ys : List ℕ)
    → Consumes before middle xs → Consumes middle after ys → Consumes before after (xs ++ ys)
consumes_more None middle after xs ys p q = tt
consumes_more (Some known) None after xs ys p q = absurd p
consumes_more (Some known) (Some rest) None xs ys p q = absurd q
consumes_more (Some known) (Some rest) (Some end) xs ys p q = p ∙ ap (λ more. xs ++ more) q ∙ sym (append_assoc xs ys end)

-- where a reading fails, the bytes that were given are told
given_on_err : {V E : Type 0} (r : Result V E) (before after : Option (List ℕ)) (given : List ℕ)
    → Consumes before after given → OnErr r ((given : List ℕ) × Consumes before after given)
given_on_err (Ok v) before after given consumed = tt
given_on_err (Err e) before after given consumed = (given, consumed)

pub returns-in_err-extend_from_slice-clause-given : goal.returns-in_err-extend_from_slice-clause-given
returns-in_err-extend_from_slice-clause-given g c =
    let before = c.loop-turn.invariant.0 in
    let last = c.in_ok-count.ensures.bytes.0 in
    given_on_err _ _ _ (c.loop-turn.script.items ++ take c.in_ok-count.count c.pull.new.buf) (consumes_more _ _ _ _ _ before last)
