use Rattle.std.{proofs.{Common.{◌≡◌, ℕ, take, drop, subst, arith}, lemmas.List.{length-reverse}}, specs.Prelude.{reverse}}
use Rattle.title_disk.specs.{Kept.{MayLeave, content_between}, Laws.KeptCalls.{left_after}}
use Rattle.title_disk.proofs.torn_disk.TornDisk.image.Goals as goal

pub returns : goal.returns
returns c =
    let bytes = c.args.self.now.bytes.items in
    let calls = c.args.self.now.calls.items in
    let image = c.loop-number.image.items in
    let all : c.loop-number.number ≡ c.args.calls = omega arith in
    let may = subst (λ (n : ℕ). MayLeave (content_between bytes (drop n calls))
    (reverse (take n calls)) image) all c.loop-number.invariant in
    record { left = left_after bytes calls c.args.calls image (omega (arith, c.requires, length-reverse calls)) may }
