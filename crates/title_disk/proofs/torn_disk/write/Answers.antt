-- A write that was kept may be torn.
use Rattle.std.proofs.Common.{List, ℕ, length, ap, subst}
use Rattle.title_disk.specs.{Crashes.{Torn, Holds}, Kept.{Notes}, Laws.KeptCalls.{crash_goes_on, torn_from_Holds}}
use Rattle.title_disk.specs.declared.call.DiskCall.TheVariants as call
use Rattle.title_disk.proofs.torn_disk.write.Goals as goal

pub returns-clause-crash : goal.returns-clause-crash
returns-clause-crash c =
    let bytes = c.args.bytes.now.items in
    let calls = c.args.calls.now.items in
    let at = c.args.at in
    let copied = ap length (c.in_ok-copy.ensures.items_if_clones_equal (λ x y e. e)) in
    let asked = call.Write at c.in_ok-copy.copy in
    let notes = subst (λ (b : List ℕ). Notes asked b calls c.note.new.calls.items) c.deref-2.ensures.value c.in_ok-note.ensures.ok in
    let holds = subst (λ (b : List ℕ). Holds b at c.args.written.now c.in_ok-next.next.items) c.deref.ensures.value
    c.in_ok-next.ensures.holds in
    let done = torn_from_Holds bytes at c.args.written.now c.in_ok-next.next.items c.requires holds in
    crash_goes_on (Torn at (length c.args.written.now)) asked bytes c.in_ok-next.next.items calls c.note.new.calls.items notes done
    (λ d e torn. subst (λ (n : ℕ). Torn at n d e) copied torn)
