-- A read that was kept leaves nothing else.
use Rattle.std.proofs.Common.{List, ℕ, subst}
use Rattle.title_disk.specs.{Kept.{Notes}, Laws.KeptCalls.{crash_stays}}
use Rattle.title_disk.specs.declared.call.DiskCall.TheVariants as call
use Rattle.title_disk.proofs.torn_disk.TornDiskDisk.read.Goals as goal

pub returns-clause-crash : goal.returns-clause-crash
returns-clause-crash c =
    let disk = c.args.self.now in
    let notes = subst (λ (b : List ℕ). Notes call.Read b disk.calls.items c.note.new.calls.items) c.deref-2.ensures.value
    c.in_ok-note.ensures.ok in
    crash_stays call.Read disk.bytes.items disk.calls.items c.note.new.calls.items notes (λ d e same. same)
