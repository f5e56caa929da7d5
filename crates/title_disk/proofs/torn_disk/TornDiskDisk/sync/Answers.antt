-- A sync that was kept leaves nothing else.
use Rattle.std.proofs.Common.{List, ℕ, subst}
use Rattle.title_disk.specs.{Kept.{Notes}, Laws.KeptCalls.{crash_stays}}
use Rattle.title_disk.specs.declared.call.DiskCall.TheVariants as call
use Rattle.title_disk.proofs.torn_disk.TornDiskDisk.sync.Goals as goal

pub returns-in-Ok-clause-crash : goal.returns-in-Ok-clause-crash
returns-in-Ok-clause-crash c =
    let disk = c.args.self.now in
    let notes = subst (λ (b : List ℕ). Notes call.Sync b disk.calls.items c.note.new.calls.items) c.deref.ensures.value c.in-Ok.ensures.ok
    in
    crash_stays call.Sync disk.bytes.items disk.calls.items c.note.new.calls.items notes (λ d e none. absurd none)
