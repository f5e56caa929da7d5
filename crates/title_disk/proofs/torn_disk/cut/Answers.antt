-- A cut that was kept may be undone.
use Rattle.std.proofs.Common.{List, ℕ, subst, sym}
use Rattle.title_disk.specs.{Crashes.{Cut}, Kept.{Notes}, Laws.KeptCalls.{crash_goes_on, cut_done}}
use Rattle.title_disk.specs.declared.call.DiskCall.TheVariants as call
use Rattle.title_disk.proofs.torn_disk.cut.Goals as goal

pub returns-clause-crash : goal.returns-clause-crash
returns-clause-crash c =
    let bytes = c.args.bytes.now.items in
    let calls = c.args.calls.now.items in
    let len = c.args.len in
    let notes = subst (λ (b : List ℕ). Notes (call.Cut len) b calls c.note.new.calls.items) c.deref.ensures.value c.in_ok-note.ensures.ok in
    let done = subst (Cut len bytes) (sym c.truncate.ensures.items) (cut_done len bytes) in
    crash_goes_on (Cut len) (call.Cut len) bytes c.truncate.new.self.items calls c.note.new.calls.items notes done (λ d e torn. torn)
