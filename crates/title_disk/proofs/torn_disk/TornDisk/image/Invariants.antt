use Rattle.std.{proofs.Common.{take, drop}, specs.Prelude.{reverse}}
use Rattle.title_disk.specs.Kept.{MayLeave, content_between}
use Rattle.title_disk.proofs.torn_disk.TornDisk.image.Given as goal

abbrev pub invariant-loop-number : goal.invariant-loop-number
invariant-loop-number l = MayLeave (content_between l.self.bytes.items (drop l.number l.self.calls.items))
    (reverse (take l.number l.self.calls.items)) l.image.items
