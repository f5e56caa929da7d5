-- How much of the text the sink has taken so far.
use Rattle.std.{proofs.Common.{length, ◌-◌, ◌≡◌, ◌≤◌, false, take}, specs.Io.KnownBytes.{Appends}}
use Rattle.title_device.proofs.loops.write_all.Given as goal

abbrev pub invariant-loop-at : goal.invariant-loop-at
invariant-loop-at g l =
    Appends (g.S.Sink.taken l.fn.sink) (g.S.Sink.taken l.sink) (take l.at l.text)
    × (g.S.Sink.has_failed l.sink ≡ false)
    × (l.at ≤ length l.text)

abbrev pub decreases-loop-at : goal.decreases-loop-at
decreases-loop-at g l = length l.text - l.at
