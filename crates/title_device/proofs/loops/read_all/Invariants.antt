-- What a script has been read so far: the bytes that the source has given, no fewer than the turns made.
use Rattle.std.{proofs.Common.{◌≡◌, ◌≤◌, ◌+◌, false, length}, specs.Io.KnownBytes.{Consumes}}
use Rattle.title_device.specs.declared.loops.TheConstants.{SCRIPT_LIMIT}
use Rattle.title_device.proofs.loops.read_all.Given as goal

abbrev pub invariant-loop-turn : goal.invariant-loop-turn
invariant-loop-turn g l =
    Consumes (g.S.Source.left l.fn.source) (g.S.Source.left l.source) l.script.items
    × (g.S.Source.has_failed l.source ≡ false)
    × (l._turn ≤ length l.script.items)
    × (length l.script.items ≤ SCRIPT_LIMIT)
    × (g.S.Source.turns l.source ≤ g.S.Source.turns l.fn.source + l._turn)
