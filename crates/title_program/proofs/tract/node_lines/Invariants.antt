-- The lines of the nodes so far.
use Rattle.std.{proofs.Common.{◌≡◌, take}, specs.{List.{flat_map}, String.{string_bytes}}}
use Rattle.title_program.specs.Tracts.{node_line}
use Rattle.title_program.proofs.tract.node_lines.Given as goal

abbrev pub invariant-loop-node : goal.invariant-loop-node
invariant-loop-node l = string_bytes l.lines ≡ flat_map node_line (take l.node-index l.nodes)
