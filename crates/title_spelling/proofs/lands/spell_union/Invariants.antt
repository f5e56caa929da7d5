-- The nodes so far stand behind the first.
use Rattle.std.{proofs.Common.{◌≡◌, ◌++◌, take}, specs.{Prelude.{codes}, List.{flat_map}, String.{string_bytes}}}
use Rattle.title_spelling.specs.Lands.{path_of}
use Rattle.title_spelling.proofs.lands.spell_union.Given as goal

abbrev pub invariant-loop-node : goal.invariant-loop-node
invariant-loop-node l =
    string_bytes l.text ≡ string_bytes l.initial.text ++ flat_map (λ m. codes "," ++ path_of m) (take l.node-index l.others)
