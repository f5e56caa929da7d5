-- The characters so far, as they stand in XML.
use Rattle.std.{proofs.Common.{◌≡◌, take}, specs.String.{string_bytes}}
use Rattle.title_plat.specs.Escapes.{escapes}
use Rattle.title_plat.proofs.escape.escape_all.Given as goal

abbrev pub invariant-loop-c : goal.invariant-loop-c
invariant-loop-c l = string_bytes l.out ≡ escapes (take l.c-index l.characters)
