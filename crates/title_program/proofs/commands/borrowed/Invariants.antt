-- The texts of the words so far.
use Rattle.std.{proofs.Common.{◌≡◌, map, take}, specs.String.{string_bytes}}
use Rattle.title_program.proofs.commands.borrowed.Given as goal

abbrev pub invariant-loop-word : goal.invariant-loop-word
invariant-loop-word l = map (λ text. text.now) l.texts.items ≡ map string_bytes (take l.word-index l.words)
