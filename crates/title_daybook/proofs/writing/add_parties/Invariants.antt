use Rattle.std.{proofs.Common.{◌≡◌, ◌++◌, ℕ, List, drop, map, take}, specs.String.{string_bytes}}
use Rattle.title_spelling.specs.Rows as plant
use Rattle.title_daybook.specs.Added.{text_of}
use Rattle.title_daybook.proofs.writing.add_parties.Given as goal

abbrev pub invariant-loop-party : goal.invariant-loop-party
invariant-loop-party l =
    (names : List (List ℕ)) → l.out.items
    ≡ l.fn.out.items ++ text_of names (map plant.Party (drop l.from (take l.party (map string_bytes l.parties.keys))))
