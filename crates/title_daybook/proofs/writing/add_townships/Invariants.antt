use Rattle.std.proofs.Common.{◌≡◌, ◌++◌, ℕ, List, map, take}
use Rattle.title_spelling.specs.Rows as plant
use Rattle.title_daybook.specs.Added.{text_of}
use Rattle.title_daybook.proofs.writing.add_townships.Given as goal

abbrev pub invariant-loop-township : goal.invariant-loop-township
invariant-loop-township l = (names : List (List ℕ)) → l.out.items
    ≡ l.fn.out.items ++ text_of names (map plant.Township (take l.township-index l.townships))
