-- Lists of parts, each part's steps behind the entry that begins it.
use Rattle.std.specs.Prelude.{List, [], ◌∷◌, ◌++◌}
use Rattle.title_land.specs.declared.rectangle.Step.{Step}
use Rattle.title_aliquot.specs.declared.syntax.Entry.{Entry}
use Rattle.title_aliquot.specs.declared.syntax.Entry.TheVariants as entry

-- the steps before the first part that begins
abbrev pub leading : List Entry → List Step
leading [] = []
leading (entry.Part ∷ es) = []
leading (entry.Step s ∷ es) = s ∷ leading es

-- the parts that begin, each with the steps up to the next
abbrev pub parts_in : List Entry → List (List Step)
parts_in [] = []
parts_in (entry.Part ∷ es) = leading es ∷ parts_in es
parts_in (entry.Step s ∷ es) = parts_in es

-- the parts with one more step in the last
abbrev pub with_step : List (List Step) → Step → List (List Step)
with_step [] s = []
with_step (p ∷ []) s = (p ++ s ∷ []) ∷ []
with_step (p ∷ (q ∷ ps)) s = p ∷ with_step (q ∷ ps) s
