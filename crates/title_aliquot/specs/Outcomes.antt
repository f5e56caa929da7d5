-- What a reader of the code returned, seen by view, is what reading gives, unless memory ran out.
use Rattle.std.specs.Prelude.{◌≡◌, ℕ, List, Result, Ok, Err}
use Rattle.title_grammar.specs.Reading.{Read, Got, Stuck}
use Rattle.title_aliquot.specs.declared.reader.Stop.{Stop}
use Rattle.title_aliquot.specs.declared.reader.Stop.TheVariants as stop

abbrev pub Stops : {V : Type 0} → Stop → List ℕ → Read V → Type 0
Stops stop.Stuck rest read = read ≡ Stuck rest
Stops stop.Memory rest read = Unit {0}

abbrev pub Reads : {U V : Type 0} → (U → V) → Result U Stop → List ℕ → Read V → Type 0
Reads view (Ok u) rest read = read ≡ Got (view u) rest
Reads view (Err e) rest read = Stops e rest read
