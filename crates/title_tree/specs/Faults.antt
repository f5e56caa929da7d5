-- What a fault tells.
use Rattle.std.specs.Prelude.{◌≡◌, Option, Some}
use Rattle.title_tree.specs.declared.change.Fault.{Fault}
use Rattle.title_tree.specs.declared.change.Fault.TheVariants as fault

-- a refusal is told with its reason; that memory is short tells nothing
abbrev pub Tells : {R : Type 0} → Fault R → Option R → Type 0
Tells fault.Memory refusal = Unit {0}
Tells (fault.Refused why) refusal = refusal ≡ Some why
