-- The literal is the line of want of memory.
use Rattle.std.proofs.{Common.{◌≡◌, refl, codes, lit<}, lemmas.Fmt.{decimal_digit}}
use Rattle.title_program.specs.Faults.{fault_line, memory}
use Rattle.title_program.proofs.printing.tell_memory.Goals as goal

pub returns : goal.returns
returns g c =
    let line : fault_line memory ≡ codes "fault,6\n" = rw (decimal_digit 6 (lit< tt)) refl in
    record { tells = rw line c.print.ensures.prints }
