-- A mode that is held is counted.
use Rattle.std.proofs.Common.{◌≤◌, Option, Some, subst, arith}
use Rattle.title_lock.{specs.{declared.modes.Mode.{Mode}, Holders.{own_part, count_in}}, proofs.CountLaws.{own_one}}
use Rattle.title_lock.proofs.counts.Counts.without.Goals as goal

pub fewer-requires : goal.fewer-requires
fewer-requires c =
    let one = own_one c.in-Some.mode in
    let few : own_part (Some c.in-Some.mode) c.in-Some.mode ≤ count_in c.args.self c.in-Some.mode =
    subst (λ (o : Option Mode). own_part o c.in-Some.mode ≤ count_in c.args.self c.in-Some.mode) c.in-Some.is
    (c.requires.counted c.in-Some.mode) in
    omega (arith, one, few)
