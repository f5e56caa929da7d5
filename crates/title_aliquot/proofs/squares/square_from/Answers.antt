-- What was left to show of `square_from`.
use Rattle.std.proofs.Common.{◌≡◌, drop, subst, arith}
use Rattle.title_aliquot.specs.Squares.{IsSquared}
use Rattle.title_aliquot.proofs.squares.square_from.Goals as goal

pub returns : goal.returns
returns c =
    let e : c.entries.index ≡ c.args.first = omega arith in
    record { squared = subst (λ n. IsSquared (drop n c.args.entries.now) c.entries.within) e c.entries.invariant.squared }
