-- A path's quarters below a number's last quarter are those below a fourth of the number, and that quarter.
use Rattle.std.proofs.Common.{◌≡◌, ◌-◌, suc, arith}
use Rattle.title_tree.proofs.PathNumbers.{number_inside}
use Rattle.title_tree.proofs.path.Path.+inside_number.Goals as goal

pub returns : goal.returns
returns t c =
    let one_less : c.args.levels ≡ suc (c.args.levels - 1) = omega (arith, c.if-levels-eq0.false) in
    record {
      path = number_inside c.args.levels (c.args.levels - 1) c.args.number c.args.self c.in_ok-inner.inner c.in_ok-path.path
          c.numbered.result one_less c.numbered.ensures.quarter c.in_ok-inner.ensures.inside c.in_ok-path.ensures.path;
    }
