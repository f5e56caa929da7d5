-- A square is a quarter of the one around it.
use Rattle.title_tree.proofs.PathNumbers.{square_inside}
use Rattle.title_tree.proofs.path.Path.+inside_square.Goals as goal

pub returns : goal.returns
returns t c = record {
  path = square_inside c.args.square c.in-Some.parts.1 c.args.self c.in_ok-inner.inner c.in_ok-path.path c.in-Some.parts.0
      c.in-Some.ensures.split c.in_ok-inner.ensures.inside c.in_ok-path.ensures.path;
}
