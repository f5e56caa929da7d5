-- All cells are read.
use Rattle.std.proofs.Common.{◌≡◌, ℕ, subst, arith}
use Rattle.title_spelling.{specs.Cells.{is_marked}, proofs.Marked.{all_marked, HasFirst}}
use Rattle.title_spelling.proofs.cells.marked.Goals as goal

pub returns : goal.returns
returns c =
    let all : c.loop-number.number ≡ 256 = omega (arith, c.loop-number.auto.number-end, c.loop-number-test.false) in
    record {
      marked = all_marked (is_marked c.args.rows.now) c.loop-number.cells c.is_sized.ensures.sized
          (subst (λ (n : ℕ). HasFirst (is_marked c.args.rows.now) n c.loop-number.cells) all c.loop-number.invariant);
    }
