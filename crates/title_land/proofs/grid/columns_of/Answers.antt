-- The columns of a rectangle are ones shifted to the left, and few enough for a row's number.
use Rattle.std.proofs.{Common.{arith}, Math.Facts.{Fits-of_lt}, lemmas.Nat.{one_shl, pow_pos}}
use Rattle.title_land.{specs.{Depth.{depth}, Survey.{side}}, proofs.RowBits.{columns_value, columns_fit, columns_set}}
use Rattle.title_land.specs.Laws.Sides.{side_fits}
use Rattle.title_land.proofs.grid.columns_of.Goals as goal

pub overflow_shl-result : goal.overflow_shl-result
overflow_shl-result c = omega (arith, side_fits)

pub overflow_sub-result : goal.overflow_sub-result
overflow_sub-result c = omega (arith, side_fits, one_shl c.args.r.width 64 (omega (arith, side_fits)), pow_pos c.args.r.width)

pub overflow_shl-result-2 : goal.overflow_shl-result-2
overflow_shl-result-2 c = omega (arith, side_fits)

pub overflow_cast-result-3 : goal.overflow_cast-result-3
overflow_cast-result-3 c =
    let r = c.args.r in
    rw (columns_value r.left r.width (omega (arith, side_fits))) (Fits-of_lt (columns_fit r.left r.width 32 (omega (arith, side_fits))))

pub returns-clause-fits : goal.returns-clause-fits
returns-clause-fits c =
    let r = c.args.r in
    rw (columns_value r.left r.width (omega (arith, side_fits))) (columns_fit r.left r.width (side depth) c.requires.inside.1)

pub returns-clause-columns : goal.returns-clause-columns
returns-clause-columns c =
    let r = c.args.r in
    rw (columns_value r.left r.width (omega (arith, side_fits))) (columns_set r.left r.width)
