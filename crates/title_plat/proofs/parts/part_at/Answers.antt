-- The run of rows that a row begins.
use Rattle.std.proofs.Common.{arith}
use Rattle.title_plat.proofs.Walks.{part_then, run_within}
use Rattle.title_plat.proofs.parts.part_at.Goals as goal

pub overflow_add-result-2 : goal.overflow_add-result-2
overflow_add-result-2 c = omega (arith, run_within c.args.rows.now _ c.args.first _ c.requires.here c.run_length-count.ensures.run)

pub returns-clause-within : goal.returns-clause-within
returns-clause-within c = run_within c.args.rows.now _ c.args.first _ c.requires.here c.run_length-count.ensures.run

pub returns-clause-part : goal.returns-clause-part
returns-clause-part c =
    part_then c.args.rows.now c.args.first _ c.index-rows-first.result c.requires.here c.index-rows-first.is
    c.run_length-count.ensures.run
