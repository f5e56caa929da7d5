-- Those that are kept are the others'.
use Rattle.std.proofs.{Common.{rules}, lemmas.Fn.{filter_same}}
use Rattle.title_lock.proofs.row_locks.take_out.Goals as goal

pub returns : goal.returns
returns c = record { rows = filter_same _ _ _ (λ x b f' k. search rules) _ _ c.retain.ensures.filtered }
