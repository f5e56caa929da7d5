use Rattle.std.proofs.Common.{[], ◌∷◌}
use Rattle.title_journal.{specs.Blocks.{closed_gate}, proofs.Standing.{stands}}
use Rattle.title_journal.proofs.laws.put_blocks_read_back.Goals as goal

pub returns : goal.returns
returns c = record { read = λ blocks whole. stands blocks (closed_gate ∷ []) whole tt }
