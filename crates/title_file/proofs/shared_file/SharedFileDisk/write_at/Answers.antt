-- A write that is refused leaves what might have been left.
use Rattle.title_disk.specs.Laws.KeptCalls.{torn_by_itself}
use Rattle.title_file.proofs.shared_file.SharedFileDisk.write_at.Goals as goal

pub returns-clause-crash : goal.returns-clause-crash
returns-clause-crash c content left = (content, tt, torn_by_itself _ _ content)
