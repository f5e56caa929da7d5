use Rattle.title_file.proofs.Doubts.{written_as_read}
use Rattle.title_file.proofs.laws.files_written_again_are_as_read.Goals as goal

pub returns : goal.returns
returns c = record { again = written_as_read }
