use Rattle.title_dealing.proofs.TurnsOnto.{office_kept_onto}
use Rattle.title_dealing.proofs.laws.offices_keep_turns_onto.Goals as goal

pub returns : goal.returns
returns c = record { law = office_kept_onto }
