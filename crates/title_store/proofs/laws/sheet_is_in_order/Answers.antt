-- The law is a lemma.
use Rattle.title_land.specs.Depth.{depth}
use Rattle.title_store.proofs.SheetTurns.{sheet_is_in_order as lemma}
use Rattle.title_store.proofs.laws.sheet_is_in_order.Goals as goal

pub returns : goal.returns
returns c = record { law = lemma depth }
