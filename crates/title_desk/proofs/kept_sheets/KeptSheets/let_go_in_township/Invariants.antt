-- The sections before this one have no sheets any more, and outside the township all stay.
use Rattle.title_desk.proofs.Homes.{AreSwept, OutsideStay}
use Rattle.title_desk.proofs.kept_sheets.KeptSheets.let_go_in_township.Given as goal

abbrev pub invariant-loop-number : goal.invariant-loop-number
invariant-loop-number l = record {
  swept : AreSwept l.township l.number l.fn.self l.self;
  outside : OutsideStay l.township l.fn.self l.self;
}
