-- A seat of this office.
use Rattle.std.proofs.Common.{arith, ap}
use Rattle.title_office.{specs.Offices.{SeatState}, proofs.Ends.{anyway}}
use Rattle.title_office.proofs.office.Office.begin.Goals as goal

pub returns : goal.returns
returns g c = record {
  begun = c.begin_of-answer.ensures.begun;
  own = anyway c.begin_of-answer.result
      (omega (arith, c.if-seat-self, ap (λ (s : SeatState). s.number) c.seat.view_is, c.self.view_is));
}
