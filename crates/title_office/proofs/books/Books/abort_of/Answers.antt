-- An abort where the transaction is open, and where it isn't.
use Rattle.std.proofs.Common.{cond, refl, sym, ap, ◌∙◌, subst}
use Rattle.title_trace.specs.{declared.{call.Reply.TheVariants.{Aborted, Denied}, denial.Denial.TheVariants.{NotOpen}}, Trace.{is_open}}
use Rattle.title_trace.specs.declared.call.Request.TheVariants.{Abort}
use Rattle.title_office.{specs.Offices.{IsServed}, proofs.Slips.{shut_aborted}}
use Rattle.title_office.proofs.books.Books.abort_of.Goals as goal

pub returns-in-Ok : goal.returns-in-Ok
returns-in-Ok g c =
    let stands = c.in-Ok.ensures.stands in
    let served = subst (λ n. IsServed g.B.Room.setting c.args.self.now (Abort n) c.serve.result c.serve.new.self)
    c.examiner.ensures.examiner c.serve.ensures.served in
    let begun = ap (λ n. is_open n c.args.self.now) c.examiner.ensures.examiner ∙ stands.0 in
    record {
      aborted = (
        c.args.self.now,
        (c.is_due.ensures.due, ap (λ b. cond b Aborted (Denied NotOpen)) (sym stands.0)),
        (λ _. stands),
        c.into_seat.ensures.seat,
      );
      shut = shut_aborted g.B.Room.setting c.args.self.now c.serve.new.self c.serve.result c.args.slip.seat.examiner served
          (c.serve.ensures.always_aborts _ refl begun);
    }
