-- A commit that nothing refuses.
use Rattle.std.proofs.Common.{length, refl, sym, ap, ◌∙◌, subst}
use Rattle.title_trace.specs.declared.call.Request.TheVariants as request
use Rattle.title_office.{specs.Offices.{IsServed, SeatState, Stands, receipt_for}, proofs.Replies.{refused}}
use Rattle.title_office.proofs.Slips.{commits, falls_at_commit, shut_committed}
use Rattle.title_views.specs.Views.{Shows}
use Rattle.title_office.proofs.books.Books.commit_of.Goals as goal

pub returns-in-Err : goal.returns-in-Err
returns-in-Err g c = record {
  committed = (
    refl,
    falls_at_commit g.B.Room.setting c.args.slip c.args.self.now (Stands c.args.slip) c.in-Err.why
        c.is_due.ensures.due c.in-Err.ensures.stands,
  );
  shut = tt;
}

pub returns-in-Some : goal.returns-in-Some
returns-in-Some g c =
    let served = subst (λ n. IsServed g.B.Room.setting c.args.self.now (request.Commit n) c.serve-reply.result c.serve-reply.new.self)
    c.examiner.ensures.examiner c.serve-reply.ensures.served in
    record {
      committed = (
        refl,
        refused g.B.Room.setting c.args.self.now c.serve-reply.new.self (Stands c.args.slip)
            (request.Commit c.args.slip.seat.examiner) c.serve-reply.result c.in-Some.why c.is_due.ensures.due
            served c.in_default.ensures.stands (sym c.in-Some.ensures.refusal),
      );
      shut = tt;
    }

pub returns : goal.returns
returns g c =
    let none = sym c.in_default-refusal.ensures.refusal in
    let own = sym c.examiner.ensures.own ∙ c.examiner.ensures.examiner in
    let served = subst (λ n. IsServed g.B.Room.setting c.args.self.now (request.Commit n) c.serve-reply.result c.serve-reply.new.self)
    c.examiner.ensures.examiner c.serve-reply.ensures.served in
    record {
      committed = commits g.B.Room.setting c.args.slip c.args.self.now c.serve-reply.new.self c.serve-reply.result
          c.committed.result.place c.committed.result.rec c.committed.result.receipt c.committed.result.seat c.is_due.ensures.few
          c.is_due.ensures.due served none c.in_default.ensures.stands own
          (c.committed.ensures.place ∙ ap (λ (q : Shows). length q.front) (sym c.committed.ensures.receipt))
          (c.committed.ensures.receipt ∙ c.receipt-receipt.ensures.receipt
          ∙ ap (λ (s : SeatState). receipt_for s c.serve-reply.new.self) c.seat.ensures.seat)
          c.committed.ensures.rec
          (c.committed.ensures.seat ∙ ap (λ n. record c.args.slip.seat { seen = n }) (sym c.committed.ensures.place));
      shut = shut_committed g.B.Room.setting c.args.self.now c.serve-reply.new.self c.serve-reply.result
          c.args.slip.seat.examiner served none;
    }
