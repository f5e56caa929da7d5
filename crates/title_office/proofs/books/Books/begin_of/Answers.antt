-- A Begin that nothing refuses.
use Rattle.std.proofs.Common.{◌∷◌, refl, sym, ap, ◌∙◌, subst}
use Rattle.title_trace.specs.declared.call.Reply.{Reply}
use Rattle.title_trace.specs.declared.call.Request.TheVariants as request
use Rattle.title_office.{specs.Offices.{HasSeen, IsServed}, proofs.{Replies.{added, began, refused}, Slips.{begun, call, stands_begun}}}
use Rattle.title_office.proofs.books.Books.begin_of.Goals as goal

pub returns-in-Some : goal.returns-in-Some
returns-in-Some g c =
    let served = subst (λ n. IsServed g.B.Room.setting c.args.self.now (request.Begin n) c.serve-reply.result c.serve-reply.new.self)
    c.examiner-examiner.ensures.examiner c.serve-reply.ensures.served in
    record {
      begun = (
        refl,
        refused g.B.Room.setting c.args.self.now c.serve-reply.new.self (HasSeen c.args.seat)
            (request.Begin c.args.seat.examiner) c.serve-reply.result c.in-Some.why c.is_due.ensures.due served
            (c.if-not-has_shown.ensures.shown refl) (sym c.in-Some.ensures.refusal),
      );
      stands = tt;
    }

pub returns : goal.returns
returns g c =
    let e = c.args.seat.examiner in
    let before = c.args.self.now in
    let served = subst (λ n. IsServed g.B.Room.setting before (request.Begin n) c.serve-reply.result c.serve-reply.new.self)
    c.examiner-examiner.ensures.examiner c.serve-reply.ensures.served in
    let none = sym c.in_default.ensures.refusal in
    let a = added g.B.Room.setting before c.serve-reply.new.self (request.Begin e) c.serve-reply.result served none in
    let is = began g.B.Room.setting before e c.serve-reply.result a.1 none in
    let slip = c.opened.ensures.opened ∙ begun before c.args.seat c.receipt-receipt.result c.receipt-receipt.ensures.receipt in
    record {
      begun = (before, (c.is_due.ensures.due, sym is ∙ a.1), c.if-not-has_shown.ensures.shown refl, slip);
      stands = stands_begun before c.serve-reply.new.self c.args.seat c.opened.result
          (a.0 ∙ ap (λ (s : Reply). call (request.Begin e) s ∷ before) is) slip;
    }
