-- A step of the slip.
use Rattle.std.proofs.Common.{◌++◌, ◌∷◌, [], List, refl, ap, ◌∙◌, subst}
use Rattle.title_chain.specs.declared.ask.Step.{Step}
use Rattle.title_trace.specs.declared.call.Request.TheVariants as request
use Rattle.title_office.{specs.Offices.{IsRefused, SeatState, Stands, receipt_for, with_steps}, proofs.Replies.{refused_there}}
use Rattle.title_office.proofs.Slips.{answers, falls_at_step, put_back, with_answer}
use Rattle.title_office.proofs.books.Books.step_of.Goals as goal

pub returns-in-Err : goal.returns-in-Err
returns-in-Err g c = record {
  answered = (
    refl,
    falls_at_step g.B.Room.setting c.args.slip.now c.args.self.now (Stands c.args.slip.now) c.args.ask c.in-Err.why c.is_due.ensures.due
        c.in-Err.ensures.stands,
  );
  stands = tt;
}

pub returns-in-Err-answer : goal.returns-in-Err-answer
returns-in-Err-answer g c =
    let slip = c.args.slip.now in
    let told = c.in-Err-answer.ensures.added in
    let filled = put_back slip c.take_steps.new.self c.put_steps.new.self _ c.in-Ok.ensures.left c.put_steps.ensures.put in
    let why = refused_there g.B.Room.setting c.args.self.now (Stands slip) (request.Step c.examiner-examiner.result c.args.ask)
    c.in-Err-answer.why told.0 c.in_default.ensures.stands in
    record {
      answered = (
        filled ∙ ap (λ (l : List Step). with_steps slip l) (told.1 ∙ c.in-Ok.ensures.taken),
        subst (λ e. IsRefused g.B.Room.setting (Stands slip) (request.Step e c.args.ask) c.in-Err-answer.why)
            c.examiner-examiner.ensures.examiner why,
      );
      stands = tt;
    }

pub returns : goal.returns
returns g c =
    let slip = c.args.slip.now in
    let told = c.in_default-answer.ensures.added in
    let filled = put_back slip c.take_steps.new.self c.put_steps.new.self _ c.in-Ok.ensures.left c.put_steps.ensures.put in
    let is = with_answer slip c.put_steps.new.self c.see.new.self c.args.self.now c.args.ask told.0 _ c.receipt-receipt.result
    (told.3 ∙ ap (λ (l : List Step). l ++ record { ask = c.args.ask; answer = told.0 } ∷ []) c.in-Ok.ensures.taken)
    (c.receipt-receipt.ensures.receipt ∙ ap (λ (s : SeatState). receipt_for s c.args.self.now) c.seat.ensures.seat) filled
    c.see.ensures.seen in
    let both = answers g.B.Room.setting c.args.self.now c.add_step-answer.new.self slip c.see.new.self c.args.ask
    c.examiner-examiner.result told.0 c.examiner-examiner.ensures.examiner told.1 told.2 c.in_default.ensures.stands is in
    record { answered = both.0; stands = both.1 }
