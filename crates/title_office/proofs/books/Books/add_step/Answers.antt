-- A step that is answered, and one that is not.
use Rattle.std.proofs.Common.{◌≡◌, ◌++◌, ◌∷◌, [], List, refl, ap, ◌∙◌}
use Rattle.title_chain.specs.declared.ask.{Ask.{Ask}, Step.{Step}}
use Rattle.title_trace.specs.declared.call.Request.TheVariants as request
use Rattle.title_office.proofs.Replies.{answered, refused, to_step}
use Rattle.title_office.proofs.books.Books.add_step.Goals as goal

pub answer_in-requires : goal.answer_in-requires
answer_in-requires g c = record {
  step = to_step g.B.Room.setting c.args.self.now c.serve-reply.new.self c.args.examiner c.args.ask c.serve-reply.result
      c.serve-reply.ensures.served;
}

pub returns-in-Ok-answer_in : goal.returns-in-Ok-answer_in
returns-in-Ok-answer_in g c =
    let a = answered g.B.Room.setting c.args.self.now c.serve-reply.new.self (request.Step c.args.examiner c.args.ask)
    c.serve-reply.result c.in-Ok-answer_in.answer c.serve-reply.ensures.served c.in-Ok-answer_in.ensures.answer in
    record {
      added = (
        c.in-Ok-answer_in.answer,
        (c.is_due.ensures.due, a.1),
        a.0,
        c.push_reserved.ensures.items
            ∙ ap (λ (l : List Step). l ++ record { ask = c.in-Ok.copied; answer = c.in-Ok-answer_in.answer } ∷ []) c.reserve.ensures.items
            ∙ ap (λ (a : Ask). c.args.steps.now.items ++ record { ask = a; answer = c.in-Ok-answer_in.answer } ∷ []) c.in-Ok.ensures.copy,
      );
    }

pub returns-in-Err : goal.returns-in-Err
returns-in-Err g c = record {
  added = (
    refused g.B.Room.setting c.args.self.now c.serve-reply.new.self (λ before. before ≡ c.args.self.now)
        (request.Step c.args.examiner c.args.ask) c.serve-reply.result c.in-Err.why c.is_due.ensures.due c.serve-reply.ensures.served refl
        c.in-Err.ensures.answer,
    c.reserve.ensures.items,
  );
}
