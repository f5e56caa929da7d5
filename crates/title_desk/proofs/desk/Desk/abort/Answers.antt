-- A transaction is undone.
use Rattle.std.proofs.Common.{ap, refl, sym, ◌∙◌}
use Rattle.title_desk.specs.{Keeps.{images_of}, Opened.{found}}
use Rattle.title_desk.proofs.{States.{keeps_as}, Ends.{keeps_aborted, aborts, gone_newest, none_left}}
use Rattle.title_desk.proofs.desk.Desk.abort.Goals as goal

pub restore_all-requires : goal.restore_all-requires
restore_all-requires g c = record {
  able = rw (sym c.take-transaction.ensures.taken ∙ sym c.transaction.view_is, images_of) at (aborts c.args.examiner c.self.invariant);
}

pub tidy_up-requires : goal.tidy_up-requires
tidy_up-requires g c = record {
  idle = λ none. c.restore_all.ensures.out ∙ rw (sym c.take-transaction.ensures.taken ∙ sym c.transaction.view_is, images_of) at
      (none_left c.args.examiner _ c.self.invariant (gone_newest _) (sym c.take-transaction.ensures.left ∙ ap (λ all. found all) none));
}

pub invariant_of-self : goal.invariant_of-self
invariant_of-self g c =
    let taken = sym c.take-transaction.ensures.taken ∙ sym c.transaction.view_is in
    let opened = sym c.contains.ensures.found ∙ c.if-not-contains.false in
    keeps_as (keeps_aborted c.args.examiner (g.S.Store.content c.restore_all.new.store) c.self.invariant opened
    (rw (taken, images_of) c.restore_all.ensures.content)) c.then-self-inside.ensures.then refl c.take-transaction.ensures.left
    c.give_back.ensures.left c.tidy_up.ensures.content (c.tidy_up.ensures.declared ∙ c.restore_all.ensures.declared)
    (c.tidy_up.ensures.out ∙ rw (taken, images_of) c.restore_all.ensures.out)
