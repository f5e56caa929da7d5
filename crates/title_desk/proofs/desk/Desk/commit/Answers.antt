-- A transaction becomes a record.
use Rattle.std.proofs.{Common.{◌≡◌, ◌∷◌, ◌++◌, [], suc, arith, length, reverse, refl, ap, sym, ◌∙◌}, lemmas.Grind.{common_steps}}
use Rattle.std.proofs.lemmas.List.{reverse-append, reverse-reverse, length-reverse}
use Rattle.title_chain.specs.declared.record.Record.{Record}
use Rattle.title_desk.{specs.{Keeps.{own_of, images_of}, Opened.{found}}, proofs.{Found.{oldest_first}, States.{keeps_as}}}
use Rattle.title_desk.proofs.Ends.{keeps_committed, commits, gone_oldest, none_left}
use Rattle.title_desk.proofs.desk.Desk.commit.Goals as goal

pub forget_all-requires : goal.forget_all-requires
forget_all-requires g c =
    let taken = sym c.take-transaction.ensures.taken ∙ sym c.transaction.view_is in
    let turned = oldest_first g.S.Store.number c.transaction.inside.images.items in
    record { able = rw (taken, images_of, turned) at (commits c.args.examiner c.self.invariant) }

pub tidy_up-requires : goal.tidy_up-requires
tidy_up-requires g c =
    let taken = sym c.take-transaction.ensures.taken ∙ sym c.transaction.view_is in
    let turned = oldest_first g.S.Store.number c.transaction.inside.images.items in
    record {
      idle = λ none. c.forget_all.ensures.out ∙ rw (taken, images_of, turned) at
          (none_left c.args.examiner _ c.self.invariant (gone_oldest _) (sym c.take-transaction.ensures.left ∙ ap (λ all. found all) none));
    }

pub invariant_of-self-2 : goal.invariant_of-self-2
invariant_of-self-2 g c =
    let taken = sym c.take-transaction.ensures.taken ∙ sym c.transaction.view_is in
    let turned = oldest_first g.S.Store.number c.transaction.inside.images.items in
    let opened = sym c.contains.ensures.found ∙ c.if-not-contains.false in
    let old = c.self.inside.records.records in
    let now = c.push_reserved.new.self.records in
    let new : Record = record { examiner = c.args.examiner; steps = c.transaction.inside.steps.steps } in
    let more : now ≡ old ++ new ∷ [] = rw (c.push_reserved.ensures.records, c.reserve.ensures.records, c.into_steps.ensures.steps) refl in
    let records_are : reverse now ≡ new ∷ reverse old = ap reverse more ∙ reverse-append old (new ∷ []) in
    let len : c.len.result ≡ length now = grind (arith, common_steps, c.len.ensures) in
    let place : c.len.result ≡ suc (length (reverse old)) = len ∙ sym (length-reverse now) ∙ ap length records_are in
    keeps_as (keeps_committed c.args.examiner _ c.self.invariant opened (gone_oldest _))
    (rw (c.then-self-inside.ensures.then, place) refl) (records_are ∙ rw (taken, own_of, reverse-reverse) refl)
    c.take-transaction.ensures.left c.give_back.ensures.left (λ d. c.tidy_up.ensures.content d ∙ c.forget_all.ensures.content d)
    (c.tidy_up.ensures.declared ∙ c.forget_all.ensures.declared)
    (c.tidy_up.ensures.out ∙ c.forget_all.ensures.out ∙ rw (taken, images_of, turned) refl)
