-- The new number is above all keys, so the entry goes to the end, and its number to the end of its examiner's.
use Rattle.std.{proofs.Common.{◌≡◌, ◌<◌, ℕ, List, [], ◌∷◌, ◌++◌, reverse, ap, ◌∙◌, sym, subst, arith}, specs.Map.{keys_of, values_of}}
use Rattle.std.proofs.lemmas.List.Elements.{All-weaker, All-push, All-same}
use Rattle.title_lock.specs.{declared.guards.Entry.{Entry}, Books.{numbers_of, own_keys}}
use Rattle.title_lock.proofs.BookLaws.{insert_last, view_more, keys_more, own_more, kept_more}
use Rattle.title_lock.proofs.book.Book.push.Goals as goal

pub invariant_of-self-2 : goal.invariant_of-self-2
invariant_of-self-2 c =
    let n = c.self.inside.next in
    let x = c.args.entry in
    let es = c.self.inside.entries.entries in
    let last = c.in-Ok.ensures.entries ∙ insert_last n x es c.self.invariant.below in
    record {
      ascending = c.insert.ensures.ordered;
      below = All-same (λ k. k < c.in-Some.next) (keys_of c.insert.new.self.entries) (keys_of es ++ n ∷ [])
          (ap (λ (t : List (ℕ × Entry)). keys_of t) last ∙ keys_more n x es)
          (All-push (λ k. k < c.in-Some.next) (keys_of es) n (All-weaker (λ k. k < n) (λ k. k < c.in-Some.next)
          (λ k h. omega (arith, c.in-Some.ensures)) (keys_of es) c.self.invariant.below) (omega (arith, c.in-Some.ensures)));
      own = λ e. own_more e n x es (numbers_of c.make_room.new.numbers e) (numbers_of c.push_number.new.numbers e)
          (c.make_room.ensures.numbers e ∙ c.self.invariant.own e)
          (λ h. subst (λ (f : ℕ). numbers_of c.push_number.new.numbers f ≡ numbers_of c.make_room.new.numbers f ++ n ∷ []) h
          c.push_number.ensures.own) (λ h. c.push_number.ensures.others e h) ∙ ap (own_keys e) (sym last);
      kept = λ e. kept_more c.push_number.new.numbers e x.examiner n (numbers_of c.make_room.new.numbers x.examiner)
          c.push_number.ensures.own
          (λ h. c.push_number.ensures.kept e h ∙ c.make_room.ensures.others e h ∙ c.self.invariant.kept e);
    }

pub returns-clause-ok : goal.returns-clause-ok
returns-clause-ok c =
    let n = c.self.inside.next in
    let x = c.args.entry in
    let es = c.self.inside.entries.entries in
    ap (λ (t : List (ℕ × Entry)). reverse (values_of t)) (c.in-Ok.ensures.entries ∙ insert_last n x es c.self.invariant.below)
    ∙ view_more n x es
    ∙ ap (λ (t : List Entry). x ∷ t) c.self.view_is
