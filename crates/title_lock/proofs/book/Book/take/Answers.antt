-- The examiner's last number finds its last entry; without it the others are left.
use Rattle.std.proofs.{Common.{◌≡◌, ◌<◌, ℕ, List, ap, ◌∙◌, sym, subst}, lemmas.{List.Elements.{All-same}, Map.Views.{All-map-remove_entry}}}
use Rattle.std.specs.{Map.{keys_of, remove_entry}, Ordering.{nat_cmp}, BTreeMap.{is_at}}
use Rattle.title_lock.specs.{declared.guards.Entry.{Entry}, Overlaps.{without}, Books.{numbers_of}}
use Rattle.title_lock.proofs.BookLaws.{IsTaken, taken_by, not_none, none_gone, kept_without}
use Rattle.title_lock.proofs.book.Book.take.Goals as goal

taken : (c : goal.After-remove) → IsTaken c.args.examiner (numbers_of c.pop_number.new.numbers c.args.examiner)
    c.self.inside.entries.entries c.remove.new.self.entries c.remove.result
taken c =
    let e = c.args.examiner in
    taken_by e c.in-Some.number (numbers_of c.pop_number.new.numbers e) c.self.inside.entries.entries c.remove.new.self.entries
    c.remove.result
    c.self.invariant.ascending (sym (c.self.invariant.own e) ∙ c.in-Some.ensures.some) c.remove.ensures.value c.remove.ensures.entries

pub returns-in_default-clause-none : goal.returns-in_default-clause-none
returns-in_default-clause-none c =
    let e = c.args.examiner in (
      c.self.view_is,
      subst (λ (t : List Entry). without e t ≡ t) c.self.view_is
          (none_gone e c.self.inside.entries.entries (sym (c.self.invariant.own e) ∙ c.in_default.ensures.none.0)),
    )

pub invariant_of-self-2 : goal.invariant_of-self-2
invariant_of-self-2 c =
    let k = c.in-Some.number in
    let es = c.self.inside.entries.entries in
    record {
      ascending = c.remove.ensures.ordered;
      below = All-same (λ j. j < c.self.inside.next) (keys_of c.remove.new.self.entries) (keys_of (remove_entry (is_at (nat_cmp k)) es))
          (ap (λ (t : List (ℕ × Entry)). keys_of t) c.remove.ensures.entries)
          (All-map-remove_entry (is_at (nat_cmp k)) (λ (p : ℕ × Entry). p.0) (λ j. j < c.self.inside.next) es c.self.invariant.below);
      own = λ f. (taken c).keys_are f (numbers_of c.pop_number.new.numbers f) (λ h. ap (numbers_of c.pop_number.new.numbers) h)
          (λ h. c.pop_number.ensures.others f h ∙ c.self.invariant.own f);
      kept = λ f. kept_without c.self.inside.numbers c.pop_number.new.numbers f c.args.examiner (c.pop_number.ensures.kept f)
          (c.self.invariant.kept f);
    }

pub returns-clause-own : goal.returns-clause-own
returns-clause-own c = (taken c).own

pub returns-clause-taken : goal.returns-clause-taken
returns-clause-taken c = (taken c).taken c.args.self.now c.self.view_is

pub returns-clause-none : goal.returns-clause-none
returns-clause-none c = not_none _ c.remove.result (taken c).some
