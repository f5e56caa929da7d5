-- What was left to show of `read_letters`.
use Rattle.std.{proofs.{Common.{◌∙◌, length, refl, sym, ap}, lemmas.Bool.{eqb-true}}, specs.Str.{chars}}
use Rattle.title_aliquot.specs.{Letters.{letters}, Readers.{description_at}, Views.{words_view}}
use Rattle.title_aliquot.specs.Laws.Whole.{left_some, words_found, left_after, stuck_after, left_shorter, stuck_shorter}
use Rattle.title_aliquot.proofs.describe.read_letters.Goals as goal

pub letters_before-requires : goal.letters_before-requires
letters_before-requires c =
    let stuck = sym (ap description_at c.new-reader.ensures.new) ∙ (rw c.in-Err-Stuck.field-0-is at c.in-Err-Stuck.ensures.read) in
    record { left = stuck_shorter (letters (chars c.args.text.now)) c.description.new.self stuck }

pub returns-in-Err-Stuck : goal.returns-in-Err-Stuck
returns-in-Err-Stuck c =
    let stuck = sym (ap description_at c.new-reader.ensures.new) ∙ (rw c.in-Err-Stuck.field-0-is at c.in-Err-Stuck.ensures.read) in
    let bad = stuck_after (letters (chars c.args.text.now)) c.description.new.self _ stuck refl in
    record { answers = rw c.letters_before.ensures.before bad }

pub letters_before-requires-then-not-is_done : goal.letters_before-requires-then-not-is_done
letters_before-requires-then-not-is_done c =
    let got = sym (ap description_at c.new-reader.ensures.new) ∙ c.in-Ok.ensures.read in
    record { left = left_shorter (letters (chars c.args.text.now)) (words_view c.in-Ok.words) c.description.new.self got }

pub returns-then-not-is_done : goal.returns-then-not-is_done
returns-then-not-is_done c =
    let got = sym (ap description_at c.new-reader.ensures.new) ∙ c.in-Ok.ensures.read in
    let some = left_some (length c.description.new.self) (sym c.is_done.ensures.done ∙ c.if-not-is_done.true) in
    record {
      answers = rw c.letters_before-then-not-is_done.ensures.before
          (left_after (letters (chars c.args.text.now)) (words_view c.in-Ok.words) c.description.new.self _ got refl some);
    }

pub returns : goal.returns
returns c =
    let l = eqb-true (length c.description.new.self) 0 (sym c.is_done.ensures.done ∙ c.if-not-is_done.false) in
    let got = sym (ap description_at c.new-reader.ensures.new) ∙ c.in-Ok.ensures.read in
    record { answers = words_found (letters (chars c.args.text.now)) (words_view c.in-Ok.words) c.description.new.self got l }
