-- What was left to show of `split_letter`.
use Rattle.std.{proofs.{Common.{◌∙◌, sym, ap, subst}, lemmas.List.{nil_from_length}}, specs.Str.{IsUtf8, chars}}
use Rattle.std.proofs.lemmas.Str.{IsUtf8-past_char, chars-nil}
use Rattle.title_aliquot.{specs.Letters.{letters}, proofs.TextWalks.{letters_passed, letters_taken}}
use Rattle.title_aliquot.proofs.letters.split_letter.Goals as goal

pub passed-init : goal.passed-init
passed-init c =
    let rest = sym c.chars-characters.ensures.rest in
    record { utf8 = subst IsUtf8 rest c.utf8.text; same = ap (λ bs. letters (chars bs)) rest }

pub passed-preserved : goal.passed-preserved
passed-preserved c =
    let step = c.in-Some.ensures.steps.0 in
    record {
      utf8 = IsUtf8-past_char _ _ c.in-Some.c c.passed.invariant.utf8 step;
      same = c.passed.invariant.same ∙ letters_passed _ _ c.in-Some.c c.passed.invariant.utf8 step c.in_default-letter_of.ensures.letter;
    }

pub returns-in-Some-letter_of : goal.returns-in-Some-letter_of
returns-in-Some-letter_of c =
    let step = c.in-Some.ensures.steps.0 in
    let letter = c.in-Some-letter_of.ensures.letter in
    record {
      split = c.passed.invariant.same ∙ letters_taken _ _ c.in-Some.c c.passed.invariant.utf8 step letter.0
          ∙ rw (letter.1, c.as_str.ensures);
    }

pub returns : goal.returns
returns c =
    let none = ap chars (nil_from_length _ c.in_default.ensures.steps.0.0) ∙ chars-nil in
    record { split = c.passed.invariant.same ∙ ap letters none }
