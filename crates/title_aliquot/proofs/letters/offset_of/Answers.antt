-- What was left to show of `offset_of`.
use Rattle.std.{proofs.Common.{◌≡◌, ◌∙◌, true, false, length, sym, ap, subst, arith, length-append}, specs.Prelude.{encode_utf8}}
use Rattle.std.{specs.Str.{IsUtf8, chars, Iter.{char_indices_rest, char_indices_offset}}, proofs.lemmas.List.{nil_from_length}}
use Rattle.std.proofs.lemmas.Str.{IsUtf8-past_char, chars-nil}
use Rattle.title_aliquot.{specs.Letters.{passed_over, offset}, proofs.TextWalks.{offset_passed, offset_here, offset_on}}
use Rattle.title_aliquot.proofs.letters.offset_of.Goals as goal

pub walk-init : goal.walk-init
walk-init c =
    let rest = sym c.char_indices-at-items.ensures.rest ∙ ap char_indices_rest (sym c.into_iter-at-iterator.ensures.into_iter_gives) in
    let none = ap char_indices_offset c.into_iter-at-iterator.ensures.into_iter_gives ∙ c.char_indices-at-items.ensures.offset in
    record {
      utf8 = subst IsUtf8 rest c.utf8.text;
      whole = omega (arith, none, ap length rest);
      same = ap (λ bs. offset (chars bs) c.args.letter) rest ∙ omega (arith, none);
    }

pub returns-then-left-eq0 : goal.returns-then-left-eq0
returns-then-left-eq0 c =
    let kept = c.walk.invariant in
    let step = c.in-Some.ensures.steps in
    let taken : passed_over c.in-Some.c ≡ false = sym c.is_passed_over.ensures.passed ∙ c.if-not-is_passed_over.true in
    let here = offset_here _ _ c.in-Some.c kept.utf8 step.1 taken in
    let none = ap (λ n. offset (chars (char_indices_rest c.walk.at-iterator)) n) c.if-left-eq0.true in
    record { offset = omega (arith, step.0, kept.same, none, here) }

pub walk-preserved-then-not-is_passed_over : goal.walk-preserved-then-not-is_passed_over
walk-preserved-then-not-is_passed_over c =
    let kept = c.walk.invariant in
    let step = c.in-Some.ensures.steps in
    let taken : passed_over c.in-Some.c ≡ false = sym c.is_passed_over.ensures.passed ∙ c.if-not-is_passed_over.true in
    let on = offset_on _ _ c.in-Some.c c.walk.left kept.utf8 step.1 taken (omega arith) in
    record {
      utf8 = IsUtf8-past_char _ _ c.in-Some.c kept.utf8 step.1;
      whole = omega (
        arith,
        kept.whole,
        step.2,
        ap length step.1,
        length-append (encode_utf8 c.in-Some.c) (char_indices_rest c.next.new.self),
      );
      same = omega (arith, kept.same, on, step.2);
    }

pub walk-preserved : goal.walk-preserved
walk-preserved c =
    let kept = c.walk.invariant in
    let step = c.in-Some.ensures.steps in
    let over : passed_over c.in-Some.c ≡ true = sym c.is_passed_over.ensures.passed ∙ c.if-not-is_passed_over.false in
    let passed = offset_passed _ _ c.in-Some.c c.walk.left kept.utf8 step.1 over in
    record {
      utf8 = IsUtf8-past_char _ _ c.in-Some.c kept.utf8 step.1;
      whole = omega (
        arith,
        kept.whole,
        step.2,
        ap length step.1,
        length-append (encode_utf8 c.in-Some.c) (char_indices_rest c.next.new.self),
      );
      same = omega (arith, kept.same, passed, step.2);
    }

pub returns : goal.returns
returns c =
    let kept = c.walk.invariant in
    let none = c.in-None.ensures.steps.0 in
    let ended = ap (λ bs. offset (chars bs) c.walk.left) (nil_from_length _ none) ∙ ap (λ cs. offset cs c.walk.left) chars-nil in
    record { offset = omega (arith, kept.whole, none, kept.same, ended) }
