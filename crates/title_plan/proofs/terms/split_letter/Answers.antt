-- No other letter is an estate's.
use Rattle.std.proofs.{Common.{arith}, lemmas.Str.Pattern.{strip_prefix_char}}
use Rattle.title_plan.proofs.Texts.{no_letter}
use Rattle.title_plan.proofs.terms.split_letter.Goals as goal

pub returns : goal.returns
returns c =
    let s = rw c.in_default.is at (strip_prefix_char 83 _ _ c.strip_prefix.ensures.cases (omega arith)) in
    let o = rw c.in_default-strip_prefix.is at (strip_prefix_char 79 _ _ c.strip_prefix-2.ensures.cases (omega arith)) in
    let m = rw c.in_default-strip_prefix-2.is at (strip_prefix_char 77 _ _ c.strip_prefix-3.ensures.cases (omega arith)) in
    record { letter = no_letter c.args.text.now s o m }
