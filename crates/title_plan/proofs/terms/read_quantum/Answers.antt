-- Why a text is no quantum.
use Rattle.std.proofs.{Common.{arith}, lemmas.Str.Pattern.{strip_prefix_char}}
use Rattle.title_plan.proofs.Texts.{no_quantum}
use Rattle.title_plan.proofs.terms.read_quantum.Goals as goal

pub returns : goal.returns
returns c =
    let whole = rw c.in_default.is at (strip_prefix_char 87 _ _ c.strip_prefix.ensures.cases (omega arith)) in
    let interest = rw c.in_default-strip_prefix.is at (strip_prefix_char 73 _ _ c.strip_prefix-2.ensures.cases (omega arith)) in
    record { quantum = no_quantum c.args.text.now whole interest }
