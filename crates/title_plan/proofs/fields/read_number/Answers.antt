-- A text is a number up to the greatest by the definition where it writes one.
use Rattle.std.proofs.{Common.{◌≡◌, ◌∙◌, sym, arith, true, nat_le}, lemmas.Bool.Decides.{nat_tests}}
use Rattle.title_plan.proofs.Texts.{no_number, number_is}
use Rattle.title_plan.proofs.fields.read_number.Goals as goal

pub returns-in_err-number : goal.returns-in_err-number
returns-in_err-number c = record {
  number = c.from_residual.ensures ∙ no_number c.args.greatest c.args.text.now (omega arith) c.in_err-number.ensures.number;
}

pub returns : goal.returns
returns c =
    let within : nat_le c.in_ok-number.number c.args.greatest ≡ true = grind (arith, nat_tests) in
    let is = number_is c.args.greatest c.in_ok-number.number c.args.text.now c.in_ok-number.ensures.number in
    record { number = sym (rw within at is) }
