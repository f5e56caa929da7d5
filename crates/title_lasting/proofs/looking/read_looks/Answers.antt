-- The source isn't read, a row doesn't only look, or the script has a fault; or this is what it asks for.
use Rattle.std.proofs.{Common.{List, ℕ, subst}, lemmas.Result.{err_from_is_err_and}}
use Rattle.title_plan.specs.Onto.{before_in}
use Rattle.title_lasting.{specs.Looks.{IsLookUnread, IsOtherText}, proofs.LooksServed.{other_unread, script_unread, source_unread}}
use Rattle.title_lasting.proofs.Unmade.{ended_by}
use Rattle.title_lasting.proofs.looking.read_looks.Goals as goal

pub returns-in_err-script-clause-why : goal.returns-in_err-script-clause-why
returns-in_err-script-clause-why g c =
    let out = err_from_is_err_and c.from_residual.result c.from_residual.ensures.1 in
    rw (out.1, out.2) (source_unread (before_in c.args.declared) (g.R.Source.left c.args.source.now)
    (g.R.Source.has_failed c.read_all.new.source) c.in_err-script.field-0.0 c.in_err-script.ensures.read)

pub returns-in_err-see_rows-clause-why : goal.returns-in_err-see_rows-clause-why
returns-in_err-see_rows-clause-why g c =
    let before = before_in c.args.declared in
    let left = g.R.Source.left c.args.source.now in
    let failed = g.R.Source.has_failed c.read_all.new.source in
    let why = c.in_err-see_rows.field-0.0 in
    let other = subst (λ (text : List ℕ). IsOtherText text why) c.as_slice-text.ensures.value c.in_err-see_rows.ensures.why in
    ended_by (IsLookUnread before left failed) why c.from_residual-in_err-see_rows.result c.from_residual-in_err-see_rows.ensures.1
    (other_unread before left failed c.in_ok-script.script.items c.in_ok-script.ensures.bytes why other)

pub returns-in_err-plan-clause-why : goal.returns-in_err-plan-clause-why
returns-in_err-plan-clause-why g c =
    let out = err_from_is_err_and c.from_residual-in_err-plan.result c.from_residual-in_err-plan.ensures.1 in
    let why = rw c.as_slice-text.ensures.value at c.in_err-plan.ensures.why in
    rw (out.1, out.2) (script_unread (before_in c.args.declared) (g.R.Source.left c.args.source.now)
    (g.R.Source.has_failed c.read_all.new.source) c.in_ok-script.script.items c.in_ok-script.ensures.bytes c.in_err-plan.field-0.0 why)

pub returns-clause-asked : goal.returns-clause-asked
returns-clause-asked g c = record {
  asks = record {
    script = c.in_ok-script.script.items;
    read = c.in_ok-script.ensures.bytes;
    asks = rw c.as_slice-text.ensures.value at c.in_ok-plan.ensures.script;
  };
  looks = rw c.as_slice-text.ensures.value at c.in_ok-see_rows.ensures.looks;
}
