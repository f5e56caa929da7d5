-- A township is declared once, and not too many are, and none after the first step row.
use Rattle.std.proofs.Common.{◌∙◌, subst, sym}
use Rattle.title_plan.specs.Laws.Declarations.{may_open}
use Rattle.title_trace.specs.Due.{MayOpen}
use Rattle.title_counter.specs.Views.{counter_of}
use Rattle.title_counter.proofs.RowLaws.{township_declared, township_late, township_refused}
use Rattle.title_counter.proofs.clerk.Clerk.declare_township.Goals as goal

pub returns-then-is_refused-clause-err : goal.returns-then-is_refused-clause-err
returns-then-is_refused-clause-err c =
    let test = rw c.as_slice-old.ensures.value at (sym c.is_refused.ensures.refused ∙ c.if-is_refused.true) in
    township_refused (counter_of c.args.self.now) c.args.township test

pub returns-then-is_begun-clause-err : goal.returns-then-is_begun-clause-err
returns-then-is_begun-clause-err c =
    let test = rw c.as_slice-old.ensures.value at (sym c.is_refused.ensures.refused ∙ c.if-is_refused.false) in
    township_late (counter_of c.args.self.now) c.args.township test (sym c.is_begun.ensures.begun ∙ c.if-is_begun.true)

pub open-requires : goal.open-requires
open-requires c = record {
  may_open = subst (MayOpen 65536) (sym c.as_slice.ensures.value)
      (may_open c.in_ok-townships.townships.items c.in_ok-townships.ensures.few c.in_ok-townships.ensures.once);
}

pub returns-clause-ok : goal.returns-clause-ok
returns-clause-ok c =
    let test = rw c.as_slice-old.ensures.value at (sym c.is_refused.ensures.refused ∙ c.if-is_refused.false) in
    township_declared (counter_of c.args.self.now) c.args.township c.in_ok-townships.townships.items c.len-number.result
    c.in_ok-desk.desk.trace test (sym c.is_begun.ensures.begun ∙ c.if-is_begun.false) c.args.self.now.unasked
    (rw c.as_slice-old.ensures.value at c.in_ok-townships.ensures.more)
    (c.len-number.ensures ∙ c.in_ok-townships.townships.ok.0) c.in_ok-desk.ensures.trace
