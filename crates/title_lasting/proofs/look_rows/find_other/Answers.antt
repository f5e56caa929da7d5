-- A row more, the first that doesn't only look, or the end.
use Rattle.std.proofs.Common.{◌+◌, ◌-◌, ◌∙◌, arith, refl, sym}
use Rattle.csv.specs.Records.{fields_of}
use Rattle.title_plan.specs.{Limits.{most_rows}, Plans.{rows_in}}
use Rattle.title_lasting.proofs.OtherRows.{is_other, looks_on, none_left, none_taken}
use Rattle.title_lasting.proofs.look_rows.find_other.Goals as goal

pub loop-before-init : goal.loop-before-init
loop-before-init c = record { left = rows_in c.args.text.now; rows = c.open_text-reader.ensures.left; other = refl }

pub loop-before-preserved : goal.loop-before-preserved
loop-before-preserved c =
    let inv = c.loop-before.invariant in
    let before = c.loop-before.before in
    let took = rw c.if-not-found.false at (c.in_ok-found.ensures.took inv.left inv.rows) in
    record {
      left = took.0;
      rows = took.2;
      other = inv.other
          ∙ looks_on (before + 1) (most_rows - before) (most_rows - (before + 1)) inv.left took.0 (fields_of c.take_record.new.raw) took.1
          (omega (arith, c.loop-before-test.true)) (sym c.is_look-looks.ensures.look ∙ c.if-not-looks.false);
    }

pub returns-then-not-found : goal.returns-then-not-found
returns-then-not-found c =
    let inv = c.loop-before.invariant in
    let before = c.loop-before.before in
    let none = rw c.if-not-found.true at (c.in_ok-found.ensures.took inv.left inv.rows) in
    record { other = sym (inv.other ∙ none_left (before + 1) (most_rows - before) inv.left none) }

pub returns-then-not-looks : goal.returns-then-not-looks
returns-then-not-looks c =
    let inv = c.loop-before.invariant in
    let before = c.loop-before.before in
    let took = rw c.if-not-found.false at (c.in_ok-found.ensures.took inv.left inv.rows) in
    record {
      other = sym (inv.other
          ∙ is_other (before + 1) (most_rows - before) (most_rows - (before + 1)) inv.left took.0 (fields_of c.take_record.new.raw) took.1
          (omega (arith, c.loop-before-test.true)) (sym c.is_look-looks.ensures.look ∙ c.if-not-looks.true));
    }

pub returns : goal.returns
returns c =
    let inv = c.loop-before.invariant in
    let before = c.loop-before.before in
    record {
      other = sym (inv.other
          ∙ none_taken (before + 1) (most_rows - before) inv.left (omega (arith, c.loop-before-test.false, c.loop-before.auto.before-end)));
    }
