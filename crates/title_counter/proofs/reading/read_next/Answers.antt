-- A byte more, a record's end, and the end of the text.
use Rattle.std.proofs.Common.{sym, ◌∙◌}
use Rattle.csv.specs.Records.{fields_of}
use Rattle.title_counter.{specs.Positions.{action_of, state_of}, proofs.RecordsOf.{ends_at_last, ends_here, goes_on, none_at_last}}
use Rattle.title_counter.proofs.reading.read_next.Goals as goal

pub loop-at-preserved : goal.loop-at-preserved
loop-at-preserved c = record {
  same = c.loop-at.invariant.same
      ∙ goes_on (state_of c.loop-at.position) (state_of c.step-step.result.position) (action_of c.step-step.result.act)
      (fields_of c.loop-at.begun.raw) (fields_of c.take.new.self.raw) c.loop-at.begun.field.items c.take.new.self.field.items
      c.args.text.now c.loop-at.at c.loop-at-test.true c.step-step.ensures.position c.step-step.ensures.act
      c.in_ok-take.ensures.fields (sym c.if-ends.ensures.ends) c.in_ok-take.ensures.field;
  clean = c.in_ok-take.ensures.clean;
}

pub returns-then-ends-clause-read : goal.returns-then-ends-clause-read
returns-then-ends-clause-read c = sym (c.loop-at.invariant.same
    ∙ ends_here (state_of c.loop-at.position) (state_of c.step-step.result.position) (action_of c.step-step.result.act)
    (fields_of c.loop-at.begun.raw) (fields_of c.take.new.self.raw) c.loop-at.begun.field.items c.take.new.self.field.items
    c.args.text.now c.loop-at.at c.loop-at-test.true c.step-step.ensures.position c.step-step.ensures.act
    c.in_ok-take.ensures.fields (sym c.if-ends.ensures.ends))

pub returns-then-not-is_within-clause-read : goal.returns-then-not-is_within-clause-read
returns-then-not-is_within-clause-read c = sym (c.loop-at.invariant.same
    ∙ none_at_last (state_of c.loop-at.position) (fields_of c.loop-at.begun.raw) c.loop-at.begun.field.items
    c.args.text.now c.loop-at.at c.loop-at-test.false (sym c.if-not-is_within.ensures.within))

pub returns-clause-read : goal.returns-clause-read
returns-clause-read c = sym (c.loop-at.invariant.same
    ∙ ends_at_last (state_of c.loop-at.position) (fields_of c.loop-at.begun.raw) c.loop-at.begun.field.items
    c.args.text.now c.loop-at.at c.loop-at-test.false (fields_of c.end_field.new.self.raw) (sym c.if-not-is_within.ensures.within)
    c.in_ok-end_field.ensures.fields)
