-- The office has settled what stood and the outcomes of all workers, so its records are made of these, and what stood comes first.
use Rattle.std.{proofs.Common.{sym, subst, reverse}, specs.List.{flat_map}}
use Rattle.title_settle.specs.Settling.{IsSettled}
use Rattle.title_day.{specs.DaysOn.{GoesOnFrom}, proofs.{OfficeCounts.{made_of}, StoodOutcomes.{goes_on}}}
use Rattle.title_day.proofs.office_day.settle.Goals as goal

pub returns-in-Ok-settle-clause-made : goal.returns-in-Ok-settle-clause-made
returns-in-Ok-settle-clause-made g c = λ old dealt is runs.
    let outcomes = c.in-Ok-gather.outcomes.items in
    let kept = sym c.close-in-Ok-settle.ensures.records in
    made_of g.B.Room.setting dealt c.as_slice.result.now c.args.worked.items c.in-Ok.tallies.items old c.args.stood.items outcomes
    c.close-in-Ok-settle.result (λ w. w.examiner) (λ w. w.outcomes.items) (λ w. w.aborted) (λ w. w.given_up) c.as_slice.ensures.value
    c.in-Ok.ensures.tallies c.in-Ok-gather.ensures.outcomes
    (subst (λ l. IsSettled l outcomes) kept c.in-Ok-settle.ensures.settled.5) is runs

pub returns-in-Ok-settle-clause-begins : goal.returns-in-Ok-settle-clause-begins
returns-in-Ok-settle-clause-begins g c = λ old is.
    let settled = c.in-Ok-settle.ensures.settled in
    let outcomes = c.in-Ok-gather.outcomes.items in
    let kept = sym c.close-in-Ok-settle.ensures.records in
    let on = goes_on c.in-Ok-settle.settled.records old c.args.stood.items outcomes
    (flat_map (λ w. w.outcomes.items) c.args.worked.items) is c.in-Ok-gather.ensures.outcomes settled.5 in
    subst (λ l. GoesOnFrom g.B.Room.setting (reverse old) l) kept (record {
      news = on.0;
      goes_on = on.1;
      serial = settled.4;
      trace = settled.0;
      due = settled.1;
      committed_are = settled.3;
    })
