-- The desk has served the plan, and the headline is true of it.
use Rattle.title_plan.specs.Asked.{asked_in}
use Rattle.title_lasting.proofs.LooksServed.{headline_at}
use Rattle.title_lasting.proofs.looking.serve_looks_at.Goals as goal

pub returns : goal.returns
returns g c = record {
  served = record {
    report = c.in_ok-served.ensures.report;
    headline = headline_at c.args.desk.now c.serve_onto.new.desk (asked_in c.args.plan) _ c.headline.result.1.now
        c.serve_onto.ensures.setting c.in_ok-served.ensures.trace c.headline.ensures.headline;
  };
}
